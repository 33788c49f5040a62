use Rattle.std.proofs.Common.{◌≡◌, length}
use Rattle.std.specs.Prelude.{None}
use Rattle.verifier.specs.Propagation.{HasPropagated, IsFirst, IsAmong}
use Rattle.verifier.specs.Survey.{subject_of}
use Rattle.verifier.proofs.in_state.in_state_at.Given as goal

abbrev pub invariant-loop-place : goal.invariant-loop-place
invariant-loop-place l = record {
  propagated : HasPropagated (subject_of l.survey) l.survey.graph.now.order l.place l.sources l.states.items;
  told : IsFirst (subject_of l.survey) l.survey.graph.now.order l.place None;
  long : length l.regions.items ≡ length l.survey.graph.now.code;
  away : IsAmong l.survey.graph.now.order l.place l.slot → ⊥;
}
