use Rattle.std.proofs.Common.{length, slice_index_or, None}
use Rattle.verifier.specs.Survey.{subject_of}
use Rattle.verifier.specs.Propagation.{HasPropagated}
use Rattle.verifier.specs.Sources.{slots_left}
use Rattle.verifier.proofs.states.propagate_waiting.Given as goal

abbrev pub invariant-loop-from : goal.invariant-loop-from
invariant-loop-from l = HasPropagated (subject_of l.survey) l.survey.graph.now.order l.place l.sources l.states

abbrev pub decreases-loop-from : goal.decreases-loop-from
decreases-loop-from l = slots_left (length l.survey.graph.now.code) (slice_index_or l.sources.first l.slot None)
