use Rattle.std.proofs.Common.{◌≡◌, All, map}
use Rattle.explain.specs.Arriving.{subject_of_program}
use Rattle.explain.specs.Faults.{IsFaultTold, refusals_below}
use Rattle.explain.specs.Lines.{numbered_text}
use Rattle.explain.proofs.faults.faults.Given as goal

abbrev pub invariant-loop-slot : goal.invariant-loop-slot
invariant-loop-slot l = record {
  all : map (λ why. why.refusal) l.list.items ≡ refusals_below (subject_of_program l.analyzed) l.slot;
  each : All (IsFaultTold (subject_of_program l.analyzed) l.placed (map numbered_text l.lines)) l.list.items;
}
