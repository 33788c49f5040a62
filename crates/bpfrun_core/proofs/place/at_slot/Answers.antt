use Rattle.std.proofs.Common.{refl}
use Rattle.bpfrun_core.specs.FaultLines.{between, no_program, there}
use Rattle.explain.proofs.PlaceLemmas.{line_there}
use Rattle.bpfrun_core.proofs.place.at_slot.Goals as goal

pub returns-in-Err : goal.returns-in-Err
returns-in-Err c = no_program c.in-Err.field-0 c.in-Err.ensures.refused refl

pub returns-in-Some : goal.returns-in-Some
returns-in-Some c =
    let lines = c.in_ok-lines_of-in-Some.field-0.items in
    let got = rw c.deref-in-Some.ensures.value at c.line_at.ensures in
    there c.in-Ok.placed.items c.in-Some.index c.in-Ok.ensures.found (rw c.deref.ensures.value at c.in-Some.ensures) (line_there lines _ c.in-Some.index c.line_at.result c.in_ok-lines_of-in-Some.ensures got)

pub returns : goal.returns
returns c = between c.in-Ok.placed.items c.in-Ok.ensures.found (rw c.deref.ensures.value at c.in-None.ensures) refl
