use Rattle.std.proofs.Common.{refl}
use Rattle.std.proofs.lemmas.Result.{IfOk-weaker}
use Rattle.explain.specs.Lines.{among, no_program}
use Rattle.explain.proofs.instruction_places.place_at.Goals as goal

pub returns-in-Err : goal.returns-in-Err
returns-in-Err c = no_program c.in-Err.field-0 c.in-Err.ensures.refused refl

pub returns : goal.returns
returns c =
    IfOk-weaker c.place_in.result _ _ (λ place there.
    among c.in-Ok.placed.items c.in-Ok.ensures.found _ c.in_ok-lines.ensures (rw (c.deref.ensures.value, c.deref-2.ensures.value) at there)) c.place_in.ensures
