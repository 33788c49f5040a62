use Rattle.std.proofs.Common.{◌∙◌, subst, sym, ℤ}
use Rattle.std.specs.Prelude.{FitsSigned}
use Rattle.std.specs.Int.{w16, w32}
use Rattle.std.proofs.lemmas.Int.{to_z-of_z}
use Rattle.assembler.proofs.Values.{one_offset, widened}
use Rattle.assembler.proofs.reading.offset_from.Goals as goal

pub returns-in-Err : goal.returns-in-Err
returns-in-Err c = λ z f e.
    let same = one_offset _ c.in_ok-wide_offset_from.field-0 z c.in_ok-wide_offset_from.ensures.1 (widened z f) c.in_ok-wide_offset_from.ensures.0 e in
    let again = to_z-of_z w32 c.in_ok-wide_offset_from.field-0 c.in_ok-wide_offset_from.ensures.1 in
    absurd (c.in-Err.ensures (subst (λ (x : ℤ). FitsSigned w16 x) (sym (again ∙ same)) f))
