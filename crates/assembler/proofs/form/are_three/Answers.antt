use Rattle.std.proofs.Common.{refl}
use Rattle.assembler.specs.Forms.{IsOfForm, IsPair}
use Rattle.assembler.proofs.FormLemmas.{pair_in, pair_made, pair_none, never}
use Rattle.assembler.proofs.form.are_three.Goals as goal

pub returns-else-is_of_form : goal.returns-else-is_of_form
returns-else-is_of_form c = rw c.if-is_of_form.false (never, λ h. c.if-is_of_form.ensures.1 (pair_in c.args.first (IsPair (IsOfForm c.args.second) (IsOfForm c.args.third)) _ _ _ c.in-Some.ensures.found h).0)

pub returns-then-is_of_form : goal.returns-then-is_of_form
returns-then-is_of_form c = (
  (λ h. pair_made c.args.first (IsPair (IsOfForm c.args.second) (IsOfForm c.args.third)) _ _ _ c.in-Some.ensures.found (c.if-is_of_form.ensures.0 refl) (c.are_two.ensures.0 h)),
  (λ h. c.are_two.ensures.1 (pair_in c.args.first (IsPair (IsOfForm c.args.second) (IsOfForm c.args.third)) _ _ _ c.in-Some.ensures.found h).1),
)

pub returns-in-None : goal.returns-in-None
returns-in-None c = (never, λ h. absurd (pair_none c.args.first (IsPair (IsOfForm c.args.second) (IsOfForm c.args.third)) _ c.in-None.ensures.none h))
