-- The first argument that is refused.
use Rattle.std.proofs.Common.{◌≡◌, ℕ, zero, suc, ◌<◌, Option, Some, None, arith, inl, inr, ap, ◌∙◌, subst}
use Rattle.std.proofs.lemmas.Bool.{cases_lt}
use Rattle.instruction_rules.specs.declared.rule.Rule.{Rule}
use Rattle.instruction_rules.specs.declared.state.AbsState.{AbsState}
use Rattle.instruction_rules.specs.Covers.{abs_at}
use Rattle.instruction_rules.specs.States.{first_rule, unset_fault, number_fault, unset_arguments, number_arguments}

second : (a b : Option Rule) (rule : Rule) → a ≡ None → b ≡ Some rule → first_rule a b ≡ Some rule
second a b rule x y = ap (λ (o : Option Rule). first_rule o b) x ∙ y

pub unset_there : (state : AbsState) (count k : ℕ) (rule : Rule) → unset_arguments state k ≡ None → unset_fault (abs_at state (suc k)) ≡ Some rule →
    k < count → unset_arguments state count ≡ Some rule
unset_there state zero k rule x y lt = absurd (omega (arith, lt))
unset_there state (suc count) k rule x y lt = elim (cases_lt k count) [
  | inl low ↦ ap (λ (o : Option Rule). first_rule o (unset_fault (abs_at state (suc count)))) (unset_there state count k rule x y low)
  | inr high ↦ let same : k ≡ count = omega arith in
      subst (λ (n : ℕ). first_rule (unset_arguments state n) (unset_fault (abs_at state (suc n))) ≡ Some rule) same
      (second (unset_arguments state k) (unset_fault (abs_at state (suc k))) rule x y)
]

pub number_there : (state : AbsState) (count k : ℕ) (rule : Rule) → number_arguments state k ≡ None → number_fault (abs_at state (suc k)) ≡ Some rule →
    k < count → number_arguments state count ≡ Some rule
number_there state zero k rule x y lt = absurd (omega (arith, lt))
number_there state (suc count) k rule x y lt = elim (cases_lt k count) [
  | inl low ↦ ap (λ (o : Option Rule). first_rule o (number_fault (abs_at state (suc count)))) (number_there state count k rule x y low)
  | inr high ↦ let same : k ≡ count = omega arith in
      subst (λ (n : ℕ). first_rule (number_arguments state n) (number_fault (abs_at state (suc n))) ≡ Some rule) same
      (second (number_arguments state k) (number_fault (abs_at state (suc k))) rule x y)
]
