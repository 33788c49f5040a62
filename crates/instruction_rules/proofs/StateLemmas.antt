-- States as lists of eleven.
use Rattle.std.proofs.Common.{◌≡◌, Option, Some, None, Ok, Err, ℕ, zero, suc, ◌+◌, ◌≤◌, ◌<◌, List, [], ◌∷◌, length, drop, slice_set, arith, refl, ◌⊎◌, to_z-of_z}
use Rattle.std.proofs.lemmas.Int.{ints}
use Rattle.value_ranges.specs.declared.abs.Abs.{Abs}
use Rattle.value_ranges.specs.declared.abs.Abs.TheVariants.{Unset}
use Rattle.instruction_rules.specs.declared.rule.Rule.{Rule}
use Rattle.instruction_rules.specs.declared.state.AbsState.{AbsState}
use Rattle.instruction_rules.specs.Joining.{joined_to}
use Rattle.instruction_rules.specs.Judged.{judged}
use Rattle.instruction_rules.specs.States.{joined_state}

pub ruleset signed_values = (ints, to_z-of_z)

-- after a call
pub called : (xs : List Abs) (answer : Abs) → length xs ≡ 11 →
    slice_set (slice_set (slice_set (slice_set (slice_set (slice_set xs 0 answer) 1 Unset) 2 Unset) 3 Unset) 4 Unset) 5 Unset
    ≡ answer ∷ Unset ∷ Unset ∷ Unset ∷ Unset ∷ Unset ∷ drop 6 xs
called (a ∷ b ∷ c ∷ d ∷ e ∷ f ∷ xs) answer long = refl
called [] answer long = absurd (omega (arith, long))
called (a ∷ []) answer long = absurd (omega (arith, long))
called (a ∷ b ∷ []) answer long = absurd (omega (arith, long))
called (a ∷ b ∷ c ∷ []) answer long = absurd (omega (arith, long))
called (a ∷ b ∷ c ∷ d ∷ []) answer long = absurd (omega (arith, long))
called (a ∷ b ∷ c ∷ d ∷ e ∷ []) answer long = absurd (omega (arith, long))

-- a list of eleven, by its elements
of_eleven : (P : List Abs → Type 0) → ((a b c d e f g h i j k : Abs) → P (a ∷ b ∷ c ∷ d ∷ e ∷ f ∷ g ∷ h ∷ i ∷ j ∷ k ∷ [])) →
    (xs : List Abs) → length xs ≡ 11 → P xs
of_eleven P go (a ∷ b ∷ c ∷ d ∷ e ∷ f ∷ g ∷ h ∷ i ∷ j ∷ k ∷ []) long = go a b c d e f g h i j k
of_eleven P go (a ∷ b ∷ c ∷ d ∷ e ∷ f ∷ g ∷ h ∷ i ∷ j ∷ k ∷ l ∷ xs) long = absurd (omega (arith, long))
of_eleven P go [] long = absurd (omega (arith, long))
of_eleven P go (a ∷ []) long = absurd (omega (arith, long))
of_eleven P go (a ∷ b ∷ []) long = absurd (omega (arith, long))
of_eleven P go (a ∷ b ∷ c ∷ []) long = absurd (omega (arith, long))
of_eleven P go (a ∷ b ∷ c ∷ d ∷ []) long = absurd (omega (arith, long))
of_eleven P go (a ∷ b ∷ c ∷ d ∷ e ∷ []) long = absurd (omega (arith, long))
of_eleven P go (a ∷ b ∷ c ∷ d ∷ e ∷ f ∷ []) long = absurd (omega (arith, long))
of_eleven P go (a ∷ b ∷ c ∷ d ∷ e ∷ f ∷ g ∷ []) long = absurd (omega (arith, long))
of_eleven P go (a ∷ b ∷ c ∷ d ∷ e ∷ f ∷ g ∷ h ∷ []) long = absurd (omega (arith, long))
of_eleven P go (a ∷ b ∷ c ∷ d ∷ e ∷ f ∷ g ∷ h ∷ i ∷ []) long = absurd (omega (arith, long))
of_eleven P go (a ∷ b ∷ c ∷ d ∷ e ∷ f ∷ g ∷ h ∷ i ∷ j ∷ []) long = absurd (omega (arith, long))

-- the registers below n joined, one after the other
abbrev pub joined_below : AbsState → AbsState → ℕ → AbsState
joined_below s t zero = s
joined_below s t (suc n) = joined_to (joined_below s t n) t n

-- eleven registers are all
pub joined_all : (s t : AbsState) → length s.registers ≡ 11 → joined_below s t 11 ≡ joined_state s t
joined_all s t long =
    of_eleven (λ (xs : List Abs). joined_below (record { registers = xs }) t 11 ≡ joined_state (record { registers = xs }) t)
    (λ a b c d e f g h i j k. refl) s.registers long

-- what a verdict says
pub refused_is : (o : Option Rule) (left : Abs) (rule : Rule) → Err rule ≡ judged o left → o ≡ Some rule
refused_is None left rule e = absurd (cc)
refused_is (Some other) left rule e = cc

pub allowed_is : (o : Option Rule) (left found : Abs) → Ok found ≡ judged o left → (o ≡ None) × (found ≡ left)
allowed_is None left found e = (refl, cc)
allowed_is (Some other) left found e = absurd (cc)
