-- How many of the first entries of a schedule name one task.
use Rattle.std.proofs.Common.{◌≡◌, ℕ, ◌<◌, ◌≤◌, ◌+◌, ◌-◌, ◌∙◌, List, length, take, drop, get_or, length-take, sym, ap, arith, inl, inr}
use Rattle.std.proofs.lemmas.Bool.{cases_lt}
use Rattle.std.proofs.lemmas.List.{get_or-drop, get_or-take, length-drop}

-- so many of the first entries name the task
abbrev pub AreNamed : List ℕ → ℕ → ℕ → Type 0
AreNamed schedule named number =
    (0 < named) × (named ≤ length schedule) × ((i : ℕ) → i < named → get_or schedule i 0 ≡ number)

-- and so does each of those behind them
pub more_named : (schedule : List ℕ) (named size number : ℕ) → AreNamed schedule named number → named + size ≤ length schedule →
    ((i : ℕ) → i < length (take size (drop named schedule)) → get_or (take size (drop named schedule)) i 0 ≡ number) →
    AreNamed schedule (named + size) number
more_named schedule named size number are fits each = (
  let some = are.0 in omega (arith, some),
  fits,
  λ i less. elim (cases_lt i named) [
    | inl low ↦ are.2 i low
    | inr high ↦
        let place : i ≡ named + (i - named) = omega (arith, high) in
        let within : i - named < size = omega (arith, high, less) in
        let taken = length-take size (drop named schedule) in
        let left = length-drop named schedule in
        let long : i - named < length (take size (drop named schedule)) = omega (arith, taken, left, within, fits) in
        ap (λ m. get_or schedule m 0) place ∙ sym (get_or-drop named schedule (i - named) 0)
        ∙ sym (get_or-take size (drop named schedule) (i - named) 0 within) ∙ each (i - named) long
  ],
)
