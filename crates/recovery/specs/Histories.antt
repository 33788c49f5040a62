-- The states that changes lead to. A change is seen here as the payload of its record.
use Rattle.std.specs.Prelude.{◌≡◌, ℕ, List, [], ◌∷◌, ◌++◌}
use Rattle.std.specs.List.{AllByRecursion}

-- changes, in order, lead from one state of a machine to another
abbrev pub ReplaysChanges : {M : Type 0} → (M → List ℕ → M → Type 0)
    → M → List (List ℕ) → M → Type 0
ReplaysChanges {M} steps old [] new = new ≡ old
ReplaysChanges {M} steps old (change ∷ changes) new =
    (mid : M) × steps old change mid × ReplaysChanges steps mid changes new

-- the machine is one at the start, after these changes
abbrev pub IsAfter : {M : Type 0} → (M → Type 0) → (M → List ℕ → M → Type 0)
    → List (List ℕ) → M → Type 0
IsAfter {M} starts steps changes machine =
    (first : M) × starts first × ReplaysChanges steps first changes machine

-- From this state the machine may refuse one of these changes, after those ahead of it.
pub record RefusesOneFrom {M : Type 0} (steps : M → List ℕ → M → Type 0)
    (refuses : M → List ℕ → Type 0) (first : M) (payloads : List (List ℕ)) : Type 0 where
  pub before : List (List ℕ)
  pub payload : List ℕ
  pub more : List (List ℕ)
  pub are : payloads ≡ (before ++ payload ∷ []) ++ more
  pub machine : M
  pub after : ReplaysChanges steps first before machine
  pub refused : refuses machine payload

-- The machine may refuse one of these changes, after those ahead of it.
pub record RefusesOne {M : Type 0} (starts : M → Type 0) (steps : M → List ℕ → M → Type 0)
    (refuses : M → List ℕ → Type 0) (payloads : List (List ℕ)) : Type 0 where
  pub before : List (List ℕ)
  pub payload : List ℕ
  pub more : List (List ℕ)
  pub are : payloads ≡ (before ++ payload ∷ []) ++ more
  pub machine : M
  pub after : IsAfter starts steps before machine
  pub refused : refuses machine payload

-- each is a change's payload
abbrev pub AreStateChanges : {E : Type 0} → (E → List ℕ) → List (List ℕ) → Type 0
AreStateChanges {E} payload payloads =
    AllByRecursion (λ bytes. (change : E) × (payload change ≡ bytes)) payloads
