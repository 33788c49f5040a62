-- Jobs that wait in flows, which have their turns one after the other.
use Rattle.std.specs.Prelude.{◌≡◌, ◌≢◌, ◌==◌, ◌+◌, ℕ, List, [], ◌∷◌, ◌++◌, length, if◌then◌else◌}

-- a flow, and what waits in it, the first in front
pub record WaitingFlow (X : Type 0) : Type 0 where
  pub number : ℕ
  pub waiting : List X

-- a flow where something waits, as a list of one flow; of no flow, where nothing does
abbrev pub rest_of_flow : {X : Type 0} → ℕ → List X → List (WaitingFlow X)
rest_of_flow n [] = []
rest_of_flow n (x ∷ xs) = record { number = n; waiting = x ∷ xs } ∷ []

-- An item goes behind those of its flow. A flow of which nothing waited goes behind all flows.
abbrev pub put_behind : {X : Type 0} → ℕ → X → List (WaitingFlow X) → List (WaitingFlow X)
put_behind n x [] = record { number = n; waiting = x ∷ [] } ∷ []
put_behind n x (f ∷ fs) =
    if f.number == n then record { number = f.number; waiting = f.waiting ++ x ∷ [] } ∷ fs
    else f ∷ put_behind n x fs

-- The first item of the first flow is taken. The flow goes behind the others, if more of it waits.
abbrev pub TakesNext : {X : Type 0} → List (WaitingFlow X) → ℕ → X → List (WaitingFlow X) → Type 0
TakesNext {X} old n x new =
    (more : List X) × (others : List (WaitingFlow X))
    × (old ≡ record { number = n; waiting = x ∷ more } ∷ others) × (new ≡ others ++ rest_of_flow n more)

-- how many items wait
abbrev pub waiting_count : {X : Type 0} → List (WaitingFlow X) → ℕ
waiting_count [] = 0
waiting_count (f ∷ fs) = length f.waiting + waiting_count fs

-- nothing of a flow waits
abbrev pub IsAbsent : {X : Type 0} → ℕ → List (WaitingFlow X) → Type 0
IsAbsent n [] = Unit {0}
IsAbsent n (f ∷ fs) = (f.number ≢ n) × IsAbsent n fs

-- Something waits in each flow, and no flow is there twice.
abbrev pub AreFlows : {X : Type 0} → List (WaitingFlow X) → Type 0
AreFlows [] = Unit {0}
AreFlows (f ∷ fs) = (f.waiting ≢ []) × IsAbsent f.number fs × AreFlows fs

-- ---- histories

-- an item is put into a flow, or taken out of it
pub data TurnEvent (X : Type 0) : Type 0 where
  Put : ℕ → X → TurnEvent X
  Take : ℕ → X → TurnEvent X

abbrev pub TurnStep : {X : Type 0} → List (WaitingFlow X) → TurnEvent X → List (WaitingFlow X) → Type 0
TurnStep old (Put n x) new = new ≡ put_behind n x old
TurnStep old (Take n x) new = TakesNext old n x new

-- A history of puts and takes, the first one in front, leads from what waits to what waits then.
abbrev pub TurnsLeadTo : {X : Type 0} → List (WaitingFlow X) → List (TurnEvent X) → List (WaitingFlow X) → Type 0
TurnsLeadTo old [] new = new ≡ old
TurnsLeadTo {X} old (e ∷ es) new = (next : List (WaitingFlow X)) × TurnStep old e next × TurnsLeadTo next es new

-- what was put into a flow, in order, and what was taken out of it
abbrev pub put_into : {X : Type 0} → ℕ → List (TurnEvent X) → List X
put_into n [] = []
put_into n (Put m x ∷ es) = if m == n then x ∷ put_into n es else put_into n es
put_into n (Take m x ∷ es) = put_into n es

abbrev pub taken_from : {X : Type 0} → ℕ → List (TurnEvent X) → List X
taken_from n [] = []
taken_from n (Put m x ∷ es) = taken_from n es
taken_from n (Take m x ∷ es) = if m == n then x ∷ taken_from n es else taken_from n es

-- what waits in a flow
abbrev pub waiting_in : {X : Type 0} → ℕ → List (WaitingFlow X) → List X
waiting_in n [] = []
waiting_in n (f ∷ fs) = if f.number == n then f.waiting else waiting_in n fs
