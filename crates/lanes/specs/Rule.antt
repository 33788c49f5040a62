-- The rule of a lane, over the tickets in it, first one first, and over what each caller has moved.
-- A caller is known by the number of its pass, and the owner's number is 0. All callers know the
-- lane by one name.
use Rattle.std.specs.Prelude.{◌≡◌, true, ℕ, ◌+◌, ◌<◌, ◌≤◌, ◌==◌, if◌then◌else◌, List, [], ◌∷◌, ◌++◌, map, length}
use mathlib.Core.Option.{some}
use lib.ListN.{get_elem?}
use Rattle.lanes.specs.declared.moves.TicketData.{TicketData}
use Rattle.lanes.specs.declared.moves.Moves.{Moves}

-- of tasks that left in this order, each beside the number of the caller that took it: those that
-- this caller took
abbrev pub taken_by : ℕ → List (ℕ × TicketData) → List TicketData
taken_by caller [] = []
taken_by caller (e ∷ es) = if e.0 == caller then e.1 ∷ taken_by caller es else taken_by caller es

-- how often a number stands in a list
abbrev pub times : ℕ → List ℕ → ℕ
times n [] = 0
times n (k ∷ ks) = (if k == n then 1 else 0) + times n ks

module _ {X : Type 0} (task : X → TicketData) where
  -- What the owner pushed left in one order, each task taken by one caller, followed by what stands
  -- in the lane. Each caller but the owner is a thief whose pass is out, which knows what it took,
  -- or one whose pass is back, of which the owner knows it.
  pub record Interleaved (items : List X) (views : List Moves) : Type 0 where
    pub owner : Moves
    pub owner_is : get_elem? views 0 ≡ some owner
    pub order : List (ℕ × TicketData)
    pub whole : owner.pushed ≡ map (λ e. e.1) order ++ map task items
    pub own : owner.taken ≡ taken_by 0 order
    pub out : List ℕ
    pub back : List ℕ
    pub count : length out + length back ≡ owner.thieves
    pub gathered : owner.gathered ≡ map (λ caller. taken_by caller order) back
    pub seats : (caller : ℕ) (v : Moves) → get_elem? views caller ≡ some v → v.steals ≡ true
        → (0 < times caller out) × (v.taken ≡ taken_by caller order) × (v.lane ≡ owner.lane)
    pub owns : times 0 out + times 0 back ≡ 0
    pub once : (caller : ℕ) → 0 < caller → caller < length views
        → times caller out + times caller back ≡ 1
    pub none_beyond : (caller : ℕ) → length views ≤ caller → times caller out + times caller back ≡ 0
    pub nobody_else : (caller : ℕ) → 0 < caller → times caller out + times caller back ≡ 0
        → taken_by caller order ≡ []
