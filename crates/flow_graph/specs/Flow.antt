-- What a graph keeps of its program.
use Rattle.std.specs.Prelude.{◌≡◌, ℕ, ◌+◌, ◌≤◌, ◌<◌, List, length, slice_index, Some, None, IsSome}
use Rattle.insn_codec.specs.Limits.{max_slots}
use Rattle.insn_codec.specs.declared.insn.Insn.TheVariants.{Exit}
use Rattle.machine_model.specs.Edges.{Code, Fact, Always, NotTaken, Taken, IsEdge, Begins, insn_at, leads_at, target}
use Rattle.machine_model.specs.Paths.{IsReached}
use Rattle.flow_graph.specs.declared.graph.Next.{Next}
use Rattle.flow_graph.specs.declared.graph.Next.TheVariants.{Zero, One, Two}
use Rattle.flow_graph.specs.declared.onward.Onward.{Onward}
use Rattle.flow_graph.specs.declared.onward.Onward.TheVariants.{Steps, StepsWide, Jumps, Branches, Ends}
use Rattle.flow_graph.specs.Faults.{fault_at}

-- a program's code, and an order of its instructions
pub record Flow : Type 0 where
  pub code : Code
  pub order : List ℕ

-- each edge leads to an instruction of the code
pub record IsJoined (code : Code) : Type 0 where
  pub starts : 0 < length code
  pub opens : Begins code 0
  pub few : length code ≤ max_slots
  pub faultless : (slot : ℕ) → fault_at code slot ≡ None
  pub lands : (p : ℕ) (fact : Fact) (s : ℕ) → IsEdge code p fact s → (s < length code)
      × Begins code s

-- the slot stands in the list
abbrev pub IsIn : List ℕ → ℕ → Type 0
IsIn list slot = (place : ℕ) × (place < length list) × (slice_index list place ≡ slot)

-- the list has each slot where an instruction begins once, and each edge leads to a later place
pub record IsOrder (code : Code) (order : List ℕ) : Type 0 where
  pub begins : (place : ℕ) → place < length order → Begins code (slice_index order place)
  pub each : (slot : ℕ) → Begins code slot → IsIn order slot
  pub once : (p q : ℕ) → p < length order → q < length order
      → slice_index order p ≡ slice_index order q → p ≡ q
  pub onward : (p q : ℕ) (fact : Fact) → p < length order → q < length order →
      IsEdge code (slice_index order p) fact (slice_index order q) → p < q

-- each edge leads to an instruction and to a later place of the order, and each instruction is
-- reached
pub record IsFlow (flow : Flow) : Type 0 where
  pub joined : IsJoined flow.code
  pub order : IsOrder flow.code flow.order
  pub short : length flow.order ≤ length flow.code
  pub reached : (slot : ℕ) → Begins flow.code slot → IsReached flow.code slot

-- the edges from the slot are those of `Next`
abbrev pub AreNext : Code → ℕ → Next → Type 0
AreNext code slot Zero =
    (insn_at code slot ≡ Some Exit) × ((fact : Fact) → leads_at code slot fact ≡ None)
AreNext code slot (One to) =
    IsEdge code slot Always to × (leads_at code slot NotTaken ≡ None)
    × (leads_at code slot Taken ≡ None)
AreNext code slot (Two following to) =
    (leads_at code slot Always ≡ None) × IsEdge code slot NotTaken following
    × IsEdge code slot Taken to

-- a jump of this kind has a target that isn't below 0
abbrev pub HasTarget : Onward → ℕ → Type 0
HasTarget (Jumps offset) slot = IsSome (target slot offset)
HasTarget (Branches offset) slot = IsSome (target slot offset)
HasTarget onward slot = Unit {0}

-- where an instruction at the slot leads which goes on in this way
abbrev pub IsNext : Onward → ℕ → Next → Type 0
IsNext Steps slot next = next ≡ One (slot + 1)
IsNext StepsWide slot next = next ≡ One (slot + 2)
IsNext (Jumps offset) slot next = (to : ℕ) × (target slot offset ≡ Some to) × (next ≡ One to)
IsNext (Branches offset) slot next =
    (to : ℕ) × (target slot offset ≡ Some to) × (next ≡ Two (slot + 1) to)
IsNext Ends slot next = next ≡ Zero
