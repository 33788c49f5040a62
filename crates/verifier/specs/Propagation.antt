-- Used by private contracts and proofs alone: what has come along a program's edges, when the
-- instructions at the first places of its order have been examined.
use Rattle.std.specs.Prelude.{◌≡◌, ◌⊎◌, ℕ, ◌<◌, List, length, slice_index, slice_index_or, Option, Some, None, nat_lt, if◌then◌else◌}
use Rattle.insn_codec.specs.declared.insn.Insn.{Insn}
use Rattle.machine_model.specs.Edges.{Fact, insn_at}
use Rattle.flow_graph.specs.Cycles.{IsJoint}
use Rattle.instruction_rules.specs.declared.state.AbsState.{AbsState}
use Rattle.verifier.specs.declared.states.Fault.{Fault}
use Rattle.instruction_rules.specs.States.{fault}
use Rattle.verifier.specs.InStates.{Subject, Undefined, Reached, out_state, joined_edges, in_state}
use Rattle.verifier.specs.Verdict.{IsAllowedAt, IsFaulty, in_state_of}
use Rattle.verifier.specs.Sources.{Links, IsLinked}

-- this state arrives at the slot, where its instruction is allowed
pub record IsVisited (p : Subject) (slot : ℕ) (state : AbsState) : Type 0 where
  pub insn : Insn
  pub there : insn_at p.code slot ≡ Some insn
  pub arrives : in_state p slot ≡ Reached state
  pub allowed : fault p.need p.helpers insn state ≡ None

-- what the instruction at the slot passes on is undefined
abbrev pub IsBlocked : Subject → ℕ → Type 0
IsBlocked p slot = (fact : Fact)
    → out_state p (insn_at p.code slot) fact (in_state p slot) ≡ Undefined

-- what has come to a slot from the slots that lead there below this one, which leads there, or from
-- all of them
abbrev pub IsPartlyJoined : Subject → ℕ → Option AbsState → Option ℕ → Type 0
IsPartlyJoined p slot state None = in_state_of state ≡ in_state p slot
IsPartlyJoined p slot state (Some q) =
    IsJoint p.code q slot × (in_state_of state ≡ joined_edges p (in_state p) slot q)

-- the next slot that comes, if there is one, is past this one
abbrev pub IsPast : Option ℕ → ℕ → Type 0
IsPast None slot = Unit {0}
IsPast (Some next) slot = slot < next

-- each slot that the slot leads to has taken what it passes on
abbrev pub HasPropagatedAll : Subject → List (Option ℕ) → ℕ → Type 0
HasPropagatedAll p firsts slot =
    (to : ℕ) → IsJoint p.code slot to → IsPast (slice_index_or firsts to None) slot

-- the state of an instruction that has been passed is there as long as another slot needs it
abbrev pub IsStillStored : Subject → List (Option ℕ) → ℕ → AbsState → Option AbsState → Type 0
IsStillStored p firsts slot in_states state =
    (state ≡ Some in_states)
    ⊎ ((state ≡ None) × HasPropagatedAll p firsts slot)

-- what is there of a slot whose instruction has been examined
abbrev pub IsProcessed : Subject → List (Option ℕ) → ℕ → Option AbsState → Type 0
IsProcessed p firsts slot state =
    (IsBlocked p slot × (state ≡ None))
    ⊎ ((in_states : AbsState) × IsVisited p slot in_states
    × IsStillStored p firsts slot in_states state)

-- the slot is at one of the first n places
pub record IsAmong (order : List ℕ) (n : ℕ) (slot : ℕ) : Type 0 where
  pub place : ℕ
  pub below : place < n
  pub within : place < length order
  pub there : slice_index order place ≡ slot

-- what has come to each slot, and what is there of those whose instructions have been examined
pub record HasPropagated (p : Subject) (order : List ℕ) (n : ℕ) (links : Links)
    (states : List (Option AbsState)) : Type 0 where
  pub linked : IsLinked p.code links
  pub slots : length states ≡ length p.code
  pub pulled : (s : ℕ) → s < length p.code → (IsAmong order n s → ⊥) →
      IsPartlyJoined p s (slice_index_or states s None) (slice_index_or links.first s None)
  pub out_state : (s : ℕ) → IsAmong order n s
      → IsProcessed p links.first s (slice_index_or states s None)

-- The instruction is passed; or it isn't reached by what is allowed, since one ahead of it, at one
-- of the first n places, isn't; or this is its fault.
abbrev pub IsVisitResult : Subject → List ℕ → ℕ → ℕ → Option Fault → Type 0
IsVisitResult p order n slot None =
    ((state : AbsState) × IsVisited p slot state)
    ⊎ ((in_state p slot ≡ Undefined) × ((q : ℕ) × IsAmong order n q × IsBlocked p q))
IsVisitResult p order n slot (Some f) = (f.slot ≡ slot) × IsFaulty p f.slot f.rule

-- the first fault of the instructions at these places, if there is one
abbrev pub IsFirst : Subject → List ℕ → ℕ → Option Fault → Type 0
IsFirst p order n None = (s : ℕ) → IsAmong order n s → (state : AbsState) × IsVisited p s state
IsFirst p order n (Some f) =
    IsFaulty p f.slot f.rule × ((s : ℕ) → IsAmong order n s → s < f.slot → IsAllowedAt p s)

-- the one at the lower slot
abbrev pub earlier : Option Fault → Fault → Fault
earlier None fault = fault
earlier (Some before) fault = if nat_lt before.slot fault.slot then before else fault
