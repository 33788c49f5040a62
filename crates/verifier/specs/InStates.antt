-- The state that arrives at each slot.
use Rattle.std.specs.Prelude.{◌≡◌, ℕ, zero, suc, ◌==◌, ◌<◌, List, length, map, Option, Some, None, if◌then◌else◌}
use Rattle.std.specs.List.{range_with_len}
use Rattle.insn_codec.specs.declared.insn.Insn.{Insn}
use Rattle.machine_model.specs.Edges.{Code, Fact, Always, NotTaken, Taken, insn_at, leads_at}
use Rattle.helpers.specs.Table.{Table}
use Rattle.instruction_rules.specs.declared.state.AbsState.{AbsState}
use Rattle.instruction_rules.specs.declared.rule.Rule.{Rule}
use Rattle.instruction_rules.specs.States.{entry_state, transferred, fault, joined_state}

-- what is judged: a code, the bytes that its tasks need, and the helpers that it may call
pub record Subject : Type 0 where
  pub need : ℕ
  pub helpers : Table
  pub code : Code

-- What comes to a slot: nothing, where no edge leads there; something undefined, where an
-- instruction ahead isn't allowed; or a state.
pub data InState : Type 0 where
  Unreached : InState
  Undefined : InState
  Reached : (state : AbsState) → InState

-- the join of what comes in two ways
abbrev pub joined_in_state : InState → InState → InState
joined_in_state Unreached b = b
joined_in_state a Unreached = a
joined_in_state (Reached s) (Reached t) = Reached (joined_state s t)
joined_in_state a b = Undefined

abbrev pub unless : Option Rule → AbsState → InState
unless None state = Reached state
unless (Some rule) state = Undefined

-- what passes from an instruction to its edge with this fact, if it is allowed
abbrev pub out_state : Subject → Option Insn → Fact → InState → InState
out_state p (Some i) fact (Reached state) =
    unless (fault p.need p.helpers i state) (transferred i fact state)
out_state p o fact a = a

abbrev pub if_leads_to : Option ℕ → ℕ → InState → InState
if_leads_to None s a = Unreached
if_leads_to (Some t) s a = if t == s then a else Unreached

-- what passes the edge from slot k to s with this fact
abbrev pub edge_state : Subject → (ℕ → InState) → ℕ → ℕ → Fact → InState
edge_state p in_state s k fact =
    if_leads_to (leads_at p.code k fact) s (out_state p (insn_at p.code k) fact (in_state k))

-- the join over all edges to s from the slots below n
abbrev pub joined_edges : Subject → (ℕ → InState) → ℕ → ℕ → InState
joined_edges p in_state s zero = Unreached
joined_edges p in_state s (suc k) =
    joined_in_state (joined_in_state (joined_in_state (joined_edges p in_state s k)
    (edge_state p in_state s k Always)) (edge_state p in_state s k NotTaken))
    (edge_state p in_state s k Taken)

-- at the first slot the entry state arrives, elsewhere the join over all edges from slots below n
abbrev pub in_state_by : Subject → (ℕ → InState) → ℕ → ℕ → InState
in_state_by p in_state zero n = Reached (entry_state p.need)
in_state_by p in_state (suc s) n = joined_edges p in_state (suc s) n

-- this is what arrives at each slot
abbrev pub AreInStates : Subject → (ℕ → InState) → Type 0
AreInStates p in_state =
    (s : ℕ) → s < length p.code → in_state s ≡ in_state_by p in_state s (length p.code)

-- the same by paths of at most n slots
abbrev pub in_state_within : Subject → ℕ → ℕ → InState
in_state_within p zero s = Unreached
in_state_within p (suc n) s = in_state_by p (in_state_within p n) s (length p.code)

-- what arrives at a slot, in a program without a cycle
unfoldable pub in_state : Subject → ℕ → InState
in_state p s = in_state_within p (length p.code) s

abbrev pub state_of : InState → Option AbsState
state_of Unreached = None
state_of Undefined = None
state_of (Reached state) = Some state

-- the state that arrives at each slot
unfoldable pub in_states : Subject → List (Option AbsState)
in_states p = map (λ s. state_of (in_state p s)) (range_with_len 0 (length p.code))
