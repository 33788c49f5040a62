-- What a verified program is.
use Rattle.std.specs.Prelude.{◌≡◌, ℕ, ◌≤◌, List, length, slice_index, slice_index_or, Option, Some, None}
use Rattle.machine_model.specs.Limits.{max_part}
use Rattle.insn_codec.specs.Limits.{max_slots}
use Rattle.insn_codec.specs.declared.insn.Insn.{Insn}
use Rattle.machine_model.specs.Edges.{Code, Fact, IsEdge, Begins, insn_at}
use Rattle.machine_model.specs.Paths.{AreCosts}
use Rattle.machine_model.specs.Machine.{Program}
use Rattle.flow_graph.specs.Faults.{fault_at}
use Rattle.helpers.specs.Table.{Table, IsHelperTable, arity_in}
use Rattle.instruction_rules.specs.declared.state.AbsState.{AbsState}
use Rattle.instruction_rules.specs.Covers.{IsSubsumed}
use Rattle.instruction_rules.specs.States.{entry_state, transferred, fault}
use Rattle.verifier.specs.InStates.{Subject, in_states}

-- a program, the helpers that it may call, what is known of the registers ahead of each slot, and
-- the costs
pub record Checked : Type 0 where
  pub need : ℕ
  pub helpers : Table
  pub code : Code
  pub states : List (Option AbsState)
  pub costs : List ℕ

abbrev pub program_of : Checked → Program
program_of p = record {
  need = p.need;
  code = p.code;
  costs = p.costs;
  registered = arity_in p.helpers;
}

abbrev pub state_at : Checked → ℕ → Option AbsState
state_at p slot = slice_index_or p.states slot None

abbrev pub cost_at : Checked → ℕ → ℕ
cost_at p slot = slice_index p.costs slot

-- The instruction is allowed where the registers are so, and what it leaves is covered at the end
-- of each edge, which leads to an instruction.
pub record IsSoundAt (p : Checked) (slot : ℕ) (i : Insn) (state : AbsState) : Type 0 where
  pub allowed : fault p.need p.helpers i state ≡ None
  pub covered : (fact : Fact) (next : ℕ) → IsEdge p.code slot fact next →
      (outer : AbsState) × (state_at p next ≡ Some outer) × IsSubsumed (transferred i fact state) outer
  pub lands : (fact : Fact) (next : ℕ) → IsEdge p.code slot fact next → Begins p.code next
  pub faultless : fault_at p.code slot ≡ None

-- The states cover the entry and every edge, and the costs are those of the code.
pub record IsVerified (p : Checked) : Type 0 where
  pub need : p.need ≤ max_part
  pub starts : Begins p.code 0
  pub few : length p.code ≤ max_slots
  pub entry : (outer : AbsState) × (state_at p 0 ≡ Some outer) × IsSubsumed (entry_state p.need) outer
  pub each : (slot : ℕ) (i : Insn) (state : AbsState) → insn_at p.code slot ≡ Some i
      → state_at p slot ≡ Some state → IsSoundAt p slot i state
  pub costs : AreCosts p.code p.costs
  pub known : IsHelperTable p.helpers

abbrev pub subject : ℕ → Table → Code → Subject
subject need helpers code = record { need = need; helpers = helpers; code = code }

-- a program that was verified: the state of each slot is the one that arrives
abbrev pub checked : ℕ → Table → Code → List ℕ → Checked
checked need helpers code costs = record {
  need = need;
  helpers = helpers;
  code = code;
  states = in_states (subject need helpers code);
  costs = costs;
}
