-- When each refusal comes, and what holds of a program that is accepted.
use Rattle.std.specs.Prelude.{◌≡◌, ℕ, ◌≤◌, ◌<◌, List, None}
use Rattle.machine_model.specs.Limits.{max_part}
use Rattle.insn_codec.specs.declared.insn.Placed.{Placed}
use Rattle.insn_codec.specs.declared.fault.CodecFault.{CodecFault}
use Rattle.insn_codec.specs.declared.fault.CodecFault.TheVariants as codec
use Rattle.insn_codec.specs.Spelling.{IsProgram, IsRefusal}
use Rattle.flow_graph.specs.declared.fault.FlowFault.{FlowFault}
use Rattle.flow_graph.specs.declared.fault.FlowFault.TheVariants as flow
use Rattle.flow_graph.specs.Cycles.{IsOnCycle}
use Rattle.flow_graph.specs.Faults.{fault_at}
use Rattle.flow_graph.specs.Program.{code_of}
use Rattle.flow_graph.specs.Refusals.{Refuses as RefusesFlow}
use Rattle.machine_model.specs.Edges.{Code, Begins}
use Rattle.machine_model.specs.Paths.{IsReached, AreCosts}
use Rattle.helpers.specs.Table.{Table}
use Rattle.verifier.specs.declared.refusals.Refusal.{Refusal}
use Rattle.verifier.specs.declared.refusals.Refusal.TheVariants.{NeedTooLarge, Codec, Flow, NoMemory}
use Rattle.verifier.specs.InStates.{Subject}
use Rattle.verifier.specs.Checked.{Checked}
use Rattle.verifier.specs.Verdict.{IsTable, RefusesStates}

-- each edge of the code leads to an instruction, no path leads back to its slot, and each
-- instruction is reached
pub record HasFlow (code : Code) : Type 0 where
  pub faultless : (slot : ℕ) → fault_at code slot ≡ None
  pub acyclic : (slot : ℕ) → IsOnCycle code slot → ⊥
  pub reached : (slot : ℕ) → Begins code slot → IsReached code slot

-- the decoder has a refusal
abbrev pub RefusesBytes : List ℕ → CodecFault → Type 0
RefusesBytes bytes codec.NoMemory = ⊥
RefusesBytes bytes fault = IsRefusal fault bytes

-- the code's graph has a refusal
abbrev pub RefusesCode : Code → FlowFault → Type 0
RefusesCode code flow.NoMemory = ⊥
RefusesCode code fault = RefusesFlow code fault

-- the code has a graph, and its first instruction that isn't allowed has a refusal
pub record RefusesSubject (p : Subject) (refusal : Refusal) : Type 0 where
  pub flow : HasFlow p.code
  pub first : RefusesStates p refusal

-- the refusal of a program that was decoded
abbrev pub RefusesPlaced : ℕ → List Placed → Table → Refusal → Type 0
RefusesPlaced need placed helpers (Flow fault) = RefusesCode (code_of placed) fault
RefusesPlaced need placed helpers refusal =
    RefusesSubject (record { need = need; helpers = helpers; code = code_of placed }) refusal

pub record RefusesDecoded (need : ℕ) (bytes : List ℕ) (helpers : Table) (refusal : Refusal) :
    Type 0 where
  pub small : need ≤ max_part
  pub placed : List Placed
  pub decoded : IsProgram placed bytes
  pub refused : RefusesPlaced need placed helpers refusal

-- the one refusal of a program, but for want of memory
abbrev pub RefusesProgram : ℕ → List ℕ → Table → Refusal → Type 0
RefusesProgram need bytes helpers NeedTooLarge = max_part < need
RefusesProgram need bytes helpers (Codec fault) = (need ≤ max_part) × RefusesBytes bytes fault
RefusesProgram need bytes helpers NoMemory = Unit {0}
RefusesProgram need bytes helpers refusal = RefusesDecoded need bytes helpers refusal

-- the bytes spell the program, which is allowed, and the states and costs are those of its
-- definition
pub record IsAccepted (need : ℕ) (bytes : List ℕ) (helpers : Table) (v : Checked) : Type 0 where
  pub same_need : v.need ≡ need
  pub small : need ≤ max_part
  pub same_helpers : v.helpers ≡ helpers
  pub decoded : (placed : List Placed) × IsProgram placed bytes × (v.code ≡ code_of placed)
  pub flow : HasFlow v.code
  pub states : IsTable (record { need = v.need; helpers = v.helpers; code = v.code }) v.states
  pub costs : AreCosts v.code v.costs
