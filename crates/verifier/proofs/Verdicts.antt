-- From the parts of a verdict to the whole.
use Rattle.std.proofs.Common.{◌≡◌, ◌∙◌, ℕ, ◌≤◌, List, subst, sym}
use Rattle.insn_codec.specs.declared.insn.Placed.{Placed}
use Rattle.insn_codec.specs.declared.fault.CodecFault.{CodecFault}
use Rattle.insn_codec.specs.declared.fault.CodecFault.TheVariants as codec
use Rattle.insn_codec.specs.Spelling.{IsProgram, IsRefusal}
use Rattle.machine_model.specs.Edges.{Code}
use Rattle.machine_model.specs.Paths.{AreCosts}
use Rattle.flow_graph.specs.declared.fault.FlowFault.{FlowFault}
use Rattle.flow_graph.specs.declared.fault.FlowFault.TheVariants as flow
use Rattle.flow_graph.specs.Flow.{Flow as ProgramFlow, IsFlow}
use Rattle.flow_graph.proofs.OrderLemmas.{no_cycle}
use Rattle.flow_graph.specs.Program.{code_of}
use Rattle.flow_graph.specs.Refusals.{Refuses as RefusesFlow, IsBuilt}
use Rattle.helpers.specs.Table.{Table, IsHelperTable}
use Rattle.verifier.specs.declared.refusals.Refusal.{Refusal}
use Rattle.verifier.specs.declared.refusals.Refusal.TheVariants.{NeedTooLarge, Codec, Flow, UnsetRead, OutOfStack, OutOfPart, BadKind, PointerRange, FramePointer, NoHelper, NoMemory}
use Rattle.verifier.specs.RefusalCodes.{from_codec, from_flow}
use Rattle.verifier.specs.Checked.{Checked, IsVerified}
use Rattle.verifier.specs.Verdict.{IsTable, RefusesStates}
use Rattle.verifier.specs.Refusals.{HasFlow, RefusesProgram, IsAccepted}
use Rattle.verifier.proofs.Soundness.{sound_of}

-- the decoder's refusal
pub codec_refused : (need : ℕ) (bytes : List ℕ) (helpers : Table) (fault : CodecFault) → need ≤ 65536 → IsRefusal fault bytes →
    RefusesProgram need bytes helpers (from_codec fault)
codec_refused need bytes helpers codec.Empty small h = (small, h)
codec_refused need bytes helpers codec.Ragged small h = (small, h)
codec_refused need bytes helpers codec.TooLong small h = (small, h)
codec_refused need bytes helpers (codec.UnknownOp slot) small h = (small, h)
codec_refused need bytes helpers (codec.BadRegister slot) small h = (small, h)
codec_refused need bytes helpers (codec.UnusedField slot) small h = (small, h)
codec_refused need bytes helpers (codec.HalfWide slot) small h = (small, h)
codec_refused need bytes helpers codec.NoMemory small h = tt

-- the graph's refusal
pub flow_refused : (need : ℕ) (bytes : List ℕ) (helpers : Table) (placed : List Placed) (fault : FlowFault) → need ≤ 65536 →
    IsProgram placed bytes → RefusesFlow (code_of placed) fault → RefusesProgram need bytes helpers (from_flow fault)
flow_refused need bytes helpers placed (flow.JumpOut slot) small decoded h =
    record { small = small; placed = placed; decoded = decoded; refused = h }
flow_refused need bytes helpers placed (flow.IntoWide slot) small decoded h =
    record { small = small; placed = placed; decoded = decoded; refused = h }
flow_refused need bytes helpers placed (flow.Cycle slot) small decoded h =
    record { small = small; placed = placed; decoded = decoded; refused = h }
flow_refused need bytes helpers placed (flow.FallsOff slot) small decoded h =
    record { small = small; placed = placed; decoded = decoded; refused = h }
flow_refused need bytes helpers placed (flow.Unreachable slot) small decoded h =
    record { small = small; placed = placed; decoded = decoded; refused = h }
flow_refused need bytes helpers placed flow.NoMemory small decoded h = tt

flow_of : (code : Code) (graph : ProgramFlow) → IsBuilt code graph → HasFlow code
flow_of code graph built = record {
  faultless = built.faultless;
  acyclic = λ slot cycle. no_cycle code graph.order slot built.order cycle;
  reached = built.reached;
}

subject_refused : (need : ℕ) (bytes : List ℕ) (helpers : Table) (placed : List Placed) (refusal : Refusal) → need ≤ 65536 →
    IsProgram placed bytes → HasFlow (code_of placed) →
    RefusesStates (record { need = need; helpers = helpers; code = code_of placed }) refusal → RefusesProgram need bytes helpers refusal
subject_refused need bytes helpers placed (UnsetRead slot) small decoded flow h =
    record { small = small; placed = placed; decoded = decoded; refused = record { flow = flow; first = h } }
subject_refused need bytes helpers placed (OutOfStack slot) small decoded flow h =
    record { small = small; placed = placed; decoded = decoded; refused = record { flow = flow; first = h } }
subject_refused need bytes helpers placed (OutOfPart slot) small decoded flow h =
    record { small = small; placed = placed; decoded = decoded; refused = record { flow = flow; first = h } }
subject_refused need bytes helpers placed (BadKind slot) small decoded flow h =
    record { small = small; placed = placed; decoded = decoded; refused = record { flow = flow; first = h } }
subject_refused need bytes helpers placed (PointerRange slot) small decoded flow h =
    record { small = small; placed = placed; decoded = decoded; refused = record { flow = flow; first = h } }
subject_refused need bytes helpers placed (FramePointer slot) small decoded flow h =
    record { small = small; placed = placed; decoded = decoded; refused = record { flow = flow; first = h } }
subject_refused need bytes helpers placed (NoHelper slot) small decoded flow h =
    record { small = small; placed = placed; decoded = decoded; refused = record { flow = flow; first = h } }
subject_refused need bytes helpers placed NoMemory small decoded flow h = tt
subject_refused need bytes helpers placed NeedTooLarge small decoded flow h = absurd h
subject_refused need bytes helpers placed (Codec fault) small decoded flow h = absurd h
subject_refused need bytes helpers placed (Flow fault) small decoded flow h = absurd h

-- the states' refusal
pub states_refused : (need : ℕ) (bytes : List ℕ) (helpers : Table) (placed : List Placed) (graph : ProgramFlow) (refusal : Refusal) → need ≤ 65536 →
    IsProgram placed bytes → IsBuilt (code_of placed) graph →
    RefusesStates (record { need = need; helpers = helpers; code = graph.code }) refusal → RefusesProgram need bytes helpers refusal
states_refused need bytes helpers placed graph refusal small decoded built h =
    subject_refused need bytes helpers placed refusal small decoded (flow_of (code_of placed) graph built)
    (subst (λ (code : Code). RefusesStates (record { need = need; helpers = helpers; code = code }) refusal) built.same h)

-- the parts of an accepted program
pub verified_of : (p : Checked) (order : List ℕ) → p.need ≤ 65536 → IsFlow (record { code = p.code; order = order }) → IsHelperTable p.helpers →
    IsTable (record { need = p.need; helpers = p.helpers; code = p.code }) p.states → AreCosts p.code p.costs → IsVerified p
verified_of p order small flow known table costs =
    let sound = sound_of (record { need = p.need; helpers = p.helpers; code = p.code }) order p.states flow table in
    record {
      need = small;
      starts = flow.joined.opens;
      few = flow.joined.few;
      entry = sound.entry;
      each = λ slot i state there at. record {
        allowed = sound.allowed slot i state there at;
        covered = sound.covered slot i state there at;
        lands = λ fact next edge. (flow.joined.lands slot fact next edge).1;
        faultless = flow.joined.faultless slot;
      };
      costs = costs;
      known = known;
    }

pub accepted_of : (need : ℕ) (bytes : List ℕ) (helpers : Table) (placed : List Placed) (graph : ProgramFlow) (v : Checked) → need ≤ 65536 →
    IsProgram placed bytes → IsBuilt (code_of placed) graph → v.code ≡ graph.code → v.need ≡ need → v.helpers ≡ helpers →
    IsTable (record { need = v.need; helpers = v.helpers; code = v.code }) v.states → AreCosts v.code v.costs → IsAccepted need bytes helpers v
accepted_of need bytes helpers placed graph v small decoded built is same_need same_helpers table costs = record {
  same_need = same_need;
  small = small;
  same_helpers = same_helpers;
  decoded = (placed, decoded, is ∙ built.same);
  flow = subst (λ (code : Code). HasFlow code) (sym (is ∙ built.same)) (flow_of (code_of placed) graph built);
  states = table;
  costs = costs;
}
