-- What a refusal of an instruction says of its program.
use Rattle.std.proofs.Common.{◌≡◌, ℕ, ◌≤◌, List, Option, Some, None, refl, subst, ap}
use Rattle.machine_model.specs.Edges.{Code}
use Rattle.insn_codec.specs.declared.insn.Placed.{Placed}
use Rattle.insn_codec.specs.declared.fault.CodecFault.{CodecFault}
use Rattle.insn_codec.specs.declared.fault.CodecFault.TheVariants as codec
use Rattle.insn_codec.specs.Spelling.{IsProgram, IsRefusal, IsWhole}
use Rattle.insn_codec.proofs.Accepted.{nothing_refused as codec_takes}
use Rattle.flow_graph.specs.Program.{code_of}
use Rattle.flow_graph.specs.Faults.{fault_at}
use Rattle.flow_graph.specs.Refusals.{Refuses as RefusesFlow}
use Rattle.flow_graph.specs.declared.fault.FlowFault.{FlowFault}
use Rattle.flow_graph.specs.declared.fault.FlowFault.TheVariants as flow
use Rattle.helpers.specs.Table.{Table}
use Rattle.instruction_rules.specs.declared.rule.Rule.{Rule}
use Rattle.instruction_rules.specs.declared.rule.Rule.TheVariants as rule
use Rattle.verifier.specs.declared.refusals.Refusal.{Refusal}
use Rattle.verifier.specs.declared.refusals.Refusal.TheVariants.{NeedTooLarge, Codec, Flow, UnsetRead, OutOfStack, OutOfPart, BadKind, PointerRange, FramePointer, NoHelper, NoMemory}
use Rattle.verifier.specs.Refusals.{HasFlow, RefusesProgram}
use Rattle.verifier.specs.Verdict.{IsFaulty, IsFirstFaulty}
use Rattle.verifier.proofs.OneVerdict.{one_program}
use Rattle.explain.specs.Refused.{IsRefusedAt}
use Rattle.explain.specs.Told.{ruled_slot}

module _ (need : ℕ) (bytes : List ℕ) (helpers : Table) where
  by_rule : (small : need ≤ 65536) (placed : List Placed) (decoded : IsProgram placed bytes) (has : HasFlow (code_of placed)) (s slot : ℕ) (rule : Rule) →
      IsFirstFaulty (record { need = need; helpers = helpers; code = code_of placed }) s rule → Some s ≡ Some slot → IsRefusedAt need bytes helpers slot
  by_rule small placed decoded has s slot rule first e =
      let same : s ≡ slot = cc in
      record {
        small = small;
        placed = placed;
        program = decoded;
        flow = has;
        rule = rule;
        faulty = subst (λ (k : ℕ). IsFaulty (record { need = need; helpers = helpers; code = code_of placed }) k rule) same first.faulty;
      }

  pub refused_at : (refusal : Refusal) (slot : ℕ) → RefusesProgram need bytes helpers refusal → ruled_slot refusal ≡ Some slot → IsRefusedAt need bytes helpers slot
  refused_at NeedTooLarge slot r e = absurd (cc)
  refused_at (Codec fault) slot r e = absurd (cc)
  refused_at (Flow fault) slot r e = absurd (cc)
  refused_at (UnsetRead s) slot r e = by_rule r.small r.placed r.decoded r.refused.flow s slot rule.UnsetRead r.refused.first e
  refused_at (OutOfStack s) slot r e = by_rule r.small r.placed r.decoded r.refused.flow s slot rule.OutOfStack r.refused.first e
  refused_at (OutOfPart s) slot r e = by_rule r.small r.placed r.decoded r.refused.flow s slot rule.OutOfPart r.refused.first e
  refused_at (BadKind s) slot r e = by_rule r.small r.placed r.decoded r.refused.flow s slot rule.BadKind r.refused.first e
  refused_at (PointerRange s) slot r e = by_rule r.small r.placed r.decoded r.refused.flow s slot rule.PointerRange r.refused.first e
  refused_at (FramePointer s) slot r e = by_rule r.small r.placed r.decoded r.refused.flow s slot rule.FramePointer r.refused.first e
  refused_at (NoHelper s) slot r e = by_rule r.small r.placed r.decoded r.refused.flow s slot rule.NoHelper r.refused.first e
  refused_at NoMemory slot r e = absurd (cc)

-- bytes that spell a program have no refusal
pub not_codec : (placed : List Placed) (bytes : List ℕ) (e : CodecFault) → IsProgram placed bytes → IsRefusal e bytes → e ≡ codec.NoMemory
not_codec placed bytes e x refusal =
    codec_takes _ x.fit (subst IsWhole x.spelled x.whole) e (subst (λ (b : List ℕ). IsRefusal e b) x.spelled refusal)

no_fault : (o : Option FlowFault) (f : FlowFault) → o ≡ Some f → o ≡ None → ⊥
no_fault o f x y = cc

-- a program that has a graph has no refusal of its graph
pub not_flow : (code : Code) (e : FlowFault) → HasFlow code → RefusesFlow code e → e ≡ flow.NoMemory
not_flow code (flow.JumpOut slot) h r = absurd (no_fault (fault_at code slot) (flow.JumpOut slot) r.applies (h.faultless slot))
not_flow code (flow.IntoWide slot) h r = absurd (no_fault (fault_at code slot) (flow.IntoWide slot) r.applies (h.faultless slot))
not_flow code (flow.FallsOff slot) h r = absurd (no_fault (fault_at code slot) (flow.FallsOff slot) r.applies (h.faultless slot))
not_flow code (flow.Cycle slot) h r = absurd (h.acyclic slot r.1.cycle)
not_flow code (flow.Unreachable slot) h r = absurd (r.2.unreached (h.reached slot r.2.begins))
not_flow code flow.NoMemory h r = refl

-- the program that was refused is the one that the bytes spell
pub same_code : (need : ℕ) (bytes : List ℕ) (helpers : Table) (slot : ℕ) (placed : List Placed) (r : IsRefusedAt need bytes helpers slot) → IsProgram placed bytes →
    code_of r.placed ≡ code_of placed
same_code need bytes helpers slot placed r program = ap code_of (one_program r.placed placed bytes r.program program)
