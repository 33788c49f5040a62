-- What is told of the slots, one after the other.
use Rattle.std.proofs.Common.{◌≡◌, ℕ, zero, suc, ◌<◌, List, [], ◌∷◌, ◌++◌, length, map, slice_index_or, Option, Some, None, refl, sym, ap, arith, ◌∙◌}
use Rattle.std.proofs.lemmas.List.{append-nil, map-append}
use Rattle.insn_codec.specs.declared.insn.Insn.{Insn}
use Rattle.insn_codec.specs.declared.fault.CodecFault.{CodecFault}
use Rattle.insn_codec.specs.declared.fault.CodecFault.TheVariants as codec
use Rattle.machine_model.specs.Edges.{Code, insn_at}
use Rattle.flow_graph.specs.declared.fault.FlowFault.{FlowFault}
use Rattle.flow_graph.specs.declared.fault.FlowFault.TheVariants as flow
use Rattle.flow_graph.specs.Flow.{Flow}
use Rattle.flow_graph.specs.Refusals.{IsBuilt}
use Rattle.flow_graph.proofs.OrderLemmas.{no_cycle}
use Rattle.instruction_rules.specs.declared.rule.Rule.{Rule}
use Rattle.instruction_rules.specs.declared.state.AbsState.{AbsState}
use Rattle.instruction_rules.specs.States.{fault}
use Rattle.verifier.specs.InStates.{InState, Reached, Subject, in_state}
use Rattle.verifier.specs.declared.refusals.Refusal.{Refusal}
use Rattle.verifier.specs.Refusals.{HasFlow}
use Rattle.verifier.specs.RefusalCodes.{from_codec, from_flow, refusal_at}
use Rattle.explain.specs.declared.explanation.Explanation.{Explanation}
use Rattle.explain.specs.Faults.{broken_at, broken_by, refusal_of, refusals_below}
use Rattle.explain.specs.Told.{ruled_slot}

-- ---- one slot

pub broken_is : (p : Subject) (slot : ℕ) (i : Insn) (state : AbsState) → insn_at p.code slot ≡ Some i → in_state p slot ≡ Reached state → (o : Option Rule) →
    fault p.need p.helpers i state ≡ o → broken_at p slot ≡ o
broken_is p slot i state there arrives o is =
    ap (λ (q : Option Insn). broken_by p q (in_state p slot)) there ∙ (ap (λ (a : InState). broken_by p (Some i) a) arrives ∙ is)

pub refusal_is : (p : Subject) (slot : ℕ) (rule : Rule) (refusal : Refusal) → broken_at p slot ≡ Some rule → refusal ≡ refusal_at slot rule →
    refusal_of slot (broken_at p slot) ≡ refusal ∷ []
refusal_is p slot rule refusal broken e = ap (refusal_of slot) broken ∙ ap (λ (r : Refusal). r ∷ []) (sym e)

-- ---- one slot more

pub told_none : (p : Subject) (n : ℕ) (list : List Explanation) → map (λ why. why.refusal) list ≡ refusals_below p n → broken_at p n ≡ None →
    map (λ why. why.refusal) list ≡ refusals_below p (suc n)
told_none p n list all none =
    all ∙ (sym (append-nil (refusals_below p n)) ∙ ap (λ (o : Option Rule). refusals_below p n ++ refusal_of n o) (sym none))

pub told_one : (p : Subject) (n : ℕ) (list : List Explanation) (why : Explanation) → map (λ why. why.refusal) list ≡ refusals_below p n →
    refusal_of n (broken_at p n) ≡ why.refusal ∷ [] → map (λ why. why.refusal) (list ++ why ∷ []) ≡ refusals_below p (suc n)
told_one p n list why all one =
    map-append (λ (w : Explanation). w.refusal) list (why ∷ [])
    ∙ (ap (λ (l : List Refusal). l ++ why.refusal ∷ []) all ∙ ap (λ (l : List Refusal). refusals_below p n ++ l) (sym one))

-- ---- programs without a graph, and with one

pub codec_unruled : (fault : CodecFault) → ruled_slot (from_codec fault) ≡ None
codec_unruled codec.Empty = refl
codec_unruled codec.Ragged = refl
codec_unruled codec.TooLong = refl
codec_unruled (codec.UnknownOp slot) = refl
codec_unruled (codec.BadRegister slot) = refl
codec_unruled (codec.UnusedField slot) = refl
codec_unruled (codec.HalfWide slot) = refl
codec_unruled codec.NoMemory = refl

pub flow_unruled : (fault : FlowFault) → ruled_slot (from_flow fault) ≡ None
flow_unruled (flow.JumpOut slot) = refl
flow_unruled (flow.IntoWide slot) = refl
flow_unruled (flow.Cycle slot) = refl
flow_unruled (flow.FallsOff slot) = refl
flow_unruled (flow.Unreachable slot) = refl
flow_unruled flow.NoMemory = refl

pub flow_of : (code : Code) (graph : Flow) → IsBuilt code graph → HasFlow code
flow_of code graph built = record {
  faultless = built.faultless;
  acyclic = λ slot cycle. no_cycle code graph.order slot built.order cycle;
  reached = built.reached;
}

pub no_insn : (o : Option Insn) (i : Insn) → None ≡ o → o ≡ Some i → ⊥
no_insn o i e f = cc

-- an element that is there is the same whatever stands for a missing one
pub item_there : {X : Type 0} (xs : List X) (k : ℕ) (d e : X) → k < length xs → slice_index_or xs k d ≡ slice_index_or xs k e
item_there [] k d e lt = absurd (omega (arith, lt))
item_there (x ∷ xs) zero d e lt = refl
item_there (x ∷ xs) (suc k) d e lt = item_there xs k d e (omega (arith, lt))
