-- A program has one verdict, but for want of memory.
use Rattle.std.proofs.Common.{◌≡◌, ◌≢◌, ◌⊎◌, ℕ, suc, ◌+◌, ◌≤◌, ◌<◌, List, [], ◌∷◌, ◌++◌, length, Some, None, Option, ap, sym, ◌∙◌, arith, refl, inl, inr, subst}
use Rattle.std.specs.List.{AllByRecursion}
use Rattle.std.proofs.lemmas.Bool.{cases_lt}
use Rattle.std.proofs.lemmas.List.{length-append}
use Rattle.insn_codec.specs.declared.insn.Insn.{Insn}
use Rattle.insn_codec.specs.declared.insn.Placed.{Placed}
use Rattle.insn_codec.specs.declared.fault.CodecFault.{CodecFault}
use Rattle.insn_codec.specs.declared.fault.CodecFault.TheVariants as codec
use Rattle.insn_codec.specs.Spelling.{IsInsn, IsProgram, IsRefusal, IsWhole, spelling, spellings, slots_of, other_slots, placed_from}
use Rattle.insn_codec.proofs.OneSpelling.{one_spelling}
use Rattle.insn_codec.proofs.Bytes.{length-spelling}
use Rattle.insn_codec.proofs.Accepted.{nothing_refused as codec_takes}
use Rattle.insn_codec.proofs.OneRefusal.{one_refusal as one_codec}
use Rattle.machine_model.specs.Edges.{Code, insn_at}
use Rattle.flow_graph.specs.declared.fault.FlowFault.{FlowFault}
use Rattle.flow_graph.specs.declared.fault.FlowFault.TheVariants as flow
use Rattle.flow_graph.specs.Faults.{fault_at}
use Rattle.flow_graph.specs.Program.{code_of}
use Rattle.flow_graph.specs.Refusals.{Refuses as RefusesFlow}
use Rattle.flow_graph.proofs.OneRefusal.{one_refusal as one_flow}
use Rattle.helpers.specs.Table.{Table}
use Rattle.instruction_rules.specs.declared.state.AbsState.{AbsState}
use Rattle.verifier.specs.declared.refusals.Refusal.{Refusal}
use Rattle.verifier.specs.declared.refusals.Refusal.TheVariants.{NeedTooLarge, Codec, Flow, UnsetRead, OutOfStack, OutOfPart, BadKind, PointerRange, FramePointer, NoHelper, NoMemory}
use Rattle.instruction_rules.specs.declared.rule.Rule.{Rule}
use Rattle.instruction_rules.specs.declared.rule.Rule.TheVariants as rule
use Rattle.verifier.specs.RefusalCodes.{refusal_at}
use Rattle.instruction_rules.specs.States.{fault}
use Rattle.verifier.specs.InStates.{Subject, InState, Reached, in_state}
use Rattle.verifier.specs.Verdict.{IsFirstFaulty, IsFaulty, IsTable, IsAllowedAt}
use Rattle.verifier.specs.Checked.{Checked}
use Rattle.verifier.specs.Refusals.{HasFlow, RefusesBytes, RefusesCode, RefusesProgram, IsAccepted}
use Rattle.verifier.proofs.Options.{one_some}

-- ---- bytes spell one program

some_slots : (i : Insn) → 0 < length (slots_of i)
some_slots i = let le : 0 < suc (length (other_slots i)) = omega arith in le

some_bytes : (i : Insn) (rest : List ℕ) → [] ≡ spelling i ++ rest → ⊥
some_bytes i rest e =
    let long : length (spelling i ++ rest) ≡ length (spelling i) + length rest = length-append (spelling i) rest in
    let none : 0 ≡ length (spelling i ++ rest) = ap length e in
    let some : 0 < length (slots_of i) = some_slots i in
    omega (arith, long, none, some, length-spelling i)

one_list : (a b : List Insn) → AllByRecursion IsInsn a → AllByRecursion IsInsn b → spellings a ≡ spellings b → a ≡ b
one_list [] [] x y e = refl
one_list [] (j ∷ b) x y e = absurd (some_bytes j (spellings b) e)
one_list (i ∷ a) [] x y e = absurd (some_bytes i (spellings a) (sym e))
one_list (i ∷ a) (j ∷ b) x y e =
    let both = one_spelling i j (spellings a) (spellings b) x.0 y.0 e in
    ap (λ (k : Insn). k ∷ a) both.0 ∙ ap (λ (c : List Insn). j ∷ c) (one_list a b x.1 y.1 both.1)

pub one_program : (p q : List Placed) (bytes : List ℕ) → IsProgram p bytes → IsProgram q bytes → p ≡ q
one_program p q bytes x y =
    x.slots ∙ (ap (λ (insns : List Insn). placed_from 0 insns) (one_list _ _ x.fit y.fit (sym x.spelled ∙ y.spelled)) ∙ sym y.slots)

codec_refusal : (bytes : List ℕ) (e : CodecFault) → RefusesBytes bytes e → IsRefusal e bytes × (e ≢ codec.NoMemory)
codec_refusal bytes codec.Empty r = (r, λ e. absurd (cc))
codec_refusal bytes codec.Ragged r = (r, λ e. absurd (cc))
codec_refusal bytes codec.TooLong r = (r, λ e. absurd (cc))
codec_refusal bytes (codec.UnknownOp slot) r = (r, λ e. absurd (cc))
codec_refusal bytes (codec.BadRegister slot) r = (r, λ e. absurd (cc))
codec_refusal bytes (codec.UnusedField slot) r = (r, λ e. absurd (cc))
codec_refusal bytes (codec.HalfWide slot) r = (r, λ e. absurd (cc))
codec_refusal bytes codec.NoMemory r = absurd r

flow_refusal : (code : Code) (e : FlowFault) → RefusesCode code e → RefusesFlow code e × (e ≢ flow.NoMemory)
flow_refusal code (flow.JumpOut slot) r = (r, λ e. absurd (cc))
flow_refusal code (flow.IntoWide slot) r = (r, λ e. absurd (cc))
flow_refusal code (flow.Cycle slot) r = (r, λ e. absurd (cc))
flow_refusal code (flow.FallsOff slot) r = (r, λ e. absurd (cc))
flow_refusal code (flow.Unreachable slot) r = (r, λ e. absurd (cc))
flow_refusal code flow.NoMemory r = absurd r

-- bytes that spell a program have no refusal
not_codec : (p : List Placed) (bytes : List ℕ) (e : CodecFault) → IsProgram p bytes → RefusesBytes bytes e → ⊥
not_codec p bytes e x r =
    let refusal = codec_refusal bytes e r in
    refusal.1 (codec_takes _ x.fit (subst IsWhole x.spelled x.whole) e (subst (λ (b : List ℕ). IsRefusal e b) x.spelled refusal.0))

no_fault : (o : Option FlowFault) (f : FlowFault) → o ≡ Some f → o ≡ None → ⊥
no_fault o f x y = cc

-- a program that has a graph has no refusal of its graph
not_flow : (code : Code) (e : FlowFault) → HasFlow code → RefusesCode code e → ⊥
not_flow code (flow.JumpOut slot) h r = no_fault (fault_at code slot) (flow.JumpOut slot) r.applies (h.faultless slot)
not_flow code (flow.IntoWide slot) h r = no_fault (fault_at code slot) (flow.IntoWide slot) r.applies (h.faultless slot)
not_flow code (flow.FallsOff slot) h r = no_fault (fault_at code slot) (flow.FallsOff slot) r.applies (h.faultless slot)
not_flow code (flow.Cycle slot) h r = h.acyclic slot r.1.cycle
not_flow code (flow.Unreachable slot) h r = r.2.unreached (h.reached slot r.2.begins)
not_flow code flow.NoMemory h r = r

-- ---- the first fault of the states

one_arrival : (a : InState) (s t : AbsState) → a ≡ Reached s → a ≡ Reached t → s ≡ t
one_arrival a s t x y = cc

one_rule : (o : Option Rule) (m n : Rule) → o ≡ Some m → o ≡ Some n → m ≡ n
one_rule o m n x y = cc

some_none : (o : Option Rule) (n : Rule) → o ≡ Some n → o ≡ None → ⊥
some_none o n x y = cc

not_allowed : (p : Subject) (slot : ℕ) (rule : Rule) → IsFaulty p slot rule → IsAllowedAt p slot → ⊥
not_allowed p slot rule f allowed = some_none (fault p.need p.helpers f.insn f.state) rule f.applies (allowed f.insn f.state f.there f.arrives)

same_rule : (p : Subject) (slot : ℕ) (m n : Rule) → IsFaulty p slot m → IsFaulty p slot n → m ≡ n
same_rule p slot m n x y =
    let insn : x.insn ≡ y.insn = one_some (insn_at p.code slot) x.insn y.insn x.there y.there in
    let state : x.state ≡ y.state = one_arrival (in_state p slot) x.state y.state x.arrives y.arrives in
    one_rule (fault p.need p.helpers y.insn y.state) m n
    (subst (λ (s : AbsState). fault p.need p.helpers y.insn s ≡ Some m) state (subst (λ (i : Insn). fault p.need p.helpers i x.state ≡ Some m) insn x.applies)) y.applies

one_first : (p : Subject) (s : ℕ) (m : Rule) (t : ℕ) (n : Rule) → IsFirstFaulty p s m → IsFirstFaulty p t n → (s ≡ t) × (m ≡ n)
one_first p s m t n x y = elim (cases_lt s t) [
  | inl lt ↦ absurd (not_allowed p s m x.faulty (y.least s lt))
  | inr ge ↦ elim (cases_lt t s) [
    | inl gt ↦ absurd (not_allowed p t n y.faulty (x.least t gt))
    | inr le ↦ let same : s ≡ t = omega (arith, ge, le) in
        (same, same_rule p t m n (subst (λ (k : ℕ). IsFaulty p k m) same x.faulty) y.faulty)
  ]
]

-- ---- the four kinds of refusals

record OfCodec (need : ℕ) (bytes : List ℕ) (f : Refusal) : Type 0 where
  small : need ≤ 65536
  fault : CodecFault
  refuses : RefusesBytes bytes fault
  is : f ≡ Codec fault

record OfFlow (need : ℕ) (bytes : List ℕ) (f : Refusal) : Type 0 where
  small : need ≤ 65536
  placed : List Placed
  decoded : IsProgram placed bytes
  fault : FlowFault
  refuses : RefusesCode (code_of placed) fault
  is : f ≡ Flow fault

record OfStates (need : ℕ) (bytes : List ℕ) (helpers : Table) (f : Refusal) : Type 0 where
  small : need ≤ 65536
  placed : List Placed
  decoded : IsProgram placed bytes
  flow : HasFlow (code_of placed)
  slot : ℕ
  rule : Rule
  first : IsFirstFaulty (record { need = need; helpers = helpers; code = code_of placed }) slot rule
  is : f ≡ refusal_at slot rule

abbrev IsOfKind : ℕ → List ℕ → Table → Refusal → Type 0
IsOfKind need bytes helpers f =
    ((65536 < need) × (f ≡ NeedTooLarge)) ⊎ (OfCodec need bytes f ⊎ (OfFlow need bytes f ⊎ OfStates need bytes helpers f))

kind_of : (need : ℕ) (bytes : List ℕ) (helpers : Table) (f : Refusal) → RefusesProgram need bytes helpers f → f ≢ NoMemory → IsOfKind need bytes helpers f
kind_of need bytes helpers NeedTooLarge r ne = inl (r, refl)
kind_of need bytes helpers (Codec fault) r ne = inr (inl (record { small = r.0; fault = fault; refuses = r.1; is = refl }))
kind_of need bytes helpers (Flow fault) r ne =
    inr (inr (inl (record { small = r.small; placed = r.placed; decoded = r.decoded; fault = fault; refuses = r.refused; is = refl })))
kind_of need bytes helpers (UnsetRead slot) r ne = inr (inr (inr (record {
  small = r.small;
  placed = r.placed;
  decoded = r.decoded;
  flow = r.refused.flow;
  slot = slot;
  rule = rule.UnsetRead;
  first = r.refused.first;
  is = refl;
})))
kind_of need bytes helpers (OutOfStack slot) r ne = inr (inr (inr (record {
  small = r.small;
  placed = r.placed;
  decoded = r.decoded;
  flow = r.refused.flow;
  slot = slot;
  rule = rule.OutOfStack;
  first = r.refused.first;
  is = refl;
})))
kind_of need bytes helpers (OutOfPart slot) r ne = inr (inr (inr (record {
  small = r.small;
  placed = r.placed;
  decoded = r.decoded;
  flow = r.refused.flow;
  slot = slot;
  rule = rule.OutOfPart;
  first = r.refused.first;
  is = refl;
})))
kind_of need bytes helpers (BadKind slot) r ne = inr (inr (inr (record {
  small = r.small;
  placed = r.placed;
  decoded = r.decoded;
  flow = r.refused.flow;
  slot = slot;
  rule = rule.BadKind;
  first = r.refused.first;
  is = refl;
})))
kind_of need bytes helpers (PointerRange slot) r ne = inr (inr (inr (record {
  small = r.small;
  placed = r.placed;
  decoded = r.decoded;
  flow = r.refused.flow;
  slot = slot;
  rule = rule.PointerRange;
  first = r.refused.first;
  is = refl;
})))
kind_of need bytes helpers (FramePointer slot) r ne = inr (inr (inr (record {
  small = r.small;
  placed = r.placed;
  decoded = r.decoded;
  flow = r.refused.flow;
  slot = slot;
  rule = rule.FramePointer;
  first = r.refused.first;
  is = refl;
})))
kind_of need bytes helpers (NoHelper slot) r ne = inr (inr (inr (record {
  small = r.small;
  placed = r.placed;
  decoded = r.decoded;
  flow = r.refused.flow;
  slot = slot;
  rule = rule.NoHelper;
  first = r.refused.first;
  is = refl;
})))
kind_of need bytes helpers NoMemory r ne = absurd (ne refl)

large_small : {need : ℕ} → 65536 < need → need ≤ 65536 → ⊥
large_small large small = omega (arith, large, small)

codec_pair : (need : ℕ) (bytes : List ℕ) (f g : Refusal) → OfCodec need bytes f → OfCodec need bytes g → f ≡ g
codec_pair need bytes f g x y =
    let a = codec_refusal bytes x.fault x.refuses in
    let b = codec_refusal bytes y.fault y.refuses in
    x.is ∙ (ap (λ (e : CodecFault). Codec e) (one_codec bytes x.fault y.fault a.0 b.0 a.1 b.1) ∙ sym y.is)

flow_pair : (need : ℕ) (bytes : List ℕ) (f g : Refusal) → OfFlow need bytes f → OfFlow need bytes g → f ≡ g
flow_pair need bytes f g x y =
    let same : x.placed ≡ y.placed = one_program x.placed y.placed bytes x.decoded y.decoded in
    let a = flow_refusal (code_of y.placed) x.fault (subst (λ (p : List Placed). RefusesCode (code_of p) x.fault) same x.refuses) in
    let b = flow_refusal (code_of y.placed) y.fault y.refuses in
    x.is ∙ (ap (λ (e : FlowFault). Flow e) (one_flow (code_of y.placed) x.fault y.fault a.0 b.0 a.1 b.1) ∙ sym y.is)

states_pair : (need : ℕ) (bytes : List ℕ) (helpers : Table) (f g : Refusal) → OfStates need bytes helpers f → OfStates need bytes helpers g → f ≡ g
states_pair need bytes helpers f g x y =
    let same : x.placed ≡ y.placed = one_program x.placed y.placed bytes x.decoded y.decoded in
    let first = subst (λ (p : List Placed). IsFirstFaulty (record { need = need; helpers = helpers; code = code_of p }) x.slot x.rule) same x.first in
    let both = one_first (record { need = need; helpers = helpers; code = code_of y.placed }) x.slot x.rule y.slot y.rule first y.first in
    x.is ∙ (ap (λ (s : ℕ). refusal_at s x.rule) both.0 ∙ (ap (λ (n : Rule). refusal_at y.slot n) both.1 ∙ sym y.is))

flow_states : (need : ℕ) (bytes : List ℕ) (helpers : Table) (f g : Refusal) → OfFlow need bytes f → OfStates need bytes helpers g → ⊥
flow_states need bytes helpers f g x y =
    let same : x.placed ≡ y.placed = one_program x.placed y.placed bytes x.decoded y.decoded in
    not_flow (code_of y.placed) x.fault y.flow (subst (λ (p : List Placed). RefusesCode (code_of p) x.fault) same x.refuses)

-- two refusals of one program are one, but for want of memory
pub one_refusal : (need : ℕ) (bytes : List ℕ) (helpers : Table) (f g : Refusal) → RefusesProgram need bytes helpers f → RefusesProgram need bytes helpers g →
    f ≢ NoMemory → g ≢ NoMemory → f ≡ g
one_refusal need bytes helpers f g r q fne gne = by_kind (kind_of need bytes helpers f r fne) (kind_of need bytes helpers g q gne)
  where
    by_kind : IsOfKind need bytes helpers f → IsOfKind need bytes helpers g → f ≡ g
    by_kind (inl x) (inl y) = x.1 ∙ sym y.1
    by_kind (inl x) (inr (inl y)) = absurd (large_small x.0 y.small)
    by_kind (inl x) (inr (inr (inl y))) = absurd (large_small x.0 y.small)
    by_kind (inl x) (inr (inr (inr y))) = absurd (large_small x.0 y.small)
    by_kind (inr (inl x)) (inl y) = absurd (large_small y.0 x.small)
    by_kind (inr (inl x)) (inr (inl y)) = codec_pair need bytes f g x y
    by_kind (inr (inl x)) (inr (inr (inl y))) = absurd (not_codec y.placed bytes x.fault y.decoded x.refuses)
    by_kind (inr (inl x)) (inr (inr (inr y))) = absurd (not_codec y.placed bytes x.fault y.decoded x.refuses)
    by_kind (inr (inr (inl x))) (inl y) = absurd (large_small y.0 x.small)
    by_kind (inr (inr (inl x))) (inr (inl y)) = absurd (not_codec x.placed bytes y.fault x.decoded y.refuses)
    by_kind (inr (inr (inl x))) (inr (inr (inl y))) = flow_pair need bytes f g x y
    by_kind (inr (inr (inl x))) (inr (inr (inr y))) = absurd (flow_states need bytes helpers f g x y)
    by_kind (inr (inr (inr x))) (inl y) = absurd (large_small y.0 x.small)
    by_kind (inr (inr (inr x))) (inr (inl y)) = absurd (not_codec x.placed bytes y.fault x.decoded y.refuses)
    by_kind (inr (inr (inr x))) (inr (inr (inl y))) = absurd (flow_states need bytes helpers g f y x)
    by_kind (inr (inr (inr x))) (inr (inr (inr y))) = states_pair need bytes helpers f g x y

memory_or : (f : Refusal) → (f ≡ NoMemory) ⊎ (f ≢ NoMemory)
memory_or NoMemory = inl refl
memory_or NeedTooLarge = inr (λ e. absurd (cc))
memory_or (Codec fault) = inr (λ e. absurd (cc))
memory_or (Flow fault) = inr (λ e. absurd (cc))
memory_or (UnsetRead slot) = inr (λ e. absurd (cc))
memory_or (OutOfStack slot) = inr (λ e. absurd (cc))
memory_or (OutOfPart slot) = inr (λ e. absurd (cc))
memory_or (BadKind slot) = inr (λ e. absurd (cc))
memory_or (PointerRange slot) = inr (λ e. absurd (cc))
memory_or (FramePointer slot) = inr (λ e. absurd (cc))
memory_or (NoHelper slot) = inr (λ e. absurd (cc))

subjects : (m n : ℕ) (s t : Table) (c d : Code) → m ≡ n → s ≡ t → c ≡ d →
    ◌≡◌ {A = Subject} (record { need = m; helpers = s; code = c }) (record { need = n; helpers = t; code = d })
subjects m n s t c d x y z = cc

-- a program that is accepted is refused for want of memory alone
pub nothing_refused : (need : ℕ) (bytes : List ℕ) (helpers : Table) (v : Checked) (f : Refusal) → IsAccepted need bytes helpers v →
    RefusesProgram need bytes helpers f → f ≡ NoMemory
nothing_refused need bytes helpers v f a r = elim (memory_or f) [
  | inl e ↦ e
  | inr ne ↦ absurd (by_kind (kind_of need bytes helpers f r ne))
]
  where
    code_is : (p : List Placed) → IsProgram p bytes → v.code ≡ code_of p
    code_is p x = a.decoded.2 ∙ ap code_of (one_program a.decoded.0 p bytes a.decoded.1 x)

    by_kind : IsOfKind need bytes helpers f → ⊥
    by_kind (inl x) = large_small x.0 a.small
    by_kind (inr (inl x)) = not_codec a.decoded.0 bytes x.fault a.decoded.1 x.refuses
    by_kind (inr (inr (inl x))) = not_flow (code_of x.placed) x.fault (subst (λ (c : Code). HasFlow c) (code_is x.placed x.decoded) a.flow) x.refuses
    by_kind (inr (inr (inr x))) =
        let same = subjects v.need need v.helpers helpers v.code (code_of x.placed) a.same_need a.same_helpers (code_is x.placed x.decoded) in
        let table = subst (λ (p : Subject). IsTable p v.states) same a.states in
        not_allowed (record { need = need; helpers = helpers; code = code_of x.placed }) x.slot x.rule x.first.faulty (table.allowed x.slot)
