-- What the faults of a program's edges mean.
use Rattle.std.proofs.Common.{◌≡◌, ◌≢◌, ◌⊎◌, ◌↔◌, ℕ, ℤ, ◌+◌, ◌≤◌, ◌<◌, length, Some, None, Option, ap, sym, ◌∙◌, arith, refl, inl, inr, slice_get, subst, nat_lt, if◌then◌else◌, Bool, true, false, IsSome, rules}
use Rattle.std.specs.Prelude.{option_and_then}
use Rattle.std.proofs.lemmas.Bool.{cases_lt}
use Rattle.std.proofs.lemmas.Bool.Decides.{nat_tests}
use Rattle.std.proofs.lemmas.Option.{slice_get_past, slice_get_within, slice_get_cases}
use Rattle.insn_codec.specs.declared.insn.Insn.{Insn}
use Rattle.insn_codec.specs.declared.insn.Insn.TheVariants.{Alu, Mov, MovSx, Neg, End, LoadWide, Load, Store, StoreRegister, Jump, Jump32, JumpIf, Call, Exit}
use Rattle.insn_codec.specs.declared.insn.Placed.{Placed}
use Rattle.std.specs.Prelude.{List}
use Rattle.machine_model.specs.Edges.{Code, Fact, Always, NotTaken, Taken, Begins, insn_at, leads_at, target}
use Rattle.machine_model.proofs.Codes.{slot_there, begins_within}
use Rattle.flow_graph.specs.declared.fault.FlowFault.{FlowFault}
use Rattle.flow_graph.specs.declared.fault.FlowFault.TheVariants.{JumpOut, IntoWide, FallsOff}
use Rattle.flow_graph.specs.declared.onward.Onward.{Onward}
use Rattle.flow_graph.specs.declared.onward.Onward.TheVariants.{Steps, StepsWide, Jumps, Branches, Ends}
use Rattle.flow_graph.specs.Onward.{onward_of}
use Rattle.flow_graph.specs.Program.{code_of_insn, code_of, IsDecoded}
use Rattle.flow_graph.specs.Faults.{landing_fault, jump_fault, fall_fault, first_of_faults, onward_fault, fault_of, fault_at}
use Rattle.flow_graph.specs.Landings.{JumpsBy, FallsThrough, IsOut, IsInto, JumpsOut, JumpsInto, IsLast, IsSettled}
use Rattle.flow_graph.proofs.Onwards.{leads_on, width_of, other_slot, second_is, leads_of, first_none}
use Rattle.flow_graph.proofs.FaultLemmas.{either}
use Rattle.flow_graph.proofs.Joining.{lands_at}
use Rattle.flow_graph.proofs.CodeLemmas.{laid_of}

-- ---- instructions by how they go on

abbrev HowOn : Insn → Onward → Type 0
HowOn i Steps = FallsThrough i × ((by : ℤ) → JumpsBy i by → ⊥)
HowOn i StepsWide = FallsThrough i × ((by : ℤ) → JumpsBy i by → ⊥)
HowOn i (Jumps offset) = JumpsBy i offset × ((by : ℤ) → JumpsBy i by → offset ≡ by) × (FallsThrough i → ⊥)
HowOn i (Branches offset) = JumpsBy i offset × ((by : ℤ) → JumpsBy i by → offset ≡ by) × FallsThrough i
HowOn i Ends = (FallsThrough i → ⊥) × ((by : ℤ) → JumpsBy i by → ⊥)

how_of : (i : Insn) → HowOn i (onward_of i)
how_of (Alu w op dst src) = (tt, λ by h. h)
how_of (Mov w dst src) = (tt, λ by h. h)
how_of (MovSx e dst src) = (tt, λ by h. h)
how_of (Neg w dst) = (tt, λ by h. h)
how_of (End order size dst) = (tt, λ by h. h)
how_of (LoadWide dst value) = (tt, λ by h. h)
how_of (Load kind dst base offset) = (tt, λ by h. h)
how_of (Store size base offset imm) = (tt, λ by h. h)
how_of (StoreRegister size base offset src) = (tt, λ by h. h)
how_of (Jump offset) = (refl, λ by h. h, λ g. g)
how_of (Jump32 offset) = (refl, λ by h. h, λ g. g)
how_of (JumpIf w c dst src offset) = (refl, λ by h. h, tt)
how_of (Call helper) = (tt, λ by h. h)
how_of Exit = (λ g. g, λ by h. h)

wide_of : (o : Onward) → length (other_slot o) + 1 ≡ width_of o
wide_of Steps = refl
wide_of StepsWide = refl
wide_of (Jumps offset) = refl
wide_of (Branches offset) = refl
wide_of Ends = refl

width_is : (i : Insn) (o : Onward) → onward_of i ≡ o → length (code_of_insn i) ≡ width_of o
width_is i o e =
    let second : length (code_of_insn i) ≡ length (other_slot o) + 1 = omega (arith, ap length (second_is i), ap (λ (p : Onward). length (other_slot p)) e) in
    second ∙ wide_of o

-- ---- jumps

apart : {P : Type 0} (o : Option FlowFault) (f g : FlowFault) → o ≡ Some f → o ≡ Some g → f ≢ g → P
apart o f g a b ne = let same : f ≡ g = cc in absurd (ne same)

out_at : (code : Code) (slot to : ℕ) (x : Option (Option Insn)) → slice_get code to ≡ x → landing_fault slot to x ≡ Some (JumpOut slot) → length code ≤ to
out_at code slot to None is e = elim (slice_get_cases code to).1 [
  | inl there ↦ let s : slice_get code to ≡ Some there.0 = there.2 in absurd (cc)
  | inr past ↦ past.0
]
out_at code slot to (Some None) is e = absurd (cc)
out_at code slot to (Some (Some i)) is e = absurd (cc)

out_of : (code : Code) (slot : ℕ) (t : Option ℕ) → jump_fault code slot t ≡ Some (JumpOut slot) → IsOut code t
out_of code slot None e = tt
out_of code slot (Some to) e = out_at code slot to (slice_get code to) refl e

of_out : (code : Code) (slot : ℕ) (t : Option ℕ) → IsOut code t → jump_fault code slot t ≡ Some (JumpOut slot)
of_out code slot None h = refl
of_out code slot (Some to) h = ap (landing_fault slot to) (slice_get_past code to h)

second_at : (code : Code) (to : ℕ) → slice_get code to ≡ Some None → Begins code to → ⊥
second_at code to is b =
    let none : insn_at code to ≡ None = ap (λ (x : Option (Option Insn)). option_and_then (λ j. j) x) is in
    let some : insn_at code to ≡ Some b.0 = b.1 in cc

into_at : (code : Code) (slot to : ℕ) (x : Option (Option Insn)) → slice_get code to ≡ x → landing_fault slot to x ≡ Some (IntoWide slot) →
    IsInto code (Some to)
into_at code slot to None is e = absurd (cc)
into_at code slot to (Some None) is e = (to, refl, slice_get_within code to None is, second_at code to is)
into_at code slot to (Some (Some i)) is e = absurd (cc)

into_of : (code : Code) (slot : ℕ) (t : Option ℕ) → jump_fault code slot t ≡ Some (IntoWide slot) → IsInto code t
into_of code slot None e = absurd (cc)
into_of code slot (Some to) e = into_at code slot to (slice_get code to) refl e

at_into : (code : Code) (slot to : ℕ) (x : Option (Option Insn)) → slice_get code to ≡ x → to < length code → (Begins code to → ⊥) →
    landing_fault slot to x ≡ Some (IntoWide slot)
at_into code slot to None is lt none = elim (slice_get_cases code to).1 [
  | inl there ↦ let s : slice_get code to ≡ Some there.0 = there.2 in absurd (cc)
  | inr past ↦ let le : length code ≤ to = past.0 in absurd (omega arith)
]
at_into code slot to (Some None) is lt none = refl
at_into code slot to (Some (Some i)) is lt none =
    absurd (none (i, ap (λ (x : Option (Option Insn)). option_and_then (λ j. j) x) is))

of_into : (code : Code) (slot : ℕ) (t : Option ℕ) → IsInto code t → jump_fault code slot t ≡ Some (IntoWide slot)
of_into code slot t h = ap (jump_fault code slot) h.1 ∙ at_into code slot h.0 (slice_get code h.0) refl h.2 h.3

no_fall : (code : Code) (slot : ℕ) (t : Option ℕ) → jump_fault code slot t ≡ Some (FallsOff slot) → ⊥
no_fall code slot None e = cc
no_fall code slot (Some to) e = at_landing slot to (slice_get code to) e
  where
    at_landing : (slot to : ℕ) (x : Option (Option Insn)) → landing_fault slot to x ≡ Some (FallsOff slot) → ⊥
    at_landing slot to None e = cc
    at_landing slot to (Some None) e = cc
    at_landing slot to (Some (Some i)) e = cc

jump_cases : (code : Code) (slot : ℕ) (t : Option ℕ) → (jump_fault code slot t ≡ None) ⊎ IsOut code t ⊎ IsInto code t
jump_cases code slot None = inr (inl tt)
jump_cases code slot (Some to) = at_landing code slot to (slice_get code to) refl
  where
    at_landing : (code : Code) (slot to : ℕ) (x : Option (Option Insn)) → slice_get code to ≡ x →
        (landing_fault slot to (slice_get code to) ≡ None) ⊎ IsOut code (Some to) ⊎ IsInto code (Some to)
    at_landing code slot to None is = inr (inl (out_at code slot to None is refl))
    at_landing code slot to (Some None) is = inr (inr (into_at code slot to (Some None) is refl))
    at_landing code slot to (Some (Some i)) is = inl (ap (landing_fault slot to) is)

target_there : (code : Code) (slot : ℕ) (t : Option ℕ) → jump_fault code slot t ≡ None → IsSome t
target_there code slot None e = absurd (cc)
target_there code slot (Some to) e = search rules

-- a jump to a target where an instruction begins, if it isn't below slot 0
jump_lands : (code : Code) (slot : ℕ) (t : Option ℕ) → IsSome t → ((to : ℕ) → t ≡ Some to → Begins code to) → jump_fault code slot t ≡ None
jump_lands code slot None there lands = absurd (search rules)
jump_lands code slot (Some to) there lands =
    let b : Begins code to = lands to refl in ap (landing_fault slot to) (slot_there code to b.0 b.1)

-- ---- falls

fall_some : (code : Code) (slot to : ℕ) → length code ≤ to → fall_fault code slot to ≡ Some (FallsOff slot)
fall_some code slot to h =
    let f : nat_lt to (length code) ≡ false = grind (arith, nat_tests) in
    ap (λ (b : Bool). if◌then◌else◌ {A = Option FlowFault} b None (Some (FallsOff slot))) f

fall_none : (code : Code) (slot to : ℕ) → to < length code → fall_fault code slot to ≡ None
fall_none code slot to h =
    let f : nat_lt to (length code) ≡ true = grind (arith, nat_tests) in
    ap (λ (b : Bool). if◌then◌else◌ {A = Option FlowFault} b None (Some (FallsOff slot))) f

fall_of : (code : Code) (slot to : ℕ) (f : FlowFault) → fall_fault code slot to ≡ Some f → (FallsOff slot ≡ f) × (length code ≤ to)
fall_of code slot to f e = elim (cases_lt to (length code)) [
  | inl low ↦ let none : fall_fault code slot to ≡ None = fall_none code slot to low in absurd (cc)
  | inr high ↦ let some : fall_fault code slot to ≡ Some (FallsOff slot) = fall_some code slot to high in
      let same : FallsOff slot ≡ f = cc in (same, high)
]

-- ---- the fault at a slot

fault_on : (code : Code) (slot : ℕ) (i : Insn) (o : Onward) → insn_at code slot ≡ Some i → onward_of i ≡ o → fault_at code slot ≡ onward_fault code slot o
fault_on code slot i o is e = ap (fault_of code slot) is ∙ ap (onward_fault code slot) e

-- a fault of jumps alone
of_jump : (Q : Option ℕ → Type 0) (code : Code) (slot : ℕ) (i : Insn) (f : FlowFault) (o : Onward) → HowOn i o → FallsOff slot ≢ f →
    ((t : Option ℕ) → jump_fault code slot t ≡ Some f → Q t) → onward_fault code slot o ≡ Some f → (offset : ℤ) × JumpsBy i offset × Q (target slot offset)
of_jump Q code slot i f Steps how ne of e = absurd (ne (fall_of code slot (slot + 1) f e).0)
of_jump Q code slot i f StepsWide how ne of e = absurd (ne (fall_of code slot (slot + 2) f e).0)
of_jump Q code slot i f (Jumps offset) how ne of e = (offset, how.0, of (target slot offset) e)
of_jump Q code slot i f (Branches offset) how ne of e =
    elim (either (jump_fault code slot (target slot offset)) (fall_fault code slot (slot + 1)) f e) [
      | inl jump ↦ (offset, how.0, of (target slot offset) jump)
      | inr fall ↦ absurd (ne (fall_of code slot (slot + 1) f fall).0)
    ]
of_jump Q code slot i f Ends how ne of e = absurd (cc)

to_jump : (Q : Option ℕ → Type 0) (code : Code) (slot : ℕ) (i : Insn) (f : FlowFault) (o : Onward) → HowOn i o →
    ((t : Option ℕ) → Q t → jump_fault code slot t ≡ Some f) → (offset : ℤ) → JumpsBy i offset → Q (target slot offset) → onward_fault code slot o ≡ Some f
to_jump Q code slot i f Steps how back offset by h = absurd (how.1 offset by)
to_jump Q code slot i f StepsWide how back offset by h = absurd (how.1 offset by)
to_jump Q code slot i f (Jumps own) how back offset by h =
    back (target slot own) (subst (λ (z : ℤ). Q (target slot z)) (sym (how.1 offset by)) h)
to_jump Q code slot i f (Branches own) how back offset by h =
    ap (λ (j : Option FlowFault). first_of_faults j (fall_fault code slot (slot + 1)))
    (back (target slot own) (subst (λ (z : ℤ). Q (target slot z)) (sym (how.1 offset by)) h))
to_jump Q code slot i f Ends how back offset by h = absurd (how.1 offset by)

falls_not_out : (slot : ℕ) → FallsOff slot ≢ JumpOut slot
falls_not_out slot = λ e. cc

falls_not_into : (slot : ℕ) → FallsOff slot ≢ IntoWide slot
falls_not_into slot = λ e. cc

pub jumps_out : (code : Code) (slot : ℕ) (i : Insn) → insn_at code slot ≡ Some i → (fault_at code slot ≡ Some (JumpOut slot)) ↔ JumpsOut code slot i
jumps_out code slot i is = (
  λ e. of_jump (IsOut code) code slot i (JumpOut slot) (onward_of i) (how_of i) (falls_not_out slot) (out_of code slot)
      (sym (fault_on code slot i (onward_of i) is refl) ∙ e),
  λ h. fault_on code slot i (onward_of i) is refl
      ∙ to_jump (IsOut code) code slot i (JumpOut slot) (onward_of i) (how_of i) (of_out code slot) h.0 h.1 h.2,
)

pub jumps_into : (code : Code) (slot : ℕ) (i : Insn) → insn_at code slot ≡ Some i → (fault_at code slot ≡ Some (IntoWide slot)) ↔ JumpsInto code slot i
jumps_into code slot i is = (
  λ e. of_jump (IsInto code) code slot i (IntoWide slot) (onward_of i) (how_of i) (falls_not_into slot) (into_of code slot)
      (sym (fault_on code slot i (onward_of i) is refl) ∙ e),
  λ h. fault_on code slot i (onward_of i) is refl
      ∙ to_jump (IsInto code) code slot i (IntoWide slot) (onward_of i) (how_of i) (of_into code slot) h.0 h.1 h.2,
)

last_of : (code : Code) (slot : ℕ) (i : Insn) (o : Onward) → onward_of i ≡ o → HowOn i o → onward_fault code slot o ≡ Some (FallsOff slot) → IsLast code slot i
last_of code slot i Steps e how f =
    let le : length code ≤ slot + 1 = (fall_of code slot (slot + 1) (FallsOff slot) f).1 in (how.0, omega (arith, width_is i Steps e))
last_of code slot i StepsWide e how f =
    let le : length code ≤ slot + 2 = (fall_of code slot (slot + 2) (FallsOff slot) f).1 in (how.0, omega (arith, width_is i StepsWide e))
last_of code slot i (Jumps offset) e how f = absurd (no_fall code slot (target slot offset) f)
last_of code slot i (Branches offset) e how f =
    elim (either (jump_fault code slot (target slot offset)) (fall_fault code slot (slot + 1)) (FallsOff slot) f) [
      | inl jump ↦ absurd (no_fall code slot (target slot offset) jump)
      | inr fall ↦ let le : length code ≤ slot + 1 = (fall_of code slot (slot + 1) (FallsOff slot) fall).1 in
          (how.2, omega (arith, width_is i (Branches offset) e))
    ]
last_of code slot i Ends e how f = absurd (cc)

of_last : (code : Code) (slot : ℕ) (i : Insn) (o : Onward) → onward_of i ≡ o → HowOn i o → IsLast code slot i → (JumpsOut code slot i → ⊥) →
    (JumpsInto code slot i → ⊥) → onward_fault code slot o ≡ Some (FallsOff slot)
of_last code slot i Steps e how h out into =
    let le : length code ≤ slot + length (code_of_insn i) = h.1 in fall_some code slot (slot + 1) (omega (arith, width_is i Steps e))
of_last code slot i StepsWide e how h out into =
    let le : length code ≤ slot + length (code_of_insn i) = h.1 in fall_some code slot (slot + 2) (omega (arith, width_is i StepsWide e))
of_last code slot i (Jumps offset) e how h out into = absurd (how.2 h.0)
of_last code slot i (Branches offset) e how h out into = elim (jump_cases code slot (target slot offset)) [
  | inl none ↦
      let le : length code ≤ slot + length (code_of_insn i) = h.1 in
      ap (λ (j : Option FlowFault). first_of_faults j (fall_fault code slot (slot + 1))) none
      ∙ fall_some code slot (slot + 1) (omega (arith, width_is i (Branches offset) e))
  | inr bad ↦ elim bad [
    | inl o ↦ absurd (out (offset, how.0, o))
    | inr o ↦ absurd (into (offset, how.0, o))
  ]
]
of_last code slot i Ends e how h out into = absurd (how.0 h.0)

pub falls_off : (code : Code) (slot : ℕ) (i : Insn) → insn_at code slot ≡ Some i →
    (fault_at code slot ≡ Some (FallsOff slot)) ↔ (IsLast code slot i × (JumpsOut code slot i → ⊥) × (JumpsInto code slot i → ⊥))
falls_off code slot i is = (
  λ e. (
    last_of code slot i (onward_of i) refl (how_of i) (sym (fault_on code slot i (onward_of i) is refl) ∙ e),
    λ h. apart (fault_at code slot) (FallsOff slot) (JumpOut slot) e ((jumps_out code slot i is).1 h) (falls_not_out slot),
    λ h. apart (fault_at code slot) (FallsOff slot) (IntoWide slot) e ((jumps_into code slot i is).1 h) (falls_not_into slot),
  ),
  λ h. fault_on code slot i (onward_of i) is refl ∙ of_last code slot i (onward_of i) refl (how_of i) h.0 h.1 h.2,
)

-- ---- no fault

has_target : (code : Code) (slot : ℕ) (i : Insn) (o : Onward) → HowOn i o → onward_fault code slot o ≡ None → (offset : ℤ) → JumpsBy i offset →
    IsSome (target slot offset)
has_target code slot i Steps how e offset by = absurd (how.1 offset by)
has_target code slot i StepsWide how e offset by = absurd (how.1 offset by)
has_target code slot i (Jumps own) how e offset by =
    subst (λ (z : ℤ). IsSome (target slot z)) (how.1 offset by) (target_there code slot (target slot own) e)
has_target code slot i (Branches own) how e offset by =
    subst (λ (z : ℤ). IsSome (target slot z)) (how.1 offset by)
    (target_there code slot (target slot own) (first_none (jump_fault code slot (target slot own)) (fall_fault code slot (slot + 1)) e).0)
has_target code slot i Ends how e offset by = absurd (how.1 offset by)

no_fault : (code : Code) (slot : ℕ) (i : Insn) (o : Onward) → HowOn i o → IsSettled code slot i →
    ((fact : Fact) → leads_at code slot fact ≡ leads_on o slot fact) → onward_fault code slot o ≡ None
no_fault code slot i Steps how s leads =
    fall_none code slot (slot + 1) (begins_within code (slot + 1) (s.lands Always (slot + 1) (leads Always)))
no_fault code slot i StepsWide how s leads =
    fall_none code slot (slot + 2) (begins_within code (slot + 2) (s.lands Always (slot + 2) (leads Always)))
no_fault code slot i (Jumps offset) how s leads =
    jump_lands code slot (target slot offset) (s.targets offset how.0) (λ to e. s.lands Always to (leads Always ∙ e))
no_fault code slot i (Branches offset) how s leads =
    ap (λ (j : Option FlowFault). first_of_faults j (fall_fault code slot (slot + 1)))
    (jump_lands code slot (target slot offset) (s.targets offset how.0) (λ to e. s.lands Taken to (leads Taken ∙ e)))
    ∙ fall_none code slot (slot + 1) (begins_within code (slot + 1) (s.lands NotTaken (slot + 1) (leads NotTaken)))
no_fault code slot i Ends how s leads = refl

pub settled : (placed : List Placed) (slot : ℕ) (i : Insn) → IsDecoded placed → insn_at (code_of placed) slot ≡ Some i →
    (fault_at (code_of placed) slot ≡ None) ↔ IsSettled (code_of placed) slot i
settled placed slot i d is = (
  λ e. record {
    targets = has_target (code_of placed) slot i (onward_of i) (how_of i) (sym (fault_on (code_of placed) slot i (onward_of i) is refl) ∙ e);
    lands = λ fact s edge. (lands_at (code_of placed) (laid_of placed d) slot fact s (insn_at (code_of placed) slot) e refl edge).1;
  },
  λ s. fault_on (code_of placed) slot i (onward_of i) is refl
      ∙ no_fault (code_of placed) slot i (onward_of i) (how_of i) s (λ fact. leads_of (code_of placed) slot i fact is),
)
