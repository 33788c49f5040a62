-- An instruction that leaves the part with some need does so with each smaller one.
use Rattle.std.proofs.Common.{◌≡◌, ◌⊎◌, ◌↔◌, ℕ, ◌+◌, ◌≤◌, ◌<◌, Bool, true, false, true≢false, IsTrue, Option, Some, None, ℤ, pos, ◌+ℤ◌, if◌then◌else◌, inl, inr, refl, sym, subst, ap, ◌∙◌, arith}
use Rattle.std.specs.Prelude.{int_lt, ◌||◌, ◌==◌}
use Rattle.std.proofs.lemmas.Bool.{cases_lt}
use Rattle.std.proofs.lemmas.Int.{ints}
use Rattle.machine_model.specs.Memory.{load_bytes, store_bytes}
use Rattle.helpers.specs.Table.{Table, arity_in}
use Rattle.insn_codec.specs.declared.insn.Insn.{Insn}
use Rattle.insn_codec.specs.declared.insn.Insn.TheVariants.{Alu, Mov, MovSx, Neg, End, LoadWide, Load, Store, StoreRegister, Jump, Jump32, JumpIf, Call, Exit}
use Rattle.value_ranges.specs.Words.{greatest}
use Rattle.value_ranges.specs.declared.abs.Abs.{Abs}
use Rattle.value_ranges.specs.declared.abs.Abs.TheVariants.{Unset, Num, Stack, Part}
use Rattle.instruction_rules.specs.declared.rule.Rule.{Rule}
use Rattle.instruction_rules.specs.declared.rule.Rule.TheVariants.{OutOfPart}
use Rattle.instruction_rules.specs.declared.state.AbsState.{AbsState}
use Rattle.instruction_rules.specs.Covers.{abs_at}
use Rattle.instruction_rules.specs.States.{access_fault, call_fault, fault, first_rule, kind_fault, length_fault, number_arguments, number_fault, span_fault, unset_arguments}
use Rattle.explain.specs.Needs.{LeavesPart}

-- what is broken with a smaller need: the same as with a greater one, or the part is left
abbrev Grows : Option Rule → Option Rule → Type 0
Grows small large = (small ≡ large) ⊎ (small ≡ Some OutOfPart)

first_grows : (a b c d : Option Rule) → Grows a b → Grows c d → Grows (first_rule a c) (first_rule b d)
first_grows a b c d (inr e) more = inr (ap (λ (o : Option Rule). first_rule o c) e)
first_grows (Some rule) b c d (inl e) more = inl (ap (λ (o : Option Rule). first_rule o d) e)
first_grows None b c d (inl e) more = subst (λ (o : Option Rule). Grows c (first_rule o d)) e more

by_tests : (low short long : Bool) → (long ≡ true → short ≡ true) →
    Grows (if low || short then Some OutOfPart else None) (if low || long then Some OutOfPart else None)
by_tests true short long h = inr refl
by_tests false true long h = inr refl
by_tests false false true h = absurd (true≢false (sym (h refl)))
by_tests false false false h = inl refl

module _ (m n : ℕ) (le : m ≤ n) where
  below : (x : ℤ) → int_lt (pos n) x ≡ true → int_lt (pos m) x ≡ true
  below x e = grind (arith, ints)

  access_grows : (a : Abs) (offset : ℤ) (count : ℕ) → Grows (access_fault m a offset count) (access_fault n a offset count)
  access_grows Unset offset count = inl refl
  access_grows (Num r) offset count = inl refl
  access_grows (Stack reach) offset count = inl refl
  access_grows (Part reach) offset count =
      by_tests (int_lt (reach.lo +ℤ offset) (pos 0)) (int_lt (pos m) (reach.hi +ℤ offset +ℤ pos count)) (int_lt (pos n) (reach.hi +ℤ offset +ℤ pos count))
      (below (reach.hi +ℤ offset +ℤ pos count))

  span_grows : (pointer len : Abs) → Grows (span_fault m pointer len) (span_fault n pointer len)
  span_grows pointer (Num len) = access_grows pointer (pos 0) (greatest len)
  span_grows pointer Unset = inl refl
  span_grows pointer (Stack reach) = inl refl
  span_grows pointer (Part reach) = inl refl

  kind_grows : (state : AbsState) (helper arity : ℕ) → Grows (kind_fault m state helper arity) (kind_fault n state helper arity)
  kind_grows state helper arity = by (helper == 4) (helper == 5)
    where
      fills : Option Rule
      fills = first_rule (length_fault (abs_at state 2)) (number_fault (abs_at state 3))

      by : (fill sum : Bool) →
          Grows (if fill then first_rule (span_fault m (abs_at state 1) (abs_at state 2)) fills else
          if sum then first_rule (span_fault m (abs_at state 1) (abs_at state 2)) (length_fault (abs_at state 2)) else number_arguments state arity)
          (if fill then first_rule (span_fault n (abs_at state 1) (abs_at state 2)) fills else
          if sum then first_rule (span_fault n (abs_at state 1) (abs_at state 2)) (length_fault (abs_at state 2)) else number_arguments state arity)
      by true sum = first_grows _ _ _ _ (span_grows (abs_at state 1) (abs_at state 2)) (inl refl)
      by false true = first_grows _ _ _ _ (span_grows (abs_at state 1) (abs_at state 2)) (inl refl)
      by false false = inl refl

  call_grows : (state : AbsState) (helper : ℕ) (arity : Option ℕ) → Grows (call_fault m state helper arity) (call_fault n state helper arity)
  call_grows state helper None = inl refl
  call_grows state helper (Some arity) = first_grows (unset_arguments state arity) (unset_arguments state arity) _ _ (inl refl) (kind_grows state helper arity)

  fault_grows : (helpers : Table) (i : Insn) (state : AbsState) → Grows (fault m helpers i state) (fault n helpers i state)
  fault_grows helpers (Alu w op dst src) state = inl refl
  fault_grows helpers (Mov w dst src) state = inl refl
  fault_grows helpers (MovSx e dst src) state = inl refl
  fault_grows helpers (Neg w dst) state = inl refl
  fault_grows helpers (End order size dst) state = inl refl
  fault_grows helpers (LoadWide dst value) state = inl refl
  fault_grows helpers (Load kind dst base offset) state =
      first_grows _ _ _ _ (access_grows (abs_at state base) offset (load_bytes kind)) (inl refl)
  fault_grows helpers (Store size base offset imm) state = access_grows (abs_at state base) offset (store_bytes size)
  fault_grows helpers (StoreRegister size base offset src) state =
      first_grows _ _ _ _ (inl refl) (first_grows _ _ _ _ (inl refl) (first_grows _ _ _ _ (access_grows (abs_at state base) offset (store_bytes size)) (inl refl)))
  fault_grows helpers (Jump offset) state = inl refl
  fault_grows helpers (Jump32 offset) state = inl refl
  fault_grows helpers (JumpIf w c dst src offset) state = inl refl
  fault_grows helpers (Call helper) state = call_grows state helper (arity_in helpers helper)
  fault_grows helpers Exit state = inl refl

  pub leaves_less : (helpers : Table) (i : Insn) (state : AbsState) → LeavesPart helpers i state n → LeavesPart helpers i state m
  leaves_less helpers i state leaves = elim (fault_grows helpers i state) [
    | inl same ↦ same ∙ leaves
    | inr leaves ↦ leaves
  ]

-- between two needs that follow each other, of which the first leaves the part and the second not
pub from_here : (helpers : Table) (i : Insn) (state : AbsState) (low high : ℕ) → high ≤ low + 1 → LeavesPart helpers i state low → (LeavesPart helpers i state high → ⊥) →
    (need : ℕ) → LeavesPart helpers i state need ↔ (need < high)
from_here helpers i state low high near leaves not need = (
  λ l. elim (cases_lt need high) [
    | inl lt ↦ lt
    | inr ge ↦ absurd (not (leaves_less high need ge helpers i state l))
  ],
  λ lt. leaves_less need low (omega (arith, near, lt)) helpers i state leaves,
)

-- ---- what a rule tells

pub leaves_by : (broken : Option Rule) (rule : Rule) (b : Bool) → broken ≡ Some rule → (IsTrue b ↔ (rule ≡ OutOfPart)) → IsTrue b ↔ (broken ≡ Some OutOfPart)
leaves_by broken rule b is told = (λ t. is ∙ ap Some (told.0 t), λ e. told.1 (same (sym is ∙ e)))
  where
    same : Some rule ≡ Some OutOfPart → rule ≡ OutOfPart
    same e = cc

pub leaves_not : (broken : Option Rule) → broken ≡ None → IsTrue false ↔ (broken ≡ Some OutOfPart)
leaves_not broken is = (λ t. absurd (cc), λ e. absurd (clash (sym is ∙ e)))
  where
    clash : None ≡ Some OutOfPart → ⊥
    clash e = cc
