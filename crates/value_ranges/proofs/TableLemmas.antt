-- The table of arithmetic instructions covers what they give.
use Rattle.std.proofs.Common.{◌≡◌, ℕ, ℤ, IfOk, Result, Ok, Err, Option, Some, arith, refl, sym, ◌&&◌, ◌%◌, ◌^◌, ◌<◌}
use Rattle.value_ranges.specs.Covers.{Covers, CoversOutcomes}
use Rattle.value_ranges.specs.Interval.{Interval, is_single, Within}
use Rattle.value_ranges.specs.Numbers.{Ranges, Among}
use Rattle.value_ranges.specs.Ranges.{cut}
use Rattle.machine_model.specs.Outcomes.{outcome_of, alu_outcome, mov_outcome, number_result, on_number, extended_by, negated, ordered_by, width_to}
use Rattle.machine_model.specs.Outcomes as outcome
use Rattle.value_ranges.specs.Tables.{value_table, alu_table, move_table, on_range, IsArithmetic, IsReadSet, IsSet, number_ranges, extension_range, negated_range, ordered_range}
use Rattle.value_ranges.specs.Tables as table
use Rattle.value_ranges.specs.Span.{Span}
use Rattle.machine_model.specs.Value.{Value}
use Rattle.machine_model.specs.Value as value
use Rattle.value_ranges.specs.declared.fault.PointerFault.{PointerFault}
use Rattle.value_ranges.specs.declared.abs.Abs.{Abs}
use Rattle.value_ranges.specs.declared.abs.Abs.TheVariants.{Unset, Num, Stack, Part}
use Rattle.insn_codec.specs.declared.insn.Width.{Width}
use Rattle.insn_codec.specs.declared.insn.Width.TheVariants.{W32, W64}
use Rattle.insn_codec.specs.declared.insn.AluOp.{AluOp}
use Rattle.insn_codec.specs.declared.insn.Insn.{Insn}
use Rattle.insn_codec.specs.declared.insn.Insn.TheVariants.{Alu, Mov, MovSx, Neg, End}
use Rattle.machine_model.proofs.OperatorLemmas.{below_64, bits_of-le, end_bits-le, number_result-lt, extended_by-lt, negated-lt, ordered_by-lt}
use Rattle.value_ranges.proofs.CoverLemmas.{is_number, is_stack, is_part}
use Rattle.value_ranges.proofs.Dispatch.{Within-number_range}
use Rattle.value_ranges.proofs.RowLemmas.{Within-cut}
use Rattle.value_ranges.proofs.Extensions.{Within-extension, Within-negated, Within-ordered}
use Rattle.value_ranges.proofs.SignedLemmas.{Among-beside, Among-spanned, Between-row_unless}
use Rattle.value_ranges.proofs.PointerLemmas.{HasPosition, after, onto}

-- the value that the instruction gives is there, and covered
abbrev HasValue : Option Value → Abs → Type 0
HasValue o r = (z : Value) × (o ≡ Some z) × Covers r z

on_stack : (r : Result Span PointerFault) (o : Option ℤ) → IfOk r (HasPosition o) → IfOk (table.stack_pointers r) (HasValue (outcome.in_stack o))
on_stack (Ok q) o h = rw h.1 (value.Stack h.0, refl, h.2)
on_stack (Err e) o h = tt

on_part : (r : Result Span PointerFault) (o : Option ℤ) → IfOk r (HasPosition o) → IfOk (table.part_pointers r) (HasValue (outcome.in_part o))
on_part (Ok q) o h = rw h.1 (value.Part h.0, refl, h.2)
on_part (Err e) o h = tt

numbers : (w : Width) (op : AluOp) (a b : Ranges) (x y : ℕ) → x < 2 ^ 64 → y < 2 ^ 64 → Among a x → Among b y →
    HasValue (Some (value.Num (number_result w op x y))) (Num (number_ranges w op a b))
numbers w op a b x y p q h k =
    let small = below_64 _ _ (bits_of-le w) (number_result-lt w op x y) in (
      value.Num (number_result w op x y),
      refl,
      (
        Among-beside _ _ _ small (Within-number_range w op a.unsigned b.unsigned x y h.0 k.0)
            (Between-row_unless (is_single a.unsigned && is_single b.unsigned) w op a b x y p q h k),
        small,
      ),
    )

binary : (w : Width) (op : AluOp) (a b : Abs) (x y : Value) → IsSet a → IsSet b → Covers a x → Covers b y → IfOk (alu_table w op a b) (HasValue (alu_outcome w op x y))
binary w op Unset b x y s t h k = absurd s
binary w op (Num a) Unset x y s t h k = absurd t
binary w op (Num a) (Num b) x y s t h k =
    let i = is_number a x h in
    let j = is_number b y k in
    rw (i.1, j.1) (numbers w op a b i.0 j.0 i.3 j.3 i.2 j.2)
binary w op (Num a) (Stack p) x y s t h k =
    let i = is_number a x h in
    let j = is_stack p y k in
    rw (i.1, j.1) (on_stack _ _ (onto w op a p i.0 j.0 i.2 j.2))
binary w op (Num a) (Part p) x y s t h k =
    let i = is_number a x h in
    let j = is_part p y k in
    rw (i.1, j.1) (on_part _ _ (onto w op a p i.0 j.0 i.2 j.2))
binary w op (Stack p) (Num b) x y s t h k =
    let i = is_stack p x h in
    let j = is_number b y k in
    rw (i.1, j.1) (on_stack _ _ (after w op p b i.0 j.0 i.2 j.2))
binary w op (Part p) (Num b) x y s t h k =
    let i = is_part p x h in
    let j = is_number b y k in
    rw (i.1, j.1) (on_part _ _ (after w op p b i.0 j.0 i.2 j.2))
binary w op (Stack p) Unset x y s t h k = absurd t
binary w op (Stack p) (Stack q) x y s t h k = tt
binary w op (Stack p) (Part q) x y s t h k = tt
binary w op (Part p) Unset x y s t h k = absurd t
binary w op (Part p) (Stack q) x y s t h k = tt
binary w op (Part p) (Part q) x y s t h k = tt

copied : (w : Width) (b : Abs) (y : Value) → IsSet b → Covers b y → IfOk (move_table w b) (HasValue (mov_outcome w y))
copied w Unset y t k = absurd t
copied W64 (Num b) y t k = let j = is_number b y k in rw j.1 (value.Num j.0, refl, (j.2, j.3))
copied W64 (Stack p) y t k = let j = is_stack p y k in rw j.1 (value.Stack j.0, refl, j.2)
copied W64 (Part p) y t k = let j = is_part p y k in rw j.1 (value.Part j.0, refl, j.2)
copied W32 (Num b) y t k = let j = is_number b y k in rw j.1 (value.Num (j.0 % 2 ^ 32), refl, (Among-spanned (cut 32 b.unsigned) (j.0 % 2 ^ 32) (omega arith) (Within-cut 32 b.unsigned j.0 j.2.0), omega arith))
copied W32 (Stack p) y t k = tt
copied W32 (Part p) y t k = tt

unary : (f : Interval → Interval) (g : ℕ → ℕ) → ((r : Interval) (x : ℕ) → Within r x → Within (f r) (g x)) → ((x : ℕ) → g x < 2 ^ 64) → (a : Abs) (x : Value) → IsSet a → Covers a x → IfOk (on_range f a) (HasValue (on_number g x))
unary f g sound fits Unset x s h = absurd s
unary f g sound fits (Num r) x s h = let i = is_number r x h in rw i.1 (value.Num (g i.0), refl, (Among-spanned (f r.unsigned) (g i.0) (fits i.0) (sound r.unsigned i.0 i.2.0), fits i.0))
unary f g sound fits (Stack p) x s h = tt
unary f g sound fits (Part p) x s h = tt

each : (i : Insn) (a b : Abs) (x y : Value) → IsArithmetic i → IsReadSet i a b → Covers a x → Covers b y → IfOk (value_table i a b) (HasValue (outcome_of i x y))
each (Alu w op d s) a b x y _ t h k = binary w op a b x y t.0 t.1 h k
each (Mov w d s) a b x y _ t h k = copied w b y t k
each (MovSx e d s) a b x y _ t h k = unary (extension_range e) (extended_by e) (Within-extension e) (λ z. below_64 _ _ (bits_of-le (width_to e)) (extended_by-lt e z)) b y t k
each (Neg w d) a b x y _ t h k = unary (negated_range w) (negated w) (Within-negated w) (λ z. below_64 _ _ (bits_of-le w) (negated-lt w z)) a x t h
each (End c s d) a b x y _ t h k = unary (ordered_range c s) (ordered_by c s) (Within-ordered c s) (λ z. below_64 _ _ (end_bits-le s) (ordered_by-lt c s z)) a x t h
each _ a b x y n t h k = absurd n

all : (i : Insn) (a b : Abs) (r : Result Abs PointerFault) → ((x y : Value) → Covers a x → Covers b y → IfOk r (HasValue (outcome_of i x y))) → IfOk r (CoversOutcomes i a b)
all i a b (Ok q) h = h
all i a b (Err e) h = tt

pub table_covers : (i : Insn) (a b : Abs) (r : Result Abs PointerFault) → r ≡ value_table i a b → IsArithmetic i → IsReadSet i a b → IfOk r (CoversOutcomes i a b)
table_covers i a b r e n t =
    rw e (all i a b (value_table i a b) (λ x y h k. each i a b x y n t h k))

-- what the table gives covers each outcome
pub table_outcomes : (i : Insn) (a b r : Abs) → value_table i a b ≡ Ok r → IsArithmetic i → IsReadSet i a b → CoversOutcomes i a b r
table_outcomes i a b r e n t = table_covers i a b (Ok r) (sym e) n t
