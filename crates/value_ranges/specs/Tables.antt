-- The table of arithmetic instructions on abstract values.
use Rattle.std.specs.Prelude.{ℕ, ℤ, pos, ◌+ℤ◌, ◌-ℤ◌, neg_ℤ, if◌then◌else◌, None, Result, Ok, Err, int_lt, ◌||◌, ◌&&◌, Bool, true, false}
use Rattle.value_ranges.specs.Interval.{Interval, single, full, is_single}
use Rattle.value_ranges.specs.Numbers.{Ranges, spanned}
use Rattle.value_ranges.specs.Span.{Span, span}
use Rattle.value_ranges.specs.Ranges.{cut, range_of, extended_range, low_range}
use Rattle.value_ranges.specs.SignedRows.{signed_row, beside}
use Rattle.machine_model.specs.Operators.{bits_of}
use Rattle.insn_codec.specs.declared.insn.Width.{Width}
use Rattle.insn_codec.specs.declared.insn.Width.TheVariants.{W32, W64}
use Rattle.insn_codec.specs.declared.insn.AluOp.{AluOp}
use Rattle.insn_codec.specs.declared.insn.AluOp.TheVariants.{Add, Sub}
use Rattle.machine_model.specs.Outcomes.{bits_from, width_to, end_bits, negated, ordered_by}
use Rattle.insn_codec.specs.declared.insn.SignExtension.{SignExtension}
use Rattle.insn_codec.specs.declared.insn.ByteOrder.{ByteOrder}
use Rattle.insn_codec.specs.declared.insn.ByteOrder.TheVariants.{Little}
use Rattle.insn_codec.specs.declared.insn.EndSize.{EndSize}
use Rattle.insn_codec.specs.declared.insn.Insn.{Insn}
use Rattle.insn_codec.specs.declared.insn.Insn.TheVariants.{Alu, Mov, MovSx, Neg, End}
use Rattle.value_ranges.specs.PointerFaultCodes.{code_of_pointer_fault}
use Rattle.value_ranges.specs.declared.fault.PointerFault.{PointerFault}
use Rattle.value_ranges.specs.declared.fault.PointerFault.TheVariants.{NoResult, TooFar}
use Rattle.value_ranges.specs.declared.abs.Abs.{Abs}
use Rattle.value_ranges.specs.declared.abs.Abs.TheVariants.{Unset, Num, Stack, Part}

-- positions within the limit
abbrev pub positions : ℤ → ℤ → Result Span PointerFault
positions lo hi =
    if int_lt lo (neg_ℤ (pos 1048576)) || int_lt (pos 1048576) hi
    then Err TooFar else Ok (span lo hi)

-- a pointer moved by the signed readings of numbers
abbrev pub moved_up : Span → Span → Result Span PointerFault
moved_up p s = positions (p.lo +ℤ s.lo) (p.hi +ℤ s.hi)

abbrev pub moved_down : Span → Span → Result Span PointerFault
moved_down p s = positions (p.lo -ℤ s.hi) (p.hi -ℤ s.lo)

abbrev pub positions_after : Width → AluOp → Span → Ranges → Result Span PointerFault
positions_after W64 Add p n = moved_up p n.signed
positions_after W64 Sub p n = moved_down p n.signed
positions_after w op p n = Err NoResult

abbrev pub positions_onto : Width → AluOp → Ranges → Span → Result Span PointerFault
positions_onto W64 Add n p = moved_up p n.signed
positions_onto w op n p = Err NoResult

abbrev pub stack_pointers : Result Span PointerFault → Result Abs PointerFault
stack_pointers (Ok p) = Ok (Stack p)
stack_pointers (Err e) = Err e

abbrev pub part_pointers : Result Span PointerFault → Result Abs PointerFault
part_pointers (Ok p) = Ok (Part p)
part_pointers (Err e) = Err e

abbrev pub number_range : Width → AluOp → Interval → Interval → Interval
number_range w op a b = range_of op (bits_of w) (cut (bits_of w) a) (cut (bits_of w) b)

-- of more than one number the operator may tell the signed range too
abbrev pub number_ranges : Width → AluOp → Ranges → Ranges → Ranges
number_ranges w op a b =
    beside (number_range w op a.unsigned b.unsigned)
    (if is_single a.unsigned && is_single b.unsigned then None else signed_row w op a b)

abbrev pub alu_table : Width → AluOp → Abs → Abs → Result Abs PointerFault
alu_table w op (Num a) (Num b) = Ok (Num (number_ranges w op a b))
alu_table w op (Stack p) (Num b) = stack_pointers (positions_after w op p b)
alu_table w op (Part p) (Num b) = part_pointers (positions_after w op p b)
alu_table w op (Num a) (Stack p) = stack_pointers (positions_onto w op a p)
alu_table w op (Num a) (Part p) = part_pointers (positions_onto w op a p)
alu_table w op _ _ = Err NoResult

abbrev pub move_table : Width → Abs → Result Abs PointerFault
move_table W64 b = Ok b
move_table W32 (Num b) = Ok (Num (spanned (cut 32 b.unsigned)))
move_table W32 _ = Err NoResult

abbrev pub on_range : (Interval → Interval) → Abs → Result Abs PointerFault
on_range f (Num n) = Ok (Num (spanned (f n.unsigned)))
on_range f _ = Err NoResult

abbrev pub extension_range : SignExtension → Interval → Interval
extension_range e r =
    extended_range (bits_from e) (bits_of (width_to e)) (cut (bits_of (width_to e)) r)

abbrev pub negated_range : Width → Interval → Interval
negated_range w r = if is_single r then single (negated w r.lo) else full (bits_of w)

abbrev pub ordered_range : ByteOrder → EndSize → Interval → Interval
ordered_range Little s r = low_range (end_bits s) r
ordered_range c s r = if is_single r then single (ordered_by c s r.lo) else full (end_bits s)

-- what an arithmetic instruction leaves, or why it leaves nothing
abbrev pub value_table : Insn → Abs → Abs → Result Abs PointerFault
value_table (Alu w op d s) a b = alu_table w op a b
value_table (Mov w d s) a b = move_table w b
value_table (MovSx e d s) a b = on_range (extension_range e) b
value_table (Neg w d) a b = on_range (negated_range w) a
value_table (End c s d) a b = on_range (ordered_range c s) a
value_table i a b = Err NoResult

abbrev pub with_number : Result Abs PointerFault → Result Abs ℕ
with_number (Ok a) = Ok a
with_number (Err fault) = Err (code_of_pointer_fault fault)

-- the same, with the refusal's number
abbrev pub coded_value_table : Insn → Abs → Abs → Result Abs ℕ
coded_value_table i a b = with_number (value_table i a b)

abbrev pub IsArithmetic : Insn → Type 0
IsArithmetic (Alu w op d s) = Unit {0}
IsArithmetic (Mov w d s) = Unit {0}
IsArithmetic (MovSx e d s) = Unit {0}
IsArithmetic (Neg w d) = Unit {0}
IsArithmetic (End c s d) = Unit {0}
IsArithmetic i = ⊥

abbrev pub is_set : Abs → Bool
is_set Unset = false
is_set a = true

abbrev pub IsSet : Abs → Type 0
IsSet Unset = ⊥
IsSet _ = Unit {0}

-- what the instruction reads is set
abbrev pub IsReadSet : Insn → Abs → Abs → Type 0
IsReadSet (Alu w op d s) a b = IsSet a × IsSet b
IsReadSet (Mov w d s) a b = IsSet b
IsReadSet (MovSx e d s) a b = IsSet b
IsReadSet (Neg w d) a b = IsSet a
IsReadSet (End c s d) a b = IsSet a
IsReadSet i a b = Unit {0}
