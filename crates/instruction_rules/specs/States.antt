-- What is known of the registers ahead of an instruction: at the entry, and along each edge; and
-- what the instruction has to find known.
use Rattle.std.specs.Prelude.{ℕ, nat_lt, zero, suc, ◌==◌, List, [], ◌∷◌, drop, slice_set, Bool, true, false, Option, Some, None, Result, Ok, Err, ℤ, pos, ◌+ℤ◌, int_lt, ◌||◌, if◌then◌else◌}
use Rattle.machine_model.specs.Limits.{max_credit, max_part}
use Rattle.insn_codec.specs.declared.insn.Operand.{Operand}
use Rattle.insn_codec.specs.declared.insn.Operand.TheVariants.{Imm, Reg}
use Rattle.insn_codec.specs.declared.insn.Insn.{Insn}
use Rattle.insn_codec.specs.declared.insn.Insn.TheVariants.{Alu, Mov, MovSx, Neg, End, LoadWide, Load, Store, StoreRegister, Jump, Jump32, JumpIf, Call, Exit}
use Rattle.machine_model.specs.Operators.{residue}
use Rattle.machine_model.specs.Memory.{store_bytes, load_bytes}
use Rattle.machine_model.specs.Edges.{Fact, Taken}
use Rattle.helpers.specs.Table.{Table, arity_in}
use Rattle.value_ranges.specs.Span.{Span}
use Rattle.value_ranges.specs.Words.{entry, between, single_value, any_number, load_range, greatest}
use Rattle.value_ranges.specs.Joins.{joined}
use Rattle.value_ranges.specs.Refinements.{refined_by}
use Rattle.value_ranges.specs.Tables.{value_table}
use Rattle.value_ranges.specs.declared.fault.PointerFault.{PointerFault}
use Rattle.value_ranges.specs.declared.abs.Abs.{Abs}
use Rattle.value_ranges.specs.declared.abs.Abs.TheVariants.{Unset, Num, Stack, Part}
use Rattle.instruction_rules.specs.declared.state.AbsState.{AbsState}
use Rattle.instruction_rules.specs.declared.rule.Rule.{Rule}
use Rattle.instruction_rules.specs.declared.rule.Rule.TheVariants.{UnsetRead, OutOfStack, OutOfPart, BadKind, FramePointer, NoHelper}
use Rattle.instruction_rules.specs.Rules.{pointer_rule}
use Rattle.instruction_rules.specs.Covers.{abs_at}

abbrev pub with_abs : AbsState → ℕ → Abs → AbsState
with_abs state to a = record { registers = slice_set state.registers to a }

-- what the registers hold at a task's start
abbrev pub entry_state : ℕ → AbsState
entry_state need = record {
  registers = entry need 0 ∷ entry need 1 ∷ entry need 2 ∷ entry need 3 ∷ entry need 4
      ∷ entry need 5
      ∷ entry need 6 ∷ entry need 7 ∷ entry need 8 ∷ entry need 9 ∷ entry need 10 ∷ [];
}

-- the second operand: an imm is extended by its sign
abbrev pub operand_at : AbsState → Operand → Abs
operand_at state (Imm imm) = single_value (residue 64 imm)
operand_at state (Reg r) = abs_at state r

-- the list of what is known of each register
abbrev pub of_registers : (ℕ → Abs) → List Abs
of_registers f = f 0 ∷ f 1 ∷ f 2 ∷ f 3 ∷ f 4 ∷ f 5 ∷ f 6 ∷ f 7 ∷ f 8 ∷ f 9 ∷ f 10 ∷ []

-- what is known where two ways meet
abbrev pub joined_state : AbsState → AbsState → AbsState
joined_state s t = record { registers = of_registers (λ r. joined (abs_at s r) (abs_at t r)) }

-- ---- along the edges

abbrev pub or_unset : Result Abs PointerFault → Abs
or_unset (Ok a) = a
or_unset (Err fault) = Unset

-- after a call R0 has the answer, and the arguments are unset
abbrev pub called_state : AbsState → Abs → AbsState
called_state state answer = record {
  registers = answer ∷ Unset ∷ Unset ∷ Unset ∷ Unset ∷ Unset ∷ drop 6 state.registers;
}

-- what a helper answers
abbrev pub answer_range : ℕ → Abs
answer_range helper =
    if helper == 1 then between 0 6 else
    if helper == 2 then between 0 max_credit else
    if helper == 3 then between 0 max_part else
    if helper == 4 then between 0 0 else
    if helper == 5 then between 0 130560 else any_number

abbrev pub is_taken : Fact → Bool
is_taken Taken = true
is_taken fact = false

abbrev pub with_operand : AbsState → Operand → Abs → AbsState
with_operand state (Imm imm) a = state
with_operand state (Reg r) a = with_abs state r a

-- what the fact on an edge tells of a jump's operands
abbrev pub refined_state : AbsState → ℕ → Operand → Abs × Abs → AbsState
refined_state state dst src refined = with_operand (with_abs state dst refined.0) src refined.1

-- what is known on the edge with this fact
abbrev pub transferred : Insn → Fact → AbsState → AbsState
transferred (Alu w op dst src) fact state =
    with_abs state dst
    (or_unset (value_table (Alu w op dst src) (abs_at state dst) (operand_at state src)))
transferred (Mov w dst src) fact state =
    with_abs state dst
    (or_unset (value_table (Mov w dst src) (abs_at state dst) (operand_at state src)))
transferred (MovSx e dst src) fact state =
    with_abs state dst
    (or_unset (value_table (MovSx e dst src) (abs_at state dst) (abs_at state src)))
transferred (Neg w dst) fact state =
    with_abs state dst (or_unset (value_table (Neg w dst) (abs_at state dst) (abs_at state dst)))
transferred (End order size dst) fact state =
    with_abs state dst
    (or_unset (value_table (End order size dst) (abs_at state dst) (abs_at state dst)))
transferred (LoadWide dst value) fact state = with_abs state dst (single_value value)
transferred (Load kind dst base offset) fact state = with_abs state dst (load_range kind)
transferred (JumpIf w c dst src offset) fact state =
    refined_state state dst src (refined_by (JumpIf w c dst src offset) (is_taken fact)
    (abs_at state dst) (operand_at state src))
transferred (Call helper) fact state = called_state state (answer_range helper)
transferred i fact state = state

-- ---- what an instruction has to find known

-- the first of two broken rules, if there is one
abbrev pub first_rule : Option Rule → Option Rule → Option Rule
first_rule (Some rule) other = Some rule
first_rule None other = other

-- the fault of a register that is read unset
abbrev pub unset_fault : Abs → Option Rule
unset_fault Unset = Some UnsetRead
unset_fault a = None

-- the fault of a register that has no number
abbrev pub number_fault : Abs → Option Rule
number_fault Unset = Some UnsetRead
number_fault (Num r) = None
number_fault a = Some BadKind

-- the fault of so many bytes at a position, moved by an offset, of which some may lie outside a
-- region of that size
abbrev pub region_fault : Rule → ℕ → Span → ℤ → ℕ → Option Rule
region_fault rule size reach offset count =
    if int_lt (reach.lo +ℤ offset) (pos 0) || int_lt (pos size) (reach.hi +ℤ offset +ℤ pos count)
    then Some rule else None

-- the fault of an access of so many bytes, which may leave the stack or a part of that need, or
-- whose address is none
abbrev pub access_fault : ℕ → Abs → ℤ → ℕ → Option Rule
access_fault need Unset offset count = Some UnsetRead
access_fault need (Num r) offset count = Some BadKind
access_fault need (Stack reach) offset count = region_fault OutOfStack 512 reach offset count
access_fault need (Part reach) offset count = region_fault OutOfPart need reach offset count

abbrev pub table_fault : Result Abs PointerFault → Option Rule
table_fault (Ok a) = None
table_fault (Err fault) = Some (pointer_rule fault)

-- the fault of a write of R10
abbrev pub write_fault : ℕ → Option Rule
write_fault dst = if dst == 10 then Some FramePointer else None

-- the fault of an argument that is unset, of the registers from R1 on
abbrev pub unset_arguments : AbsState → ℕ → Option Rule
unset_arguments state zero = None
unset_arguments state (suc count) =
    first_rule (unset_arguments state count) (unset_fault (abs_at state (suc count)))

-- the fault of an argument that has no number, of the registers from R1 on
abbrev pub number_arguments : AbsState → ℕ → Option Rule
number_arguments state zero = None
number_arguments state (suc count) =
    first_rule (number_arguments state count) (number_fault (abs_at state (suc count)))

-- the fault of the bytes at a pointer, of which some may lie outside where they are as many as a
-- length tells
abbrev pub span_fault : ℕ → Abs → Abs → Option Rule
span_fault need pointer (Num len) = access_fault need pointer (pos 0) (greatest len)
span_fault need pointer Unset = Some UnsetRead
span_fault need pointer (Stack reach) = Some BadKind
span_fault need pointer (Part reach) = Some BadKind

-- the fault of a length that may be over 512, or is none
abbrev pub length_fault : Abs → Option Rule
length_fault (Num len) = if nat_lt 512 (greatest len) then Some BadKind else None
length_fault Unset = Some UnsetRead
length_fault (Stack reach) = Some BadKind
length_fault (Part reach) = Some BadKind

-- the fault of an argument that isn't of its helper's kind: `fill` and `sum` take a pointer and a
-- length, and `fill` a number besides; the others take numbers
abbrev pub kind_fault : ℕ → AbsState → ℕ → ℕ → Option Rule
kind_fault need state helper arity =
    if helper == 4 then first_rule (span_fault need (abs_at state 1) (abs_at state 2))
    (first_rule (length_fault (abs_at state 2)) (number_fault (abs_at state 3))) else
    if helper == 5 then first_rule (span_fault need (abs_at state 1) (abs_at state 2))
    (length_fault (abs_at state 2)) else
    number_arguments state arity

-- the fault of a call: its helper isn't in the table, or an argument is unset or of another kind
abbrev pub call_fault : ℕ → AbsState → ℕ → Option ℕ → Option Rule
call_fault need state helper None = Some NoHelper
call_fault need state helper (Some arity) =
    first_rule (unset_arguments state arity) (kind_fault need state helper arity)

-- the rule of the lowest number that the instruction breaks where the registers are so
abbrev pub fault : ℕ → Table → Insn → AbsState → Option Rule
fault need helpers (Alu w op dst src) state =
    first_rule (unset_fault (abs_at state dst)) (first_rule (unset_fault (operand_at state src))
    (first_rule (table_fault (value_table (Alu w op dst src) (abs_at state dst) (operand_at state src)))
    (write_fault dst)))
fault need helpers (Mov w dst src) state =
    first_rule (unset_fault (operand_at state src))
    (first_rule (table_fault (value_table (Mov w dst src) (abs_at state dst) (operand_at state src)))
    (write_fault dst))
fault need helpers (MovSx e dst src) state =
    first_rule (unset_fault (abs_at state src))
    (first_rule (table_fault (value_table (MovSx e dst src) (abs_at state dst) (abs_at state src)))
    (write_fault dst))
fault need helpers (Neg w dst) state =
    first_rule (unset_fault (abs_at state dst))
    (first_rule (table_fault (value_table (Neg w dst) (abs_at state dst) (abs_at state dst)))
    (write_fault dst))
fault need helpers (End order size dst) state =
    first_rule (unset_fault (abs_at state dst))
    (first_rule (table_fault (value_table (End order size dst) (abs_at state dst) (abs_at state dst)))
    (write_fault dst))
fault need helpers (LoadWide dst value) state = write_fault dst
fault need helpers (Load kind dst base offset) state =
    first_rule (access_fault need (abs_at state base) offset (load_bytes kind)) (write_fault dst)
fault need helpers (Store size base offset imm) state =
    access_fault need (abs_at state base) offset (store_bytes size)
fault need helpers (StoreRegister size base offset src) state =
    first_rule (unset_fault (abs_at state base)) (first_rule (unset_fault (abs_at state src))
    (first_rule (access_fault need (abs_at state base) offset (store_bytes size))
    (number_fault (abs_at state src))))
fault need helpers (Jump offset) state = None
fault need helpers (Jump32 offset) state = None
fault need helpers (JumpIf w c dst src offset) state =
    first_rule (unset_fault (abs_at state dst)) (first_rule (unset_fault (operand_at state src))
    (first_rule (number_fault (abs_at state dst)) (number_fault (operand_at state src))))
fault need helpers (Call helper) state = call_fault need state helper (arity_in helpers helper)
fault need helpers Exit state = number_fault (abs_at state 0)
