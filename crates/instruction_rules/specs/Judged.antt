-- Used by private contracts and proofs alone: what an instruction that is allowed leaves in its
-- destination.
use Rattle.std.specs.Prelude.{Option, Some, None, Result, Ok, Err}
use Rattle.insn_codec.specs.declared.insn.Insn.{Insn}
use Rattle.insn_codec.specs.declared.insn.Insn.TheVariants.{Alu, Mov, MovSx, Neg, End, LoadWide, Load, Call}
use Rattle.value_ranges.specs.Tables.{value_table}
use Rattle.value_ranges.specs.Words.{single_value, load_range}
use Rattle.value_ranges.specs.declared.abs.Abs.{Abs}
use Rattle.value_ranges.specs.declared.abs.Abs.TheVariants.{Unset}
use Rattle.instruction_rules.specs.declared.state.AbsState.{AbsState}
use Rattle.instruction_rules.specs.declared.rule.Rule.{Rule}
use Rattle.instruction_rules.specs.Covers.{abs_at}
use Rattle.instruction_rules.specs.States.{operand_at, or_unset, answer_range}

-- nothing is known where it has none
abbrev pub destination_left : Insn → AbsState → Abs
destination_left (Alu w op dst src) state =
    or_unset (value_table (Alu w op dst src) (abs_at state dst) (operand_at state src))
destination_left (Mov w dst src) state =
    or_unset (value_table (Mov w dst src) (abs_at state dst) (operand_at state src))
destination_left (MovSx e dst src) state =
    or_unset (value_table (MovSx e dst src) (abs_at state dst) (abs_at state src))
destination_left (Neg w dst) state = or_unset (value_table (Neg w dst) (abs_at state dst) (abs_at state dst))
destination_left (End order size dst) state =
    or_unset (value_table (End order size dst) (abs_at state dst) (abs_at state dst))
destination_left (LoadWide dst value) state = single_value value
destination_left (Load kind dst base offset) state = load_range kind
destination_left (Call helper) state = answer_range helper
destination_left i state = Unset

-- the value, or the rule that is broken
abbrev pub judged : Option Rule → Abs → Result Abs Rule
judged None left = Ok left
judged (Some rule) left = Err rule
