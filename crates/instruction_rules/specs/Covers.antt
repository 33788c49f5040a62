-- Which registers an abstract state covers.
use Rattle.std.specs.Prelude.{ℕ, slice_index_or}
use Rattle.machine_model.specs.Value.{Value, Registers}
use Rattle.value_ranges.specs.Covers.{Covers}
use Rattle.value_ranges.specs.declared.abs.Abs.{Abs}
use Rattle.value_ranges.specs.declared.abs.Abs.TheVariants as abs
use Rattle.instruction_rules.specs.declared.state.AbsState.{AbsState}

-- what is known of a register
abbrev pub abs_at : AbsState → ℕ → Abs
abs_at state r = slice_index_or state.registers r abs.Unset

abbrev pub CoversAll : AbsState → Registers → Type 0
CoversAll state registers = (r : ℕ) → Covers (abs_at state r) (registers r)

-- what the one state covers, the other covers too
abbrev pub IsSubsumed : AbsState → AbsState → Type 0
IsSubsumed inner outer = (r : ℕ) (v : Value) → Covers (abs_at inner r) v → Covers (abs_at outer r) v
