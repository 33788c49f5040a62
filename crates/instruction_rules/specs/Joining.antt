-- Used by private contracts and proofs alone: two states joined register by register.
use Rattle.std.specs.Prelude.{ℕ, Option, Some, None}
use Rattle.value_ranges.specs.Joins.{joined}
use Rattle.instruction_rules.specs.declared.state.AbsState.{AbsState}
use Rattle.instruction_rules.specs.Covers.{abs_at}
use Rattle.instruction_rules.specs.States.{with_abs, joined_state}

-- the first with this register joined
abbrev pub joined_to : AbsState → AbsState → ℕ → AbsState
joined_to s t r = with_abs s r (joined (abs_at s r) (abs_at t r))

-- a state comes to a place that may have one
abbrev pub joined_into : Option AbsState → AbsState → Option AbsState
joined_into None state = Some state
joined_into (Some before) state = Some (joined_state before state)
