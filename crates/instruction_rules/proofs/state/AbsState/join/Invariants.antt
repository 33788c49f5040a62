use Rattle.std.specs.Prelude.{◌≡◌}
use Rattle.instruction_rules.proofs.StateLemmas.{joined_below}
use Rattle.instruction_rules.proofs.state.AbsState.join.Given as goal

abbrev pub invariant-loop-number : goal.invariant-loop-number
invariant-loop-number l = l.self ≡ joined_below l.fn.self l.other l.number
