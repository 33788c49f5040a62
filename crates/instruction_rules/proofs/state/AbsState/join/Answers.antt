use Rattle.std.proofs.Common.{◌≡◌, ap, ◌∙◌, arith, length, ℕ}
use Rattle.instruction_rules.proofs.StateLemmas.{joined_below, joined_all}
use Rattle.instruction_rules.proofs.state.AbsState.join.Goals as goal

pub returns : goal.returns
returns c =
    let last : c.loop-number.number ≡ 11 = omega arith in
    let long : length c.args.self.now.registers ≡ 11 = omega arith in
    c.loop-number.invariant ∙ (ap (λ (n : ℕ). joined_below c.args.self.now c.args.other.now n) last ∙ joined_all c.args.self.now c.args.other.now long)
