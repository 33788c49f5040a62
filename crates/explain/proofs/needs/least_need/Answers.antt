use Rattle.std.proofs.Common.{rules, ◌≤◌, ◌+◌, arith}
use Rattle.explain.specs.Needs.{LeavesPart}
use Rattle.explain.proofs.NeedLemmas.{from_here, leaves_less}
use Rattle.explain.proofs.needs.least_need.Goals as goal

pub returns-then-leaves_part : goal.returns-then-leaves_part
returns-then-leaves_part c =
    let leaves : LeavesPart c.args.helpers.now c.args.insn.now c.args.state.now c.args.need = search rules in
    let greatest : LeavesPart c.args.helpers.now c.args.insn.now c.args.state.now 65536 = search rules in
    (leaves, λ need most. leaves_less need 65536 most c.args.helpers.now c.args.insn.now c.args.state.now greatest)

pub returns : goal.returns
returns c =
    let leaves : LeavesPart c.args.helpers.now c.args.insn.now c.args.state.now c.args.need = search rules in
    let near : c.loop-low.high ≤ c.loop-low.low + 1 = omega (arith, c.loop-low-test.false) in (
      leaves,
      (
        c.loop-low.invariant.most,
        from_here c.args.helpers.now c.args.insn.now c.args.state.now c.loop-low.low c.loop-low.high near c.loop-low.invariant.leaves c.loop-low.invariant.stays,
      ),
    )
