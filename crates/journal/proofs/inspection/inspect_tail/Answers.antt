use Rattle.std.proofs.Common.{◌-◌, length, arith}
use Rattle.journal.proofs.TailLemmas.{is_filled, none_further, none_left, over_budget, some_left}
use Rattle.journal.proofs.inspection.inspect_tail.Goals as goal

pub returns-then-left-cost : goal.returns-then-left-cost
returns-then-left-cost c = (
  is_filled c.args.tail.now (some_left _ c.if-is_empty.ensures),
  over_budget c.args.tail.now c.loop-rest.rest.now c.args.budget c.loop-rest.left c.check_cost-cost.result c.loop-rest.invariant.cost (some_left _ c.loop-rest-test.ensures) c.check_cost-cost.ensures c.if-left-cost.true,
)

pub returns : goal.returns
returns c =
    let n = length c.args.tail.now - length c.loop-rest.rest.now in
    let over = none_left _ c.loop-rest-test.ensures in (
      is_filled c.args.tail.now (some_left _ c.if-is_empty.ensures),
      none_further c.args.tail.now n (omega arith) c.loop-rest.invariant.torn,
    )
