use Rattle.std.proofs.Common.{rules, ◌<◌, length, arith}
use Rattle.flow_graph.proofs.CodeLemmas.{begins_below}
use Rattle.flow_graph.proofs.NumberLemmas.{no_way_back, own_mark}
use Rattle.flow_graph.proofs.cycle.is_on_cycle.Goals as goal

pub returns-then-leads_up : goal.returns-then-leads_up
returns-then-leads_up c = (
  λ never. absurd cc,
  λ cycle. absurd (no_way_back c.args.code.now c.args.numbers.now c.args.slot c.requires.numbered (c.leads_up.ensures (search rules)) cycle),
)

pub index-requires : goal.index-requires
index-requires c =
    let lt : c.args.slot < length c.args.code.now = begins_below c.args.code.now c.args.slot c.requires.begins in
    omega (arith, c.in_ok-ahead.ensures.slots)

pub returns : goal.returns
returns c =
    own_mark c.args.code.now c.args.slot c.in_ok-ahead.ahead.items c.index.result.now c.in_ok-ahead.ensures
    (begins_below c.args.code.now c.args.slot c.requires.begins) c.index.ensures
