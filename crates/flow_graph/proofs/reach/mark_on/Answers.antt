use Rattle.flow_graph.proofs.Marks.{marked_on}
use Rattle.flow_graph.proofs.reach.mark_on.Goals as goal

pub returns-in_ok-push : goal.returns-in_ok-push
returns-in_ok-push c = rw c.in_ok-push.ensures.items
    (marked_on c.args.marks.now.items c.args.pending.now.items c.args.slot _ c.requires c.index.ensures c.if-not-index.true)
