use Rattle.std.proofs.Common.{◌<◌, length, arith}
use Rattle.flow_graph.proofs.CodeLemmas.{begins_below}
use Rattle.flow_graph.proofs.WalkLemmas.{walk_started, met_of, met_already}
use Rattle.flow_graph.proofs.walk.walk_from.Goals as goal

pub walk_on-requires-clause-walk : goal.walk_on-requires-clause-walk
walk_on-requires-clause-walk c =
    walk_started c.args.code.now c.args.walk.marks.items c.args.walk.path.items c.push.new.self.items c.args.walk.done.items c.args.slot
    c.index.result.now c.requires.walk c.requires.ended c.requires.begins c.index.ensures c.in-New.is c.in_ok-push.ensures.items

pub returns-in-New-clause-met : goal.returns-in-New-clause-met
returns-in-New-clause-met c =
    let lt : c.args.slot < length c.args.code.now = begins_below c.args.code.now c.args.slot c.requires.begins in
    met_of c.args.code.now c.args.walk.marks.items c.args.slot c.walk_on.result (omega (arith, c.requires.walk.slots)) c.walk_on.ensures

pub returns : goal.returns
returns c =
    let lt : c.args.slot < length c.args.code.now = begins_below c.args.code.now c.args.slot c.requires.begins in
    record {
      ended = (c.requires.walk, c.requires.ended, λ s met. met);
      met = met_already c.args.walk.marks.items c.args.slot c.index.result.now (omega (arith, c.requires.walk.slots)) c.index.ensures c.in_default.not-New;
    }
