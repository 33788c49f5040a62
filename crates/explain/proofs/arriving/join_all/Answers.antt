use Rattle.std.proofs.Common.{◌≤◌, refl, arith, rules}
use Rattle.explain.specs.Arriving.{arriving, arriving_at, subject_of_program}
use Rattle.explain.proofs.SourceLemmas.{joined_first, joined_next, joined_whole, come_to, fewer_left}
use Rattle.explain.proofs.arriving.join_all.Goals as goal

pub loop-source-init : goal.loop-source-init
loop-source-init c =
    joined_first (subject_of_program c.args.analyzed.now) (arriving_at c.args.table.now) c.args.slot _ c.first-source.result refl
    (rw c.first-source.ensures (c.requires.linked.first c.args.slot c.requires.slot))

pub loop-source-smaller : goal.loop-source-smaller
loop-source-smaller c =
    let come = come_to (subject_of_program c.args.analyzed.now) (arriving_at c.args.table.now) c.args.slot (arriving c.loop-source.joined) c.loop-source.source c.in-Some.from
    c.in-Some.is c.loop-source.invariant in
    let from : 0 ≤ c.in-Some.from = omega arith in
    fewer_left c.args.analyzed.now.graph.now.code c.args.slot c.in-Some.from c.loop-source.source c.after-source.result c.in-Some.is come.0
    (rw c.after-source.ensures (c.requires.linked.after c.in-Some.from c.args.slot c.successors.result from c.successors.ensures come.0))

pub loop-source-preserved : goal.loop-source-preserved
loop-source-preserved c =
    let come = come_to (subject_of_program c.args.analyzed.now) (arriving_at c.args.table.now) c.args.slot (arriving c.loop-source.joined) c.loop-source.source c.in-Some.from
    c.in-Some.is c.loop-source.invariant in
    let from : 0 ≤ c.in-Some.from = omega arith in
    joined_next (subject_of_program c.args.analyzed.now) (arriving_at c.args.table.now) c.args.slot c.in-Some.from (arriving c.loop-source.joined)
    (arriving c.join_from-joined.result) c.after-source.result come c.join_from-joined.ensures
    (rw c.after-source.ensures (c.requires.linked.after c.in-Some.from c.args.slot c.successors.result from c.successors.ensures come.0))

pub returns : goal.returns
returns c =
    joined_whole (subject_of_program c.args.analyzed.now) (arriving_at c.args.table.now) c.args.slot (arriving c.loop-source.joined) c.loop-source.source (search rules) c.loop-source.invariant
