use Rattle.std.proofs.Common.{arith, slice_index_or}
use Rattle.shared_desk.specs.Grants.{by_port}
use Rattle.shared_desk.specs.Parts.{IsServedClient}
use Rattle.shared_desk.proofs.WholeStream.{served_whole_part}
use Rattle.shared_desk.proofs.connections.serve_all.Goals as goal

pub returns-clause-parts : goal.returns-clause-parts
returns-clause-parts g c i d e lt =
    let o = c.args.connections.ok in
    let p = c.in-Ok.served.ok in
    let n = c.in-Ok.ensures.len in
    let k = (c.in-Ok.ensures.each i e (omega (arith, o, lt))).1 in
    let fresh = c.requires.fresh i d lt in
    let own = c.compare_all.ensures.parts i e (omega (arith, p, n, lt)) in
    let now = slice_index_or c.in-Ok.served.items i e in
    let served : IsServedClient by_port g.S.Source.transcript g.S.Source.is_over g.S.Source.has_failed g.W.Sink.transcript g.W.Sink.has_failed (slice_index_or c.args.connections.items i d) ((now.reader, now.writer), now.seat) now.outcome = rw (k.job_is d) k.call.met in
    rw (c.compare_all.ensures.desk, c.compare_all.ensures.served)
    (served_whole_part by_port g.S.Source.transcript g.S.Source.is_over g.S.Source.has_failed g.W.Sink.transcript g.W.Sink.has_failed (slice_index_or c.args.connections.items i d) ((now.reader, now.writer), now.seat) now.outcome i _ served fresh.0 fresh.1 own)

pub returns-clause-others : goal.returns-clause-others
returns-clause-others g c n le =
    let o = c.requires.opened in
    rw (c.compare_all.ensures.desk, c.count.ensures.same.0) (c.count.ensures.others n (omega (arith, o, le)))

pub returns-clause-legal : goal.returns-clause-legal
returns-clause-legal g c = rw c.compare_all.ensures.desk c.is_legal.ensures.legal
