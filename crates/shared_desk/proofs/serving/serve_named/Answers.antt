use Rattle.std.proofs.Common.{[], arith}
use Rattle.shared_desk.proofs.Opening.{opened_at, opened_length, parts_of_ends}
use Rattle.shared_desk.proofs.serving.serve_named.Goals as goal

pub serve_all-shared-requires-clause-fresh : goal.serve_all-shared-requires-clause-fresh
serve_all-shared-requires-clause-fresh g c κs within i d lt =
    let opened = c.in-Ok.ensures.opened in
    let o = c.in-Ok.connections.ok in
    let same = opened_length 0 c.args.ends.items c.in-Ok.connections.items opened in
    let there = opened_at 0 c.args.ends.items c.in-Ok.connections.items i d d.0 opened (omega (arith, o, lt)) in
    ((let is = there.1 in omega arith), there.2)

pub returns-in-Ok-answered-clause-served : goal.returns-in-Ok-answered-clause-served
returns-in-Ok-answered-clause-served g c =
    let opened = c.in-Ok.ensures.opened in
    let o = c.in-Ok.connections.ok in
    let p = c.in-Ok-answered.served.ok in
    let same = opened_length 0 c.args.ends.items c.in-Ok.connections.items opened in
    let count = rw c.in-Ok-answered.is at c.serve_all-shared.ensures.count in
    let each = rw c.in-Ok-answered.is at c.serve_all-shared.ensures.parts in
    record {
      history = c.serve_all-shared.result.0.1;
      legal = c.into_parts-desk-2.ensures.legal;
      others = λ n le. c.serve_all-shared.ensures.others n (omega (arith, o, le));
      parts = parts_of_ends g.S.Source.transcript g.S.Source.is_over g.S.Source.has_failed g.W.Sink.transcript g.W.Sink.has_failed
          _ c.args.ends.items c.in-Ok.connections.items c.in-Ok-answered.served.items c.ends_of_all.result
          (λ s. s.reader) (λ s. s.writer) (λ s. s.outcome)
          (λ e. record { reader = e.reader; writer = e.writer; seat = record { number = 0; seen = []; part = [] }; outcome = e.outcome })
          opened (omega (arith, o, p))
          (λ i d s lt. each i d s (omega (arith, o, lt)))
          c.ends_of_all.ensures;
    }

pub returns-clause-served : goal.returns-clause-served
returns-clause-served g c =
    let opened = c.in-Ok.ensures.opened in
    let o = c.in-Ok.connections.ok in
    let same = opened_length 0 c.args.ends.items c.in-Ok.connections.items opened in
    record {
      history = c.serve_all-shared.result.0.1;
      legal = c.into_parts-desk-2.ensures.legal;
      others = λ n le. c.serve_all-shared.ensures.others n (omega (arith, o, le));
      parts = tt;
    }
