use Rattle.std.proofs.Common.{◌≡◌, ◌∙◌, None, refl, ap, inl, inr, arith}
use Rattle.std.specs.BTreeMap as tree
use Rattle.std.specs.Ordering.{nat_cmp}
use Rattle.job_pools.specs.Queues.{with_put}
use Rattle.job_pools.specs.Started.{started_at}
use Rattle.job_pools.proofs.Pooled.{adds_job, adds_none, free_board, line_entered, watched_entered}
use Rattle.job_pools.proofs.lasting_pool.LastingPoolRunner.start.Goals.{in-Ok-put_now, in-Err}
use Rattle.job_pools.proofs.lasting_pool.LastingPoolRunner.start.Goals as goal

pub returns-clause-starts : goal.returns-clause-starts
returns-clause-starts g c =
    let was = c.args.self.now in
    let free : started_at c.args.number was.keeper ≡ None = was.none_from c.args.number c.in_ok-take_number.ensures.free in
    let vacant : tree.get nat_cmp was.boards c.args.number ≡ None = free_board was.keeper (tree.get nat_cmp was.boards) c.args.number was.watched free in
    let seat = c.enter-seat.ensures in
    let noted = c.in-Ok-note.ensures in
    elim c.match-put_now.branch [
      | in-Ok-put_now w ↦
          rw (w.result-is, w.self-is) (
            adds_job was.keeper c.enter-seat.new.keeper was.boards c.note.new.values c.enter-seat.result c.args.number c.args.job c.new.result
                seat.seat.0 seat.seat.1 seat.keeper vacant noted.here noted.others noted.count
                (ap (λ s. s.seen) c.new.ensures ∙ c.in-Ok.ensures.reader.1) (ap (λ s. s.looks) c.new.ensures ∙ c.in-Ok.ensures.reader.2),
            w.in-Ok-put_now.ensures ∙ ap (with_put was.queue) (λ i. record { number = seat.seat.0 i; job = seat.seat.1 i }),
          )
      | in-Err w ↦
          rw (w.result-is, w.self-is) (
            (
              inl refl,
              adds_none was.keeper c.enter-seat.new.keeper was.boards w.forget.new.values c.enter-seat.result c.args.number
                  seat.seat.0 seat.keeper vacant w.forget.ensures.gone (λ m differs. w.forget.ensures.others m differs ∙ noted.others m differs)
                  (let less = w.forget.ensures.count in let more = noted.count in omega arith),
            ),
            w.in-Err.ensures.1,
          )
    ]

pub invariant_of-self-in-Err-clause-none_from : goal.invariant_of-self-in-Err-clause-none_from
invariant_of-self-in-Err-clause-none_from g c =
    let was = c.args.self.now in
    let taken = c.in_ok-take_number.ensures in
    let seat = c.enter-seat.ensures in
    line_entered (tree.get nat_cmp was.nexts) (tree.get nat_cmp c.take_number.new.nexts) c.args.number c.enter-seat.result was.keeper c.enter-seat.new.keeper was.none_from taken.free taken.here taken.others seat.seat.0 seat.keeper

pub invariant_of-self-in-Err-clause-watched : goal.invariant_of-self-in-Err-clause-watched
invariant_of-self-in-Err-clause-watched g c =
    let was = c.args.self.now in
    let seat = c.enter-seat.ensures in
    watched_entered was.keeper c.enter-seat.new.keeper (tree.get nat_cmp was.boards) (tree.get nat_cmp c.forget.new.values) c.enter-seat.result c.args.number seat.seat.0 seat.keeper was.watched c.forget.ensures.gone
    (λ m differs. c.forget.ensures.others m differs ∙ c.in-Ok-note.ensures.others m differs)
