use Rattle.std.proofs.Common.{arith}
use Rattle.accounts.specs.Numbered.{jobs_numbered}
use Rattle.accounts.proofs.Forgets.{forgets_all, forgotten_one, past_first, past_open}
use Rattle.accounts.proofs.Listed.{bytes_there}
use Rattle.accounts.proofs.kept_jobs.KeptJobs.forget.Goals as goal

pub returns-then-number-ahead-clause-forgets : goal.returns-then-number-ahead-clause-forgets
returns-then-number-ahead-clause-forgets c =
    let i = c.loop-number.invariant in
    let more = c.if-number-ahead.true in
    forgets_all (jobs_numbered c.args.self.now) i.0 c.loop-number.self i.2 c.args.ahead i.1
    (past_first c.loop-number.self c.in-Some.number c.args.ahead c.in-Some.ensures.some (omega (arith, more)))

pub forget_one-requires : goal.forget_one-requires
forget_one-requires c =
    let o = c.in-Some.ensures.some in
    record { there = (o.entry, o.there, bytes_there c.loop-number.self c.loop-number.invariant.2.sound c.in-Some.number o.entry o.there) }

pub loop-number-preserved : goal.loop-number-preserved
loop-number-preserved c =
    let i = c.loop-number.invariant in
    let most = c.if-number-ahead.false in
    let e = c.forget_one.ensures in (
      c.in-Some.number,
      omega (arith, most),
      forgotten_one (jobs_numbered c.args.self.now) i.0 c.loop-number.self i.2 c.in-Some.number c.forget_one.new.self c.in-Some.ensures.some
          (record { count = e.count; gone = e.gone; here = e.here; others = e.others; held = e.held }),
    )

pub returns-clause-forgets : goal.returns-clause-forgets
returns-clause-forgets c =
    let i = c.loop-number.invariant in
    forgets_all (jobs_numbered c.args.self.now) i.0 c.loop-number.self i.2 c.args.ahead i.1
    (past_open c.loop-number.self c.args.ahead c.in_default.ensures.none)
