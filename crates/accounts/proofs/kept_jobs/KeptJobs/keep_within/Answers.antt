use Rattle.std.proofs.Common.{refl, inr}
use Rattle.accounts.specs.Numbered.{jobs_numbered}
use Rattle.accounts.proofs.Forgets.{DropsOne, forgotten_one, next_needed, within_first, within_open}
use Rattle.accounts.proofs.Listed.{bytes_there}
use Rattle.accounts.proofs.kept_jobs.KeptJobs.keep_within.Goals as goal

pub returns-then-not-exceeds-clause-within : goal.returns-then-not-exceeds-clause-within
returns-then-not-exceeds-clause-within c =
    within_first c.args.limits (jobs_numbered c.args.self.now) c.loop-number.ahead c.loop-number.self c.loop-number.invariant
    c.in-Some.number c.in-Some.ensures.some (c.if-not-exceeds.ensures.no refl)

pub forget_one-requires : goal.forget_one-requires
forget_one-requires c =
    let o = c.in-Some.ensures.some in
    record { there = (o.entry, o.there, bytes_there c.loop-number.self c.loop-number.invariant.forgotten.sound c.in-Some.number o.entry o.there) }

pub loop-number-preserved : goal.loop-number-preserved
loop-number-preserved c =
    let i = c.loop-number.invariant.forgotten in
    let e = c.forget_one.ensures in
    let d : DropsOne c.loop-number.self c.in-Some.number c.forget_one.new.self =
    record { count = e.count; gone = e.gone; here = e.here; others = e.others; held = e.held } in
    record {
      forgotten = forgotten_one (jobs_numbered c.args.self.now) c.loop-number.ahead c.loop-number.self i c.in-Some.number c.forget_one.new.self c.in-Some.ensures.some d;
      needed = inr (next_needed (jobs_numbered c.args.self.now) c.loop-number.ahead c.loop-number.self i c.in-Some.number c.forget_one.new.self c.in-Some.ensures.some d
          c.args.limits (c.if-not-exceeds.ensures.yes refl));
    }

pub returns-clause-within : goal.returns-clause-within
returns-clause-within c =
    within_open c.args.limits (jobs_numbered c.args.self.now) c.loop-number.ahead c.loop-number.self c.loop-number.invariant c.in_default.ensures.none
