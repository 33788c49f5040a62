use Rattle.std.proofs.Common.{rules, refl, inr, false}
use Rattle.std.specs.Prelude.{option_map}
use Rattle.std.specs.Duration.{as_nanos}
use Rattle.endpoints.specs.Limits.{TriesUntil, none_yet}
use Rattle.endpoints.proofs.LimitLemmas.{one_more}
use Rattle.endpoints.proofs.timed_writer.TimedWriterWrite.write.Goals as goal

pub trying-init : goal.trying-init
trying-init g c =
    let start : TriesUntil g.R.Timer.tells c.args.self.now.rt.now g.S.TimedWrite.writes c.due-due.result false c.args.self.now.stream c.args.self.now.stream = none_yet in
    search (rules, start)

pub returns-in-Ok-clause-timed : goal.returns-in-Ok-clause-timed
returns-in-Ok-clause-timed g c =
    let more = one_more g.R.Timer.tells c.args.self.now.rt.now g.S.TimedWrite.writes c.due-due.result false false c.args.self.now.stream c.trying.self.stream c.write_within.new.self
    (option_map as_nanos c.in_ok-left.left) (option_map as_nanos c.in_ok-left.left) c.trying.invariant.tried c.in_ok-left.ensures.left refl refl c.write_within.ensures.tried in
    record { due = c.due-due.result; is = c.due-due.ensures; tried = more; error = tt }

pub returns-then-was_let_go-clause-timed : goal.returns-then-was_let_go-clause-timed
returns-then-was_let_go-clause-timed g c =
    let more = one_more g.R.Timer.tells c.args.self.now.rt.now g.S.TimedWrite.writes c.due-due.result false false c.args.self.now.stream c.trying.self.stream c.write_within.new.self
    (option_map as_nanos c.in_ok-left.left) (option_map as_nanos c.in_ok-left.left) c.trying.invariant.tried c.in_ok-left.ensures.left refl refl c.write_within.ensures.tried in
    record { due = c.due-due.result; is = c.due-due.ensures; tried = more; error = tt }

pub returns-then-ne-clause-timed : goal.returns-then-ne-clause-timed
returns-then-ne-clause-timed g c =
    let more = one_more g.R.Timer.tells c.args.self.now.rt.now g.S.TimedWrite.writes c.due-due.result false false c.args.self.now.stream c.trying.self.stream c.write_within.new.self
    (option_map as_nanos c.in_ok-left.left) (option_map as_nanos c.in_ok-left.left) c.trying.invariant.tried c.in_ok-left.ensures.left refl refl c.write_within.ensures.tried in
    record { due = c.due-due.result; is = c.due-due.ensures; tried = more; error = inr c.in-Err.ensures.failed }

pub trying-preserved : goal.trying-preserved
trying-preserved g c =
    let more = one_more g.R.Timer.tells c.args.self.now.rt.now g.S.TimedWrite.writes c.due-due.result false false c.args.self.now.stream c.trying.self.stream c.write_within.new.self
    (option_map as_nanos c.in_ok-left.left) (option_map as_nanos c.in_ok-left.left) c.trying.invariant.tried c.in_ok-left.ensures.left refl refl c.write_within.ensures.tried in
    search (rules, more)
