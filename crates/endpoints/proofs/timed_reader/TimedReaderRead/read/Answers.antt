use Rattle.std.proofs.Common.{rules, ◌∙◌, Err, inr}
use Rattle.std.specs.Prelude.{option_map}
use Rattle.std.specs.Duration.{as_nanos}
use Rattle.endpoints.specs.Limits.{IsDueFor, IsInTime, TriesUntil, none_yet}
use Rattle.endpoints.proofs.LimitLemmas.{one_more}
use Rattle.endpoints.proofs.timed_reader.TimedReaderRead.read.Goals as goal

pub trying-init : goal.trying-init
trying-init g c =
    let start : TriesUntil g.R.Timer.tells c.args.self.now.rt.now g.S.TimedRead.reads c.due-due.result c.args.self.now.watch.0 c.args.self.now.stream c.args.self.now.stream = none_yet in
    search (rules, start)

pub returns-in-Ok-clause-timed : goal.returns-in-Ok-clause-timed
returns-in-Ok-clause-timed g c =
    let flag = c.may_stop.ensures ∙ c.is_up.ensures.same ∙ c.trying.invariant.flag in
    let more = one_more g.R.Timer.tells c.args.self.now.rt.now g.S.TimedRead.reads c.due-due.result c.args.self.now.watch.0 c.may_stop.result c.args.self.now.stream c.trying.self.stream c.read_within.new.self
    (option_map as_nanos c.in_ok-left_until.field-0) (option_map as_nanos c.wait_of-wait.result) c.trying.invariant.tried c.in_ok-left_until.ensures.left c.wait_of-wait.ensures flag c.read_within.ensures.tried in
    record { due = c.due-due.result; is = c.due-due.ensures; tried = more; error = tt }

pub returns-then-was_let_go-clause-timed : goal.returns-then-was_let_go-clause-timed
returns-then-was_let_go-clause-timed g c =
    let flag = c.may_stop.ensures ∙ c.is_up.ensures.same ∙ c.trying.invariant.flag in
    let more = one_more g.R.Timer.tells c.args.self.now.rt.now g.S.TimedRead.reads c.due-due.result c.args.self.now.watch.0 c.may_stop.result c.args.self.now.stream c.trying.self.stream c.read_within.new.self
    (option_map as_nanos c.in_ok-left_until.field-0) (option_map as_nanos c.wait_of-wait.result) c.trying.invariant.tried c.in_ok-left_until.ensures.left c.wait_of-wait.ensures flag c.read_within.ensures.tried in
    record { due = c.due-due.result; is = c.due-due.ensures; tried = more; error = tt }

pub trying-preserved : goal.trying-preserved
trying-preserved g c =
    let flag = c.may_stop.ensures ∙ c.is_up.ensures.same ∙ c.trying.invariant.flag in
    let more = one_more g.R.Timer.tells c.args.self.now.rt.now g.S.TimedRead.reads c.due-due.result c.args.self.now.watch.0 c.may_stop.result c.args.self.now.stream c.trying.self.stream c.read_within.new.self
    (option_map as_nanos c.in_ok-left_until.field-0) (option_map as_nanos c.wait_of-wait.result) c.trying.invariant.tried c.in_ok-left_until.ensures.left c.wait_of-wait.ensures flag c.read_within.ensures.tried in
    search (rules, more)

pub returns-in_default : goal.returns-in_default
returns-in_default g c =
    let flag = c.may_stop.ensures ∙ c.is_up.ensures.same ∙ c.trying.invariant.flag in
    let more = one_more g.R.Timer.tells c.args.self.now.rt.now g.S.TimedRead.reads c.due-due.result c.args.self.now.watch.0 c.may_stop.result c.args.self.now.stream c.trying.self.stream c.read_within.new.self
    (option_map as_nanos c.in_ok-left_until.field-0) (option_map as_nanos c.wait_of-wait.result) c.trying.invariant.tried c.in_ok-left_until.ensures.left c.wait_of-wait.ensures flag c.read_within.ensures.tried in
    let timed : IsInTime g.R.Timer.tells g.R.Timer.fails c.args.self.now.rt.now g.S.TimedRead.reads g.S.TimedRead.failed
    (IsDueFor g.R.Timer.tells g.R.Timer.fails c.args.self.now.rt.now c.args.self.now.stream c.args.self.now.seconds c.args.self.now.frame c.args.self.now.due)
    c.args.self.now.watch.0 c.args.self.now.stream c.read_within.new.self (Err c.in-Err.error) =
    record { due = c.due-due.result; is = c.due-due.ensures; tried = more; error = inr c.in-Err.ensures.failed } in
    search (rules, timed)
