use Rattle.std.proofs.Common.{◌≡◌, ◌∙◌, Some, ap, sym}
use Rattle.sessions.specs.JobKeys.{job_among}
use Rattle.streams.specs.Prepared.{asked_of}
use Rattle.server_state.specs.Desks.{DeskReplies, submit_frame}
use Rattle.server_state.specs.Queries.{keyed}
use Rattle.server_state.specs.States.{DeskState, steps_of}
use Rattle.server_handler.proofs.Replied.{is_reply, known_replies, records_no_change}
use Rattle.server_handler.proofs.served_desk.answer_keyed.Goals as goal

pub returns-in-Some-clause-replies : goal.returns-in-Some-clause-replies
returns-in-Some-clause-replies g c =
    let m = steps_of g.N.JobRunner in
    let d = c.args.desk.now in
    let r = c.args.runner.now in
    let known : job_among d.keys c.args.key ≡ Some c.in-Some.job = ap (λ (x : DeskState). job_among x.keys c.args.key) (sym c.desk.view_is) ∙ sym c.job_of.ensures ∙ c.in-Some.is in
    is_reply c.of_reply.result (λ frame. DeskReplies m r.desk c.args.keep d r.jobs (keyed (Some c.args.key) (asked_of c.args.submit)) frame d r.jobs) (submit_frame c.in-Some.job) c.of_reply.ensures
    (known_replies m c.args.keep r.desk d r.jobs c.args.key (asked_of c.args.submit) c.in-Some.job known)

pub returns-in-Some-clause-records : goal.returns-in-Some-clause-records
returns-in-Some-clause-records g c = records_no_change g.C.ChangeSink c.args.runner.now.desk c.args.changes.now c.args.desk.now
