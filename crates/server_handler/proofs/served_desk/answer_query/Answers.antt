use Rattle.std.proofs.Common.{ap, subst, sym, ◌∙◌}
use Rattle.streams.specs.Prepared.{asked_of}
use Rattle.server_state.specs.Desks.{DeskReplies, jobs_frame, refusal_frame}
use Rattle.server_state.specs.States.{steps_of}
use Rattle.server_handler.specs.DeskAnswers.{IsReply, query_asked}
use Rattle.server_handler.specs.declared.desk_query.DeskQuery.{DeskQuery}
use Rattle.server_handler.specs.declared.desk_query.DeskQuery.TheVariants.{Keyed}
use Rattle.server_handler.proofs.Replied.{is_reply, listing_replies, no_key_replies, records_no_change}
use Rattle.server_handler.proofs.served_desk.answer_query.Goals as goal

pub returns-in-None-clause-replies : goal.returns-in-None-clause-replies
returns-in-None-clause-replies g c =
    let m = steps_of g.N.JobRunner in
    let d = c.args.desk.now in
    let r = c.args.runner.now in
    subst (λ (q : DeskQuery). IsReply c.refuse.result.1 (λ frame. DeskReplies m r.desk c.args.keep d r.jobs (query_asked q) frame d r.jobs))
    (sym (c.in-Keyed.is ∙ ap (λ k. Keyed k c.in-Keyed.submit) c.in-None.is))
    (is_reply c.refuse.result.1 _ (refusal_frame 73) c.refuse.ensures (no_key_replies m c.args.keep r.desk d r.jobs (asked_of c.in-Keyed.submit)))

pub returns-in-None-clause-records : goal.returns-in-None-clause-records
returns-in-None-clause-records g c = records_no_change g.C.ChangeSink c.args.runner.now.desk c.args.changes.now c.args.desk.now

pub returns-in-Jobs-clause-replies : goal.returns-in-Jobs-clause-replies
returns-in-Jobs-clause-replies g c =
    let m = steps_of g.N.JobRunner in
    let d = c.args.desk.now in
    let r = c.args.runner.now in
    subst (λ (q : DeskQuery). IsReply c.list_jobs.result (λ frame. DeskReplies m r.desk c.args.keep d r.jobs (query_asked q) frame d r.jobs)) (sym c.in-Jobs.is)
    (is_reply c.list_jobs.result _ (jobs_frame d c.in-Jobs.from) c.list_jobs.ensures (listing_replies m c.args.keep r.desk d r.jobs c.in-Jobs.from))

pub returns-in-Jobs-clause-records : goal.returns-in-Jobs-clause-records
returns-in-Jobs-clause-records g c = records_no_change g.C.ChangeSink c.args.runner.now.desk c.args.changes.now c.args.desk.now
