use Rattle.std.proofs.Common.{subst}
use Rattle.streams.specs.Prepared.{asked_of}
use Rattle.server_state.specs.Changing.{desk_with}
use Rattle.server_state.specs.Desks.{DeskReplies}
use Rattle.server_state.specs.Queries.{plain}
use Rattle.server_state.specs.States.{DeskState, steps_of}
use Rattle.server_handler.specs.DeskAnswers.{IsReply, RecordsAt}
use Rattle.server_handler.proofs.Replied.{is_reply_weaker, plain_replies, records_plainly}
use Rattle.server_handler.proofs.served_desk.answer_plain.Goals as goal

pub returns-clause-replies : goal.returns-clause-replies
returns-clause-replies g c =
    let a = c.answer_ledger in
    let m = steps_of g.N.JobRunner in
    let r = c.args.runner.now in
    let d : DeskState = desk_with c.desk.inside.ledger c.desk.inside.keys in
    subst (λ (x : DeskState). IsReply a.result.1 (λ frame. DeskReplies m r.desk c.args.keep x r.jobs (plain (asked_of c.args.request)) frame (desk_with a.new.ledger c.desk.inside.keys) a.new.runner.jobs)) c.desk.view_is
    (is_reply_weaker a.result.1 _ _ (λ frame t. plain_replies m c.args.keep r.desk d r.jobs (asked_of c.args.request) frame a.new.ledger a.new.runner.jobs t) a.ensures.replies)

pub returns-clause-records : goal.returns-clause-records
returns-clause-records g c =
    let a = c.answer_ledger in
    let d : DeskState = desk_with c.desk.inside.ledger c.desk.inside.keys in
    subst (λ (x : DeskState). RecordsAt g.C.ChangeSink c.args.runner.now.desk c.args.changes.now a.new.changes x (desk_with a.new.ledger c.desk.inside.keys)) c.desk.view_is
    (records_plainly g.C.ChangeSink c.args.runner.now.desk c.args.changes.now a.new.changes d a.new.ledger a.ensures.records)
