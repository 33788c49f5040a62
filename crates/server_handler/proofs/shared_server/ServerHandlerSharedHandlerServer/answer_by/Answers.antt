use Rattle.shared_desk.specs.Histories as shared
use Rattle.streams.specs.Prepared.{asked_of}
use Rattle.server_state.specs.States.{steps_of}
use Rattle.server_handler.specs.DeskAnswers.{query_asked}
use Rattle.server_handler.specs.Shared.{AnswersShared}
use Rattle.server_handler.proofs.Shared.{reply_err, reply_ok, reply_shared}
use Rattle.server_handler.proofs.shared_server.ServerHandlerSharedHandlerServer.answer_by.Goals as goal

pub returns-clause-ok : goal.returns-clause-ok
returns-clause-ok g c =
    let a = c.answer-refusal in
    let query : shared.Query = record { passage = c.args.passage; asked = asked_of c.args.request; beyond = c.args.beyond } in
    reply_ok a.result.1 (λ frame. AnswersShared (steps_of g.N.JobRunner) g.C.ChangeSink (c.args.server.now, c.args.self.now) query frame (a.new.self, a.new.changes))
    (reply_shared (steps_of g.N.JobRunner) g.C.ChangeSink c.args.server.now c.collect.new.self a.new.self c.args.self.now c.collect.new.changes a.new.changes query c.access_of-access.result
    (query_asked c.query_with-query.result) (asked_of c.own_named-named.result) a.result.1 c.self.inside.changes c.access_of-access.ensures c.self.view_is c.own_named-named.ensures c.query_with-query.ensures
    c.collect.ensures.collected a.ensures.replies c.collect.ensures.records a.ensures.records)

pub returns-clause-err : goal.returns-clause-err
returns-clause-err g c =
    let a = c.answer-refusal in
    let query : shared.Query = record { passage = c.args.passage; asked = asked_of c.args.request; beyond = c.args.beyond } in
    reply_err a.result.1 (λ frame. AnswersShared (steps_of g.N.JobRunner) g.C.ChangeSink (c.args.server.now, c.args.self.now) query frame (a.new.self, a.new.changes))
    (reply_shared (steps_of g.N.JobRunner) g.C.ChangeSink c.args.server.now c.collect.new.self a.new.self c.args.self.now c.collect.new.changes a.new.changes query c.access_of-access.result
    (query_asked c.query_with-query.result) (asked_of c.own_named-named.result) a.result.1 c.self.inside.changes c.access_of-access.ensures c.self.view_is c.own_named-named.ensures c.query_with-query.ensures
    c.collect.ensures.collected a.ensures.replies c.collect.ensures.records a.ensures.records)
