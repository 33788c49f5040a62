use Rattle.std.proofs.Common.{◌≡◌, true, rules}
use Rattle.streams.specs.Prepared.{asked_of}
use Rattle.shared_desk.specs.ServerAsked.{asks_server}
use Rattle.shared_desk.proofs.AskedOfDesks.{server_err}
use Rattle.server_log.proofs.counting_handler.CountingHandlerSharedHandler.answer_by.Goals as goal

pub returns-clause-err : goal.returns-clause-err
returns-clause-err g c =
    let is : asks_server c.args.beyond ≡ true = search rules in
    let inner = c.answer_by in
    rw (← c.self.view_is)
    (server_err g.H.SharedHandler.answers (c.args.desk.now, c.self.inside.handler) (inner.new.desk, inner.new.self) (record { passage = c.args.passage; asked = asked_of c.args.request; beyond = c.args.beyond })
    inner.result c.answer_server.result is inner.ensures.ok inner.ensures.err)
