use Rattle.std.proofs.Common.{Global, List, String, map, string_bytes, refl, sym, ap, subst}
use Rattle.server_state.specs.Answering.{ServerAnswers}
use Rattle.server_state.specs.States.{ServerState, steps_of}
use Rattle.server_handler.specs.DeskAnswers.{IsReply, query_asked}
use Rattle.server_handler.specs.Serving.{waiting_job}
use Rattle.server_handler.proofs.server.Server.answer.Goals as goal

pub returns-clause-replies : goal.returns-clause-replies
returns-clause-replies g c =
    let a = c.answer_among in
    let own = c.self.inside in
    let s : ServerState g.row.N.Denot =
    record { names = map string_bytes own.names.items; keep = own.keep; desks = own.desks.items; waiting = map waiting_job own.waiting.items; jobs = own.runner.jobs } in
    subst (λ (x : ServerState g.row.N.Denot). IsReply a.result.1 (λ frame. ServerAnswers (steps_of g.N.JobRunner) x c.args.access (query_asked c.args.query) frame
    (record s { desks = a.new.desks.items; jobs = a.new.runner.jobs }))) c.self.view_is
    (a.ensures.replies s (ap (λ (names : List (String Global)). map string_bytes names) (sym c.deref.ensures.value)) refl)
