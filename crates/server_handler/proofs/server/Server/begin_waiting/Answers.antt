use Rattle.std.proofs.Common.{◌≡◌, [], ◌∙◌, List, map, string_bytes, sym, ap, subst}
use Rattle.server_state.specs.States.{ServerState, steps_of}
use Rattle.server_handler.specs.Serving.{BeginsOr, waiting_job}
use Rattle.server_handler.specs.declared.server.WaitingJob.{WaitingJob}
use Rattle.server_handler.proofs.server.Server.begin_waiting.Goals as goal

pub returns-clause-begun : goal.returns-clause-begun
returns-clause-begun g c some =
    let b = c.begin_first in
    let own = c.self.inside in
    let s : ServerState g.row.N.Denot =
    record { names = map string_bytes own.names.items; keep = own.keep; desks = own.desks.items; waiting = map waiting_job own.waiting.items; jobs = own.runner.jobs } in
    let waits : own.waiting.items ≡ [] → ⊥ = λ none. some (ap (λ (x : ServerState g.row.N.Denot). x.waiting) (sym c.self.view_is) ∙ ap (λ (l : List WaitingJob). map waiting_job l) none) in
    subst (λ (x : ServerState g.row.N.Denot). BeginsOr b.result (steps_of g.N.JobRunner) x (record s { waiting = map waiting_job b.new.waiting.items; jobs = b.new.jobs })) c.self.view_is
    (b.ensures.begun s waits)
