use Rattle.std.proofs.Common.{ℕ, List, Result, map, string_bytes, subst}
use Rattle.credit_book.specs.declared.book.Report.{Report}
use Rattle.server_state.specs.Answering.{Collects}
use Rattle.server_state.specs.States.{ServerState, steps_of}
use Rattle.server_state.specs.declared.job_id.JobId.{JobId}
use Rattle.server_handler.specs.Serving.{waiting_job}
use Rattle.server_handler.proofs.server.Server.collect.Goals as goal

pub returns-clause-collected : goal.returns-clause-collected
returns-clause-collected g c =
    let e = c.collect_ends in
    let own = c.self.inside in
    let s : ServerState g.row.N.Denot =
    record { names = map string_bytes own.names.items; keep = own.keep; desks = own.desks.items; waiting = map waiting_job own.waiting.items; jobs = own.runner.jobs } in
    subst (λ (x : ServerState g.row.N.Denot). (ends : List (JobId × Result Report ℕ)) × Collects (steps_of g.N.JobRunner) x ends (record s { desks = e.new.desks.items; jobs = e.new.jobs })) c.self.view_is
    (e.ensures.collected s)
