use Rattle.std.proofs.Common.{◌≡◌, ℕ, List, Result, length}
use Rattle.credit_book.specs.declared.book.Report.{Report}
use Rattle.server_state.specs.declared.job_id.JobId.{JobId}
use Rattle.server_state.specs.Answering.{EndsEach}
use Rattle.server_state.specs.Changing.{RecordsAll}
use Rattle.server_state.specs.States.{ServerState, steps_of}
use Rattle.server_handler.proofs.server.collect_ends.Given as goal

abbrev pub invariant-jobs : goal.invariant-jobs
invariant-jobs g l = record {
  ready : g.N.JobRunner.ready l.jobs;
  ended : (s : ServerState g.row.N.Denot) → (ends : List (JobId × Result Report ℕ))
      × EndsEach (steps_of g.N.JobRunner) (record s { desks = l.fn.desks.items; jobs = l.fn.jobs }) ends (record s { desks = l.desks.items; jobs = l.jobs });
  records : RecordsAll g.C.ChangeSink l.fn.changes l.changes l.fn.desks.items l.desks.items;
  count : length l.desks.items ≡ length l.fn.desks.items;
}

abbrev pub decreases-jobs : goal.decreases-jobs
decreases-jobs g l = g.N.JobRunner.held l.jobs
