use Rattle.std.proofs.Common.{◌≡◌, ◌++◌}
use Rattle.std.specs.Vec.Iter.{into_iter_items}
use Rattle.accounts.specs.Ledgers.{Ledger}
use Rattle.desk_recorder.specs.Restarts.{StartsEach}
use Rattle.desk_recorder.proofs.restarting.restart_jobs.Given as goal

-- those that were taken are started
abbrev pub invariant-jobs : goal.invariant-jobs
invariant-jobs g l = ((desk : Ledger) → StartsEach g.N.Runner.starts desk l.fn.runner l.yielded desk l.runner)
    × g.N.Runner.ready l.runner × (l.yielded ++ into_iter_items l.job-iterator ≡ into_iter_items l.initial.job-iterator)
