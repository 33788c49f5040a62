use Rattle.std.proofs.Common.{◌≡◌, sum_by, take}
use Rattle.job_core.specs.Sums.{used_of}
use Rattle.job_core.proofs.totals.used_by_live.Given as goal

abbrev pub invariant-loop-live : goal.invariant-loop-live
invariant-loop-live l = l.used ≡ sum_by used_of (take l.live-index l.lives)
