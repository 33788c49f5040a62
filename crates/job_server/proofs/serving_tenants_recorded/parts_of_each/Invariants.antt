use Rattle.std.proofs.Common.{◌≡◌, Vec, Global, length, map}
use Rattle.desk_journal.specs.DeskSteps.{DeskState}
use Rattle.desk_journal.specs.declared.journaled_desk.OpenJob.{OpenJob}
use Rattle.job_server.specs.TenantRecorded.{desks_of, keys_of, open_jobs_of}
use Rattle.job_server.proofs.serving_tenants_recorded.parts_of_each.Given as goal

-- the parts of the first desks
abbrev pub invariant-states : goal.invariant-states
invariant-states l = record {
  desks : l.desks.items ≡ map (λ (s : DeskState). s.desk) (desks_of l.yielded);
  jobs : map (λ (jobs : Vec OpenJob Global). jobs.items) l.jobs.items ≡ open_jobs_of (desks_of l.yielded);
  keys : l.doors ≡ keys_of l.yielded;
  count : (length l.desks.items ≡ length l.yielded) × (length l.jobs.items ≡ length l.yielded);
}
