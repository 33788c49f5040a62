use Rattle.std.proofs.Common.{◌≡◌, ◌≤◌, length, vec_capacity}
use Rattle.job_pool.proofs.Desks.{AreFresh}
use Rattle.job_pool.proofs.job_table.JobTable.new.Given as goal

abbrev pub invariant-loop : goal.invariant-loop
invariant-loop g l = record {
  count : length l.made.items ≡ l.counter;
  room : l.desks ≤ vec_capacity l.made;
  fresh : AreFresh l.made.items;
}
