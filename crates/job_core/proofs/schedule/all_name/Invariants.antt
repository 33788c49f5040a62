use Rattle.std.proofs.Common.{◌≡◌, ◌↔◌, ℕ, ◌<◌, get_or, IsTrue}
use Rattle.job_core.proofs.schedule.all_name.Given as goal

abbrev pub invariant-loop-entry : goal.invariant-loop-entry
invariant-loop-entry l = record {
  all : IsTrue l.all ↔ ((i : ℕ) → i < l.entry-index → get_or l.entries i 0 ≡ l.number);
}
