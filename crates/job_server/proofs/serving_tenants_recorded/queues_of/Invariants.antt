use Rattle.std.proofs.Common.{◌≡◌, [], length, map, take}
use Rattle.std.specs.Prelude.{All}
use Rattle.job_server.specs.Recorded.{queue_journal, queue_taken}
use Rattle.job_server.proofs.serving_tenants_recorded.queues_of.Given as goal

-- the queues of the first journals
abbrev pub invariant-loop-journal : goal.invariant-loop-journal
invariant-loop-journal g l = record {
  own : map queue_journal l.queues.items ≡ take l.journal-index l.journals;
  count : length l.queues.items ≡ l.journal-index;
  none : All (λ q. queue_taken q ≡ []) l.queues.items;
}
