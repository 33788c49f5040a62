use Rattle.std.proofs.Common.{◌≡◌, ◌++◌, length}
use Rattle.std.specs.List.{AllZip}
use Rattle.std.specs.Vec.Iter.{into_iter_items, into_iter_len}
use Rattle.tenant_recorder.specs.Recorders.{IsNewRecorder}
use Rattle.tenant_recorder.proofs.recorders.recorders_of.Given as goal

abbrev pub invariant-queues : goal.invariant-queues
invariant-queues g l = record {
  left : l.yielded ++ into_iter_items l.queue-iterator ≡ into_iter_items l.initial.queue-iterator;
  len : into_iter_len l.queue-iterator ≡ length (into_iter_items l.queue-iterator);
  made : AllZip IsNewRecorder l.yielded l.recorders.items;
}
