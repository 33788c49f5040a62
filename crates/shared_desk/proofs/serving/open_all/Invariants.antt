use Rattle.std.proofs.Common.{◌≡◌, ◌++◌, length}
use Rattle.std.specs.Vec.Iter.{into_iter_items, into_iter_len}
use Rattle.shared_desk.specs.Together.{AreOpened, NoneHasFailed}
use Rattle.shared_desk.proofs.serving.open_all.Given as goal

abbrev pub invariant-opening : goal.invariant-opening
invariant-opening g l = record {
  left : l.yielded ++ into_iter_items l.pair-iterator ≡ into_iter_items l.initial.pair-iterator;
  len : into_iter_len l.pair-iterator ≡ length (into_iter_items l.pair-iterator);
  same : l.shared ≡ l.fn.shared;
  count : l.opener ≡ length l.yielded;
  well : NoneHasFailed g.S.Source.has_failed g.W.Sink.has_failed (into_iter_items l.pair-iterator);
  opened : AreOpened 0 l.yielded l.connections.items;
}
