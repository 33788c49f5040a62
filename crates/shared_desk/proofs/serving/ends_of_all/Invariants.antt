use Rattle.std.proofs.Common.{◌≡◌, ◌++◌, length}
use Rattle.std.specs.List.{AllZip}
use Rattle.std.specs.Vec.Iter.{into_iter_items, into_iter_len}
use Rattle.shared_desk.proofs.serving.ends_of_all.Given as goal

abbrev pub invariant-ending : goal.invariant-ending
invariant-ending g l = record {
  left : l.yielded ++ into_iter_items l.connection-iterator ≡ into_iter_items l.initial.connection-iterator;
  len : into_iter_len l.connection-iterator ≡ length (into_iter_items l.connection-iterator);
  ended : AllZip (λ c e. (e.reader ≡ c.reader) × (e.writer ≡ c.writer) × (e.outcome ≡ c.outcome)) l.yielded l.ends.items;
}
