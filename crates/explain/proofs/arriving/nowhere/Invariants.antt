use Rattle.std.proofs.Common.{◌≡◌, ℕ, length, slice_index_or}
use Rattle.explain.specs.declared.arriving.Arrival.TheVariants as arrival
use Rattle.explain.proofs.arriving.nowhere.Given as goal

abbrev pub invariant-loop : goal.invariant-loop
invariant-loop l = record {
  long : length l.table.items ≡ l.counter;
  none : (s : ℕ) → slice_index_or l.table.items s arrival.Unreached ≡ arrival.Unreached;
}
