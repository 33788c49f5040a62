use Rattle.std.proofs.Common.{◌≡◌, ◌<◌, ◌-◌, ℕ, length, slice_index_or}
use Rattle.shared_desk.specs.Histories.{part_of}
use Rattle.shared_desk.proofs.connections.compare_all.Given as goal

abbrev pub invariant-loop-at : goal.invariant-loop-at
invariant-loop-at g l = record {
  desk : l.desk ≡ l.fn.desk;
  served : l.served.items ≡ l.fn.served.items;
  parts : (i : ℕ) (d : _) → i < l.at → part_of (slice_index_or l.fn.served.items i d).seat.number l.fn.desk.1 ≡ (slice_index_or l.fn.served.items i d).seat.part;
}

abbrev pub decreases-loop-at : goal.decreases-loop-at
decreases-loop-at g l = length l.served.items - l.at
