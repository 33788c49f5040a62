use Rattle.std.proofs.Common.{◌≡◌, ◌≤◌, ◌+◌, ℕ, List, ◌++◌, drop, length}
use Rattle.desk_journal.specs.Encodings.{bytes_of_all}
use Rattle.desk_journal.proofs.ListLemmas.{Starts}
use Rattle.desk_journal.proofs.lists.read_list.Given as goal

abbrev pub invariant-values : goal.invariant-values
invariant-values g l =
    (l.at ≤ length l.input) × (length l.values.items + l.left ≡ l.count)
    × (drop l.start l.input ≡ bytes_of_all g.T.Encoded.bytes l.values.items ++ drop l.at l.input)
    × ((more : List ℕ) → Starts g.T.Encoded.bytes l.count (drop l.start l.input) more → Starts g.T.Encoded.bytes l.left (drop l.at l.input) more)

abbrev pub decreases-values : goal.decreases-values
decreases-values g l = l.left
