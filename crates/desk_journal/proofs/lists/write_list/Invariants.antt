use Rattle.std.proofs.Common.{◌≡◌, ◌++◌, length}
use Rattle.desk_journal.specs.Encodings.{bytes_of_all}
use Rattle.desk_journal.proofs.lists.write_list.Given as goal

abbrev pub invariant-values : goal.invariant-values
invariant-values g l = l.out.items ++ bytes_of_all g.T.Encoded.bytes l.rest ≡ l.initial.out.items ++ bytes_of_all g.T.Encoded.bytes l.values

abbrev pub decreases-values : goal.decreases-values
decreases-values g l = length l.rest
