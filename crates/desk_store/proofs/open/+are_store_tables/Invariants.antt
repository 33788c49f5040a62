use Rattle.std.proofs.Common.{length}
use Rattle.desk_store.proofs.open.+are_store_tables.Given as goal

abbrev pub decreases-are_store_tables : goal.decreases-are_store_tables
decreases-are_store_tables l = length l.tables.now
