use Rattle.std.proofs.Common.{length}
use Rattle.desk_store.proofs.file_kinds.+is_partly.Given as goal

abbrev pub decreases-is_partly : goal.decreases-is_partly
decreases-is_partly l = length l.bytes.now
