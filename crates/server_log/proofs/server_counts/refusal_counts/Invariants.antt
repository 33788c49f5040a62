use Rattle.std.proofs.Common.{◌≡◌, take}
use Rattle.server_log.specs.Counting.{told_counts}
use Rattle.server_log.proofs.server_counts.refusal_counts.Given as goal

abbrev pub invariant-codes : goal.invariant-codes
invariant-codes l = l.found.items ≡ told_counts 0 (take l.code l.counts)
