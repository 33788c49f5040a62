use Rattle.std.proofs.Common.{string_bytes}
use Rattle.server_log.specs.LogLines.{AreLogLines}
use Rattle.server_log.proofs.log_queue.LogLines.batch.Given as goal

abbrev pub invariant-putting : goal.invariant-putting
invariant-putting g l = AreLogLines l.self.form (string_bytes l.text)
