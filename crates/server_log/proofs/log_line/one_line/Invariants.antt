use Rattle.std.proofs.Common.{◌≡◌, map, take}
use Rattle.server_log.specs.LogLines.{plain_byte}
use Rattle.server_log.proofs.log_line.one_line.Given as goal

abbrev pub invariant-loop-byte : goal.invariant-loop-byte
invariant-loop-byte l = l.bytes.items ≡ map plain_byte (take l.byte-index l.text)
