use Rattle.std.proofs.Common.{◌≡◌, drop}
use Rattle.journal.specs.Checksums.{crc32_from}
use Rattle.journal.proofs.checksum.crc32_over.Given as goal

-- the bytes so far, and then the rest
abbrev pub invariant-loop-byte : goal.invariant-loop-byte
invariant-loop-byte l = crc32_from l.so_far (drop l.byte-index l.bytes) ≡ crc32_from l.remainder l.bytes
