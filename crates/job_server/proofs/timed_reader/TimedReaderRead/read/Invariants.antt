use Rattle.std.proofs.Common.{◌≡◌, length}
use Rattle.std.specs.Io.KnownBytes.{Keeps}
use Rattle.job_server.proofs.timed_reader.TimedReaderRead.read.Given as goal

-- reads that failed took nothing
abbrev pub invariant-trying : goal.invariant-trying
invariant-trying g l =
    Keeps (g.S.Read.remaining l.fn.self.stream) (g.S.Read.remaining l.self.stream)
    × (length l.piece ≡ length l.fn.piece)
