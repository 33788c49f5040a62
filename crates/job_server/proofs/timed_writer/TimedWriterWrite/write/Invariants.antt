use Rattle.std.specs.Io.KnownBytes.{Keeps}
use Rattle.job_server.proofs.timed_writer.TimedWriterWrite.write.Given as goal

-- writes that failed left what the stream holds
abbrev pub invariant-trying : goal.invariant-trying
invariant-trying g l = Keeps (g.S.Write.contents l.fn.self.stream) (g.S.Write.contents l.self.stream)
