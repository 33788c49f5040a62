use Rattle.std.proofs.Common.{◌≡◌, false}
use Rattle.std.specs.Io.KnownBytes.{Keeps}
use Rattle.endpoints.specs.Limits.{TriesUntil}
use Rattle.endpoints.proofs.timed_writer.TimedWriterWrite.write.Given as goal

-- writes that failed left what was written, and each kept to the time that is due
abbrev pub invariant-trying : goal.invariant-trying
invariant-trying g l = record {
  kept : Keeps (g.S.TimedWrite.contents l.fn.self.stream) (g.S.TimedWrite.contents l.self.stream);
  tried : TriesUntil g.R.Timer.tells l.rt g.S.TimedWrite.writes l.due false l.fn.self.stream l.self.stream;
  seconds : l.self.seconds ≡ l.fn.self.seconds;
}
