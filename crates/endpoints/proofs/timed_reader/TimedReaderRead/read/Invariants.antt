use Rattle.std.proofs.Common.{◌≡◌, length, true}
use Rattle.std.specs.Io.KnownBytes.{Keeps}
use Rattle.endpoints.specs.Limits.{TriesUntil}
use Rattle.endpoints.proofs.timed_reader.TimedReaderRead.read.Given as goal

-- reads that failed took nothing, and each kept to the time that is due
abbrev pub invariant-trying : goal.invariant-trying
invariant-trying g l = record {
  kept : Keeps (g.S.TimedRead.remaining l.fn.self.stream) (g.S.TimedRead.remaining l.self.stream);
  piece : length l.piece ≡ length l.fn.piece;
  tried : TriesUntil g.R.Timer.tells l.rt g.S.TimedRead.reads l.due l.fn.self.watch.0 l.fn.self.stream l.self.stream;
  flag : l.self.watch.0 ≡ l.fn.self.watch.0;
  stopped : l.fn.self.watch.1 ≡ true → (l.self.watch.1 ≡ true) × (l.self.stream ≡ l.fn.self.stream);
  frame : l.self.frame ≡ l.fn.self.frame;
  own_due : l.self.due ≡ l.fn.self.due;
  seconds : l.self.seconds ≡ l.fn.self.seconds;
}
