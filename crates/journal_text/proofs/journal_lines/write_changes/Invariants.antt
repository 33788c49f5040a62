use Rattle.std.proofs.Common.{◌≡◌, ◌≤◌, length, false}
use Rattle.journal_text.proofs.ToldLemmas.{AreTold}
use Rattle.journal_text.proofs.journal_lines.write_changes.Given as goal

-- the lines of the records ahead of the rest are written
abbrev pub invariant-loop-payload : goal.invariant-loop-payload
invariant-loop-payload g l = record {
  within : length l.rest ≤ length l.bytes;
  well : g.W.Sink.has_failed l.writer ≡ false;
  told : AreTold l.bytes l.rest l.number (g.W.Sink.transcript l.fn.writer) (g.W.Sink.transcript l.writer);
}

abbrev pub decreases-loop-payload : goal.decreases-loop-payload
decreases-loop-payload g l = length l.rest
