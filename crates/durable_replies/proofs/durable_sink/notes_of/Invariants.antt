use Rattle.std.proofs.Common.{◌≡◌, length}
use Rattle.durable_replies.proofs.durable_sink.notes_of.Given as goal

-- a note for each of the first journals
abbrev pub invariant-loop-journal : goal.invariant-loop-journal
invariant-loop-journal g l = length l.notes.items ≡ l.journal-index
