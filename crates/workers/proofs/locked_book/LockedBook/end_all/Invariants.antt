use Rattle.std.proofs.Common.{length, reverse}
use Rattle.workers.specs.AtDesk.{AreTasksEnded}
use Rattle.credit_book.specs.Books.{BookState}
use Rattle.workers.proofs.locked_book.LockedBook.end_all.Given as goal

abbrev pub invariant-loop-outcome : goal.invariant-loop-outcome
invariant-loop-outcome g l =
    (last : BookState) → AreTasksEnded l.self (reverse l.outcomes.items) last → AreTasksEnded l.fn.self (reverse l.fn.outcomes.items) last

abbrev pub decreases-loop-outcome : goal.decreases-loop-outcome
decreases-loop-outcome g l = length l.outcomes.items
