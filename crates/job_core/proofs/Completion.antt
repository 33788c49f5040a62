-- A job is complete exactly where its book is.
use Rattle.std.proofs.Common.{◌↔◌}
use Rattle.credit_book.specs.History as book
use Rattle.machine_model.specs.JobState.{JobState, IsComplete}
use Rattle.job_core.specs.declared.tasks.Tasks.{Tasks}
use Rattle.job_core.specs.Representation.{RepresentsJob}
use Rattle.job_core.specs.Keeping.{kept_of, IsBooked}
use Rattle.job_core.proofs.Booking.{book_complete}
use Rattle.job_core.proofs.Plays.{complete_is}

pub complete_book : (tasks : Tasks) (j : JobState) → RepresentsJob (kept_of tasks) j → IsBooked tasks →
    book.IsComplete (book.table_of tasks.ledger.book.history) ↔ IsComplete j
complete_book tasks j behind booked =
    let all = book_complete tasks.ledger.lives.items tasks.ledger.book.history booked in
    let is = complete_is (kept_of tasks) j behind in
    (λ done. is.0 (all.1 done), λ done. all.0 (is.1 done))
