-- Jobs that wait for the host.
use Rattle.std.specs.Prelude.{◌≡◌, ℕ, List, slice_get, Option, Some, None, Result, Ok, Err, Vec, false}
use Rattle.std.specs.declared.alloc.Global.{Global}
use Rattle.std.specs.Ordering.{nat_cmp}
use Rattle.std.specs.BTreeMap.{insert_entry}
use Rattle.credit_book.specs.declared.book.Report.{Report}
use Rattle.credit_book.specs.declared.board.Progress.{Progress}
use Rattle.job_core.specs.Admitted.{AdmittedJob}
use Rattle.conversation.specs.declared.handed_jobs.HandedJobs.{HandedJobs}

-- a job that is started waits, with the object that was ready; or there is no memory
abbrev pub handed_starts : HandedJobs → ℕ → AdmittedJob → Result (Unit {0}) ℕ → HandedJobs → Type 0
handed_starts old number job (Ok _) new =
    (object : Vec ℕ Global) × (old.ready ≡ Some object)
    × (new.waiting.entries ≡ insert_entry nat_cmp old.waiting.entries number object)
handed_starts old number job (Err code) new =
    (code ≡ 99) × (new.waiting.entries ≡ old.waiting.entries)

-- nothing is seen of a job
abbrev pub handed_looks : HandedJobs → ℕ → Progress → HandedJobs → Type 0
handed_looks old number progress new =
    (progress ≡ record { spent = 0; returned = 0; complete = false }) × (new ≡ old)

-- nothing is taken from here: the host gives its reports to the desk itself
abbrev pub handed_takes : HandedJobs → Option (ℕ × Result Report ℕ) → HandedJobs → Type 0
handed_takes old taken new = (taken ≡ None) × (new ≡ old)

-- the job of this number and object is the first that waits
abbrev pub HasFirst : List (ℕ × Vec ℕ Global) → ℕ → List ℕ → Type 0
HasFirst waiting number text =
    (object : Vec ℕ Global) × (slice_get waiting 0 ≡ Some (number, object))
    × (text ≡ object.items)
