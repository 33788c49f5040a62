-- What a runner does that plays each job at its start.
use Rattle.std.specs.Prelude.{◌≡◌, ℕ, List, [], ◌∷◌, Option, Some, None, Result, Ok, Err}
use Rattle.std.specs.Ordering.{nat_cmp}
use Rattle.std.specs.BTreeMap.{insert_entry}
use Rattle.credit_book.specs.declared.book.Report.{Report}
use Rattle.job_core.specs.Admitted.{AdmittedJob}
use Rattle.job_core.specs.PlaysLowest.{IsPlayed}

-- the finished jobs, in order of number, after a start
abbrev pub StartsInline : List (ℕ × Report) → ℕ → AdmittedJob → Result (Unit {0}) ℕ
    → List (ℕ × Report) → Type 0
StartsInline old number order (Ok _) new =
    (report : Report) × IsPlayed order report × (new ≡ insert_entry nat_cmp old number report)
StartsInline old number order (Err code) new = (code ≡ 99) × (new ≡ old)

-- the job of lowest number is given
abbrev pub TakesInline : List (ℕ × Report) → Option (ℕ × Result Report ℕ) → List (ℕ × Report)
    → Type 0
TakesInline old (Some taken) new =
    (report : Report) × (taken.1 ≡ Ok report) × (old ≡ (taken.0, report) ∷ new)
TakesInline old None new = (old ≡ []) × (new ≡ [])
