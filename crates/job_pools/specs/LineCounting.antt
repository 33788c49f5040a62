-- What a runner with limits by line has come to, and the numbers of the jobs that it holds.
use Rattle.std.specs.Prelude.{ℕ, suc, ◌==◌, List, [], ◌∷◌, ◌++◌, Some, None, Option, Result, Ok, Err, if◌then◌else◌}
use Rattle.credit_book.specs.declared.book.Report.{Report}
use Rattle.credit_book.specs.declared.board.Progress.{Progress}
use Rattle.job_core.specs.Admitted.{AdmittedJob}
use Rattle.job_pools.specs.LineLimiting.{LimitsByLine, number_line}
use Rattle.job_pools.specs.LineBounded.{new_by_line, starts_by_line, looks_by_line, takes_by_line}
use Rattle.job_pools.specs.declared.line_limited_runner.LineLimitedRunner.{LineLimitedRunner}

-- how many of these numbers are of a line
abbrev pub count_in_line : ℕ → List ℕ → ℕ
count_in_line line [] = 0
count_in_line line (number ∷ numbers) =
    if number_line number == line then suc (count_in_line line numbers)
    else count_in_line line numbers

-- A runner has come from its beginning to a state in which it holds the jobs of these numbers: those
-- whose start was answered by Ok, but for those that were taken. What is taken was held.
pub data LineRuns {R : Type 0} (starts : R → ℕ → AdmittedJob → Result (Unit {0}) ℕ → R → Type 0)
    (looks : R → ℕ → Progress → R → Type 0)
    (takes : R → Option (ℕ × Result Report ℕ) → R → Type 0) (limits : LimitsByLine)
    : LineLimitedRunner R → List ℕ → Type 0 where
  begun : (runner : R) → LineRuns starts looks takes limits (new_by_line limits runner) []
  started : (old new : LineLimitedRunner R) (held : List ℕ) (number : ℕ) (job : AdmittedJob)
      → LineRuns starts looks takes limits old held
      → starts_by_line starts old number job (Ok tt) new
      → LineRuns starts looks takes limits new (number ∷ held)
  refused : (old new : LineLimitedRunner R) (held : List ℕ) (number : ℕ) (job : AdmittedJob)
      (code : ℕ) → LineRuns starts looks takes limits old held
      → starts_by_line starts old number job (Err code) new
      → LineRuns starts looks takes limits new held
  looked : (old new : LineLimitedRunner R) (held : List ℕ) (number : ℕ) (told : Progress)
      → LineRuns starts looks takes limits old held → looks_by_line looks old number told new
      → LineRuns starts looks takes limits new held
  took : (old new : LineLimitedRunner R) (front rest : List ℕ) (number : ℕ)
      (outcome : Result Report ℕ)
      → LineRuns starts looks takes limits old (front ++ number ∷ rest)
      → takes_by_line takes old (Some (number, outcome)) new
      → LineRuns starts looks takes limits new (front ++ rest)
  took_none : (old new : LineLimitedRunner R) (held : List ℕ)
      → LineRuns starts looks takes limits old held → takes_by_line takes old None new
      → LineRuns starts looks takes limits new held
