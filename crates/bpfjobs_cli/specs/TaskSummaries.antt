-- The ends of a job's tasks, without their places and numbers.
use Rattle.std.specs.Prelude.{◌≡◌, ◌<◌, ◌==◌, ◌&&◌, ◌≢◌, ℕ, List, [], ◌∷◌, Bool, true, false, sum_by}
use Rattle.std.specs.List.{AllByRecursion}
use Rattle.std.specs.Ordering.{nat_cmp, on, then_cmp}
use Rattle.std.specs.declared.cmp.Ordering.{Ordering}
use Rattle.std.specs.declared.cmp.Ordering.TheVariants.{Greater}
use Rattle.machine_model.specs.JobState.{Ending}
use Rattle.sessions.specs.declared.result_reader.ResultTask.{ResultTask}
use Rattle.bpfjobs_cli.specs.declared.task_summaries.TaskSummary.{TaskSummary}
use Rattle.bpfjobs_cli.specs.declared.task_summaries.UnsharedTask.{UnsharedTask}
use Rattle.bpfjobs_cli.specs.declared.task_summaries.UnsharedTask.TheVariants.{Extra, Missing}

abbrev pub summary_of : Ending → TaskSummary
summary_of e = record { program = e.program; r0 = e.r0; spent = e.spent; rest = e.rest }

abbrev pub result_summary : ResultTask → TaskSummary
result_summary t = record { program = t.program; r0 = t.r0; spent = t.spent; rest = t.rest }

-- the order of ends: by program, R0, credit spent and credit returned, in turn
abbrev pub end_order : TaskSummary → TaskSummary → Ordering
end_order = then_cmp (on (λ s. s.program) nat_cmp)
    (then_cmp (on (λ s. s.r0) nat_cmp)
    (then_cmp (on (λ s. s.spent) nat_cmp) (on (λ s. s.rest) nat_cmp)))

-- each end is at most all that follow it
abbrev pub Ascends : List TaskSummary → Type 0
Ascends [] = Unit {0}
Ascends (s ∷ ss) = AllByRecursion (λ t. end_order s t ≢ Greater) ss × Ascends ss

-- the two ends are the same
abbrev pub is_same : TaskSummary → TaskSummary → Bool
is_same s t = s.program == t.program && (s.r0 == t.r0 && (s.spent == t.spent && s.rest == t.rest))

abbrev pub as_one : Bool → ℕ
as_one true = 1
as_one false = 0

-- the number of times that an end occurs among these
abbrev pub occurrences : TaskSummary → List TaskSummary → ℕ
occurrences s ss = sum_by (λ t. as_one (is_same s t)) ss

-- one list has this end more often than the other
abbrev pub IsUnshared : List TaskSummary → List TaskSummary → UnsharedTask → Type 0
IsUnshared given expected (Extra s) = occurrences s expected < occurrences s given
IsUnshared given expected (Missing s) = occurrences s given < occurrences s expected
