-- The steps of a run that are shown, and where there are none.
use Rattle.std.specs.Prelude.{ℕ, List, Option}
use Rattle.run_trace.specs.declared.tracing.Trace.{Trace}
use Rattle.run_trace.specs.Traces.{IsTrace}
use Rattle.bpfrun_core.specs.declared.answering.RunOptions.{RunOptions}
use Rattle.bpfrun_core.specs.declared.fault.RunFault.{RunFault}
use Rattle.bpfrun_core.specs.Answered.{need_of, starting_memory}
use Rattle.bpfrun_core.specs.Forms.{IsRead, IsUnread, source_in}
use Rattle.bpfrun_core.specs.Runs.{IsProgramRun, IsStopped}

-- The program runs, and the trace has the steps of that run, with the lines of its source text, and
-- what it comes to.
pub record IsTraced (asked : RunOptions) (input : List ℕ) (memory : Option (List ℕ))
    (trace : Trace) :
    Type 0 where
  pub code : List ℕ
  pub read : IsRead asked.form input code
  pub steps : IsTrace code (source_in asked.form input) asked.arg asked.credit
      (starting_memory asked.need memory) trace
  pub r0 : ℕ
  pub used : ℕ
  pub left : List ℕ
  pub runs : IsProgramRun (need_of asked.need memory) code asked.arg asked.credit
      (starting_memory asked.need memory) r0 used left

-- The program isn't read, or doesn't run.
pub data IsUntraced (asked : RunOptions) (input : List ℕ) (memory : Option (List ℕ)) : Type 0 where
  unread : (why : RunFault) → IsUnread asked.form input why → IsUntraced asked input memory
  stopped : (code : List ℕ) (why : RunFault) → IsRead asked.form input code
      → IsStopped (need_of asked.need memory) code asked.credit
      (starting_memory asked.need memory) why
      → IsUntraced asked input memory
