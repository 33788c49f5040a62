-- What is answered to a program.
use Rattle.std.specs.Prelude.{◌≡◌, ◌≢◌, ℕ, min, List, length, [], Bool, true, Option, Some, None, option_map, if◌then◌else◌}
use Rattle.std.proofs.Math.ListN.{replicate}
use Rattle.machine_model.specs.Limits.{max_part}
use Rattle.helpers.specs.Table.{job_table}
use Rattle.verifier.specs.declared.refusals.Refusal.{Refusal}
use Rattle.bpfjobs_cli.specs.Printed.{Prints}
use Rattle.explain.specs.declared.explanation.Explanation.{Explanation}
use Rattle.explain.specs.declared.lines.SourceLine.{SourceLine}
use Rattle.explain.specs.Faults.{AreTold}
use Rattle.explain.specs.Lines.{numbered_text}
use Rattle.bpfrun_core.specs.declared.answering.RunOptions.{RunOptions}
use Rattle.bpfrun_core.specs.declared.fault.RunFault.{RunFault}
use Rattle.bpfrun_core.specs.declared.fault.RunFault.TheVariants as fault
use Rattle.bpfrun_core.specs.Forms.{IsRead, IsUnread}
use Rattle.bpfrun_core.specs.FaultLines.{IsFaultPlace, IsQuote}
use Rattle.bpfrun_core.specs.Printed.{IsRefusalText, ran_text}
use Rattle.bpfrun_core.specs.Runs.{IsProgramRun, IsStopped}

-- how many bytes of its part a program needs: what is said, or else all of its memory
abbrev pub need_of : Option ℕ → Option (List ℕ) → ℕ
need_of (Some need) memory = need
need_of None (Some bytes) = min (length bytes) max_part
need_of None None = 0

-- its memory, or else as many zeros as it needs
abbrev pub starting_memory : Option ℕ → Option (List ℕ) → List ℕ
starting_memory need (Some bytes) = bytes
starting_memory need None = replicate (min (need_of need None) max_part) 0

-- a memory that is shown
abbrev pub shown_memory : Bool → List ℕ → Option (List ℕ)
shown_memory is_shown left = if is_shown then Some left else None

-- The lines of the refusal, with what it quotes and the place that it is about.
pub record PrintsRefusal (asked : RunOptions) (input code : List ℕ) (why : RunFault) (text : List ℕ)
    (status : ℕ) : Type 0 where
  pub lasting : why ≢ fault.NoMemory
  pub quote : Option (List ℕ)
  pub quotes : IsQuote why input quote
  pub place : Option SourceLine
  pub about : IsFaultPlace asked.form why input code place
  pub lines : IsRefusalText asked.file.now why quote (option_map numbered_text place) text
  pub one : status ≡ 1

-- some instructions aren't allowed, or the program has no graph, and that is explained
pub record AreExplained (need : ℕ) (code : List ℕ) : Type 0 where
  pub source : Option (List ℕ)
  pub list : List Explanation
  pub told : AreTold need code job_table source list
  pub some : list ≢ []

-- The verifier's refusal is told, or each instruction that isn't allowed is explained.
pub data IsRejected (asked : RunOptions) (need : ℕ) (input code : List ℕ) (why : Refusal)
    (text : List ℕ)
    (status : ℕ) : Type 0 where
  declined : PrintsRefusal asked input code (fault.Program why) text status
      → IsRejected asked need input code why text status
  all_explained : asked.explains_all ≡ true → AreExplained need code → status ≡ 1
      → IsRejected asked need input code why text status

-- A program of these bytes that needs so much, on this memory, and what its run leaves of it.
pub data IsJudged (asked : RunOptions) (need : ℕ) (input code old left : List ℕ) (is_shown : Bool)
    (text : List ℕ) (status : ℕ) : Type 0 where
  ran : (r0 used : ℕ) (number : Option ℕ) → IsProgramRun need code asked.arg asked.credit old r0 used left
      → Prints text status number (ran_text r0 used (shown_memory is_shown left)) 0 None
      → IsJudged asked need input code old left is_shown text status
  rejected : (why : Refusal) → IsStopped need code asked.credit old (fault.Program why) → left ≡ old
      → IsRejected asked need input code why text status
      → IsJudged asked need input code old left is_shown text status
  stopped : (why : RunFault) → IsStopped need code asked.credit old why → left ≡ old
      → PrintsRefusal asked input code why text status
      → IsJudged asked need input code old left is_shown text status

-- What is answered to a program as its file has it.
pub data IsTried (asked : RunOptions) (need : ℕ) (input old left : List ℕ) (is_shown : Bool)
    (text : List ℕ) (status : ℕ) : Type 0 where
  judged : (code : List ℕ) → IsRead asked.form input code
      → IsJudged asked need input code old left is_shown text status
      → IsTried asked need input old left is_shown text status
  unread : (why : RunFault) → IsUnread asked.form input why → left ≡ old
      → PrintsRefusal asked input [] why text status
      → IsTried asked need input old left is_shown text status
