-- What a command answers, and what is left where an end fails.
use Rattle.std.specs.Prelude.{◌≡◌, ◌≤◌, ◌<◌, ◌⊎◌, ◌-◌, ◌^◌, ℕ, List, ◌++◌, length, take, Option}
use Rattle.streams.specs.declared.fault.StreamFault.{StreamFault}
use Rattle.streams.specs.declared.fault.StreamFault.TheVariants.{ReadFailed, WriteFailed, NoMemory}
use Rattle.bpfjobs_cli.specs.declared.commands.Command.{Command}
use Rattle.bpfjobs_cli.specs.declared.commands.Command.TheVariants.{Assemble, Disassemble, Verify, Play, Run, Serve, Journal, Ask, Job, Check}
use Rattle.bpfjobs_cli.specs.Jobs.{PrintsPlay}
use Rattle.bpfjobs_cli.specs.Programs.{PrintsAssembly, PrintsListing, PrintsVerdict}
use Rattle.bpfjobs_cli.specs.Runs.{PrintsRun}

-- the command answers its input without a thread
abbrev pub NeedsNoThread : Command → Type 0
NeedsNoThread Assemble = Unit {0}
NeedsNoThread Disassemble = Unit {0}
NeedsNoThread (Verify need) = Unit {0}
NeedsNoThread Play = Unit {0}
NeedsNoThread (Run workers) = ⊥
NeedsNoThread (Serve serve) = ⊥
NeedsNoThread (Journal path checks) = ⊥
NeedsNoThread (Ask ask) = ⊥
NeedsNoThread (Job job) = ⊥
NeedsNoThread (Check job result) = ⊥

-- the command has an answer to its input: it is no server, reads no files of its own and asks no
-- server, and a job has 1 to 16 threads
abbrev pub AnswersInput : Command → Type 0
AnswersInput Assemble = Unit {0}
AnswersInput Disassemble = Unit {0}
AnswersInput (Verify need) = Unit {0}
AnswersInput Play = Unit {0}
AnswersInput (Run workers) = (1 ≤ workers) × (workers ≤ 16)
AnswersInput (Serve serve) = ⊥
AnswersInput (Journal path checks) = ⊥
AnswersInput (Ask ask) = ⊥
AnswersInput (Job job) = ⊥
AnswersInput (Check job result) = ⊥

-- the text and the status that a command answers to its input
abbrev pub IsAnswer : Command → List ℕ → List ℕ → ℕ → Option ℕ → Type 0
IsAnswer Assemble input text status code = PrintsAssembly input text status code
IsAnswer Disassemble input text status code = PrintsListing input text status code
IsAnswer (Verify need) input text status code = PrintsVerdict need input text status code
IsAnswer Play input text status code = PrintsPlay input text status code
IsAnswer (Run workers) input text status code = PrintsRun input text status code
IsAnswer (Serve serve) input text status code = ⊥
IsAnswer (Journal path checks) input text status code = ⊥
IsAnswer (Ask ask) input text status code = ⊥
IsAnswer (Job job) input text status code = ⊥
IsAnswer (Check job result) input text status code = ⊥

-- What is left where a command is given up by this. Where the reader failed, or there was no
-- memory, nothing is written; where the writer failed all input was read, and of the answer a part
-- is written, but not all of it.
abbrev pub IsGivenUpBy : StreamFault → (List ℕ → ℕ → Option ℕ → Type 0) → Type 0 → List ℕ → List ℕ → Type 0
IsGivenUpBy ReadFailed answers over before after = after ≡ before
IsGivenUpBy WriteFailed answers over before after =
    over × (text : List ℕ) × (status : ℕ) × (code : Option ℕ) × answers text status code × (n : ℕ) × (n < length text)
    × (after ≡ before ++ take n text)
IsGivenUpBy NoMemory answers over before after = after ≡ before

-- the reader is over, or has given so many bytes
abbrev pub IsAllRead : Type 0 → List ℕ → Type 0
IsAllRead over input = over ⊎ (2 ^ 64 - 1 ≤ length input)

-- The input is read to its end, and the command's answer to it is written. The lists are what was
-- read and written before and after.
abbrev pub AnswersAll : Command → List ℕ → List ℕ → Type 0 → List ℕ → List ℕ → ℕ → Option ℕ → Type 0
AnswersAll command was_read read over before after status code =
    (input text : List ℕ) × (read ≡ was_read ++ input) × IsAllRead over input
    × IsAnswer command input text status code × (after ≡ before ++ text)

-- the command is given up by this, behind what was read
abbrev pub GivesUp : Command → List ℕ → List ℕ → Type 0 → List ℕ → List ℕ → StreamFault → Type 0
GivesUp command was_read read over before after fault =
    (input : List ℕ) × (read ≡ was_read ++ input)
    × IsGivenUpBy fault (IsAnswer command input) (IsAllRead over input) before after
