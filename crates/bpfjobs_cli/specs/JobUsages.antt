-- The refusal of a word of `job`.
use Rattle.std.specs.Prelude.{◌≡◌, ℕ, List, Option, Some, None, option_and_then, slice_get, string_bytes}
use Rattle.bpfjobs_cli.specs.declared.commands.Usage.{Usage}
use Rattle.bpfjobs_cli.specs.declared.commands.Usage.TheVariants as usage
use Rattle.bpfjobs_cli.specs.declared.job_sources.JobWordFault.{JobWordFault}
use Rattle.bpfjobs_cli.specs.declared.job_sources.JobWordFault.TheVariants as word_fault
use Rattle.bpfjobs_cli.specs.JobWords.{buffer_said, schedule_by, source_said}

-- the refusal is for want of memory, or for a fault of the words that this holds of
abbrev pub IsWordUsageBy : (JobWordFault → Type 0) → Usage → Type 0
IsWordUsageBy is (usage.Refused error) = ⊥
IsWordUsageBy is (usage.Endpoint fault) = ⊥
IsWordUsageBy is (usage.Tenant word fault) = ⊥
IsWordUsageBy is (usage.Ask fault) = ⊥
IsWordUsageBy is (usage.Job fault) = is fault
IsWordUsageBy is usage.TwoInputs = ⊥
IsWordUsageBy is usage.NoMemory = Unit {0}

-- the word says no source
abbrev pub IsSourceFault : List ℕ → JobWordFault → Type 0
IsSourceFault word (word_fault.Source told) =
    (string_bytes told ≡ word) × (source_said word ≡ None)
IsSourceFault word word_fault.Buffer = ⊥
IsSourceFault word word_fault.Schedule = ⊥

-- one of the words says no source
abbrev pub IsWordsFault : List (List ℕ) → JobWordFault → Type 0
IsWordsFault words (word_fault.Source told) =
    (n : ℕ) × (slice_get words n ≡ Some (string_bytes told))
    × (source_said (string_bytes told) ≡ None)
IsWordsFault words word_fault.Buffer = ⊥
IsWordsFault words word_fault.Schedule = ⊥

-- no word, or this one, says a buffer
abbrev pub IsBufferFault : Option (List ℕ) → JobWordFault → Type 0
IsBufferFault word (word_fault.Source told) = ⊥
IsBufferFault word word_fault.Buffer = option_and_then buffer_said word ≡ None
IsBufferFault word word_fault.Schedule = ⊥

-- the word says no schedule
abbrev pub IsScheduleFault : Option (List ℕ) → JobWordFault → Type 0
IsScheduleFault word (word_fault.Source told) = ⊥
IsScheduleFault word word_fault.Buffer = ⊥
IsScheduleFault word word_fault.Schedule = schedule_by word ≡ None

abbrev pub IsSourceUsage : List ℕ → Usage → Type 0
IsSourceUsage word = IsWordUsageBy (IsSourceFault word)

abbrev pub IsWordsUsage : List (List ℕ) → Usage → Type 0
IsWordsUsage words = IsWordUsageBy (IsWordsFault words)

abbrev pub IsBufferUsage : Option (List ℕ) → Usage → Type 0
IsBufferUsage word = IsWordUsageBy (IsBufferFault word)

abbrev pub IsScheduleUsage : Option (List ℕ) → Usage → Type 0
IsScheduleUsage word = IsWordUsageBy (IsScheduleFault word)
