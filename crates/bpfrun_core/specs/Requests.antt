-- The request that a program's matches are.
use Rattle.std.specs.Prelude.{◌≡◌, ◌↔◌, ℕ, IsTrue, List, codes, Option, Some, option_map, true}
use Rattle.machine_model.specs.Limits.{max_credit}
use Rattle.clap.specs.Faults.{fault_of}
use Rattle.clap.specs.Words.{HasKind, Row, Text, first_of, kind_of, takes}
use Rattle.clap.specs.declared.error.kind.ErrorKind.TheVariants.{OutOfMemory}
use Rattle.bpfjobs_cli.specs.Commands.{IsMaybeNumber, IsNumberIn}
use Rattle.bpfjobs_cli.specs.declared.commands.Usage.{Usage}
use Rattle.bpfjobs_cli.specs.declared.commands.Usage.TheVariants as usage
use Rattle.bpfrun_core.specs.Program.{bpfrun_app}
use Rattle.bpfrun_core.specs.declared.arguments.RunArguments.{RunArguments}

-- each of its parts is the value of its argument
pub record IsRequestOf (rows : List Row) (request : RunArguments) : Type 0 where
  pub file : first_of (codes "file") rows ≡ Some request.file.now
  pub memory : first_of (codes "memory") rows ≡ option_map (λ path. path.now) request.memory
  pub need : IsMaybeNumber rows (codes "need") 0 4294967295 request.need
  pub credit : IsNumberIn rows (codes "credit") 0 max_credit request.credit
  pub arg : IsNumberIn rows (codes "arg") 0 18446744073709551615 request.arg
  pub traces : IsTrue request.traces ↔ (first_of (codes "trace") rows ≡ Some (codes "true"))
  pub trace_json : first_of (codes "trace-json") rows
      ≡ option_map (λ path. path.now) request.trace_json
  pub explains : IsTrue request.explains ↔ (first_of (codes "explain") rows ≡ Some (codes "true"))
  pub explains_all : IsTrue request.explains_all
      ↔ (first_of (codes "explain-all") rows ≡ Some (codes "true"))
  pub draws : IsTrue request.draws ↔ (first_of (codes "graph") rows ≡ Some (codes "true"))

-- they are those of a request
pub record SaysRequest (rows : List Row) : Type 0 where
  pub file : (path : Text) × (first_of (codes "file") rows ≡ Some path)
  pub need : (number : Option ℕ) × IsMaybeNumber rows (codes "need") 0 4294967295 number
  pub credit : (number : ℕ) × IsNumberIn rows (codes "credit") 0 max_credit number
  pub arg : (number : ℕ) × IsNumberIn rows (codes "arg") 0 18446744073709551615 number

-- Words that clap takes are refused for want of memory alone. Any others are refused for that, or
-- for a fault that clap finds in them.
abbrev pub IsBpfrunUsage : Usage → List Text → Type 0
IsBpfrunUsage (usage.Refused error) words =
    (takes bpfrun_app words ≡ true → kind_of error ≡ OutOfMemory)
    × HasKind (fault_of bpfrun_app words) error
IsBpfrunUsage (usage.Endpoint fault) words = ⊥
IsBpfrunUsage (usage.Tenant word fault) words = ⊥
IsBpfrunUsage (usage.Ask fault) words = ⊥
IsBpfrunUsage (usage.Job fault) words = ⊥
IsBpfrunUsage usage.TwoInputs words = ⊥
IsBpfrunUsage usage.NoMemory words = Unit {0}
