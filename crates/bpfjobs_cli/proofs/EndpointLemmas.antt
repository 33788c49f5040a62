-- The refusal of words that clap takes, and that say no command.
use Rattle.std.proofs.Common.{◌≡◌, ◌∙◌, List, [], Some, ap}
use Rattle.clap.specs.Faults.{fault_of}
use Rattle.clap.specs.Words.{Row, Text, subcommand_of}
use Rattle.bpfjobs_cli.specs.declared.commands.Usage.{Usage}
use Rattle.bpfjobs_cli.specs.declared.commands.Usage.TheVariants as usage
use Rattle.bpfjobs_cli.specs.Program.{bpfjobs_app}
use Rattle.bpfjobs_cli.specs.Commands.{IsCommandUsage, IsUsage}

pub command_usage : (words : List Text) (name : Text) (rows : List Row) (u : Usage) → fault_of bpfjobs_app words ≡ [] → subcommand_of bpfjobs_app words ≡ Some (name, rows)
    → IsCommandUsage name rows u → IsUsage u words
command_usage words name rows (usage.Refused error) none found refused = absurd refused
command_usage words name rows (usage.Endpoint fault) none found refused = (none, rows, found ∙ ap (λ (n : Text). Some (n, rows)) refused.0, refused.1)
command_usage words name rows (usage.Tenant word fault) none found refused = (none, rows, found ∙ ap (λ (n : Text). Some (n, rows)) refused.0, refused.1)
command_usage words name rows (usage.Ask fault) none found refused = (none, rows, found ∙ ap (λ (n : Text). Some (n, rows)) refused.0, refused.1)
command_usage words name rows (usage.Job fault) none found refused = (none, rows, found ∙ ap (λ (n : Text). Some (n, rows)) refused.0, refused.1)
command_usage words name rows usage.TwoInputs none found refused = (none, rows, found ∙ ap (λ (n : Text). Some (n, rows)) refused.0, refused.1)
command_usage words name rows usage.NoMemory none found refused = tt
