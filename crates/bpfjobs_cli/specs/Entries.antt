-- One text more: it is taken, or refused.
use Rattle.std.specs.Prelude.{◌≡◌, ◌++◌, ℕ, List, Some, None, string_bytes}
use Rattle.bpfjobs_cli.specs.declared.commands.Usage.{Usage}
use Rattle.bpfjobs_cli.specs.declared.commands.Usage.TheVariants as usage
use Rattle.bpfjobs_cli.specs.declared.tenants.EntryFault.{EntryFault}
use Rattle.bpfjobs_cli.specs.declared.tenants.EntryFault.TheVariants as entry
use Rattle.bpfjobs_cli.specs.declared.tenant_socket.WrongTenant.{WrongTenant}
use Rattle.bpfjobs_cli.specs.declared.tenant_socket.WrongTenant.TheVariants as wrong
use Rattle.bpfjobs_cli.specs.TenantLines.{SaidText}
use Rattle.bpfjobs_cli.specs.Tenants.{IsWrongWord, NamedTenant, fault_said, tenants_of}

-- the tenants, and the one that is said, if one is
pub record TakesSaid (before : List NamedTenant) (said : SaidText) (after : List NamedTenant) :
    Type 0 where
  pub faultless : fault_said before said ≡ None
  pub more : after ≡ before ++ tenants_of said

-- what is said is wrong, or there is no memory
abbrev pub RefusesSaid : List NamedTenant → SaidText → EntryFault → Type 0
RefusesSaid before said (entry.Wrong f) = fault_said before said ≡ Some f
RefusesSaid before said entry.NoMemory = Unit {0}

-- the refusal of a line
abbrev pub wrong_at : ℕ → EntryFault → WrongTenant
wrong_at n (entry.Wrong f) = wrong.At n f
wrong_at n entry.NoMemory = wrong.NoMemory

-- the refusal of a word
abbrev pub TellsWord : List ℕ → EntryFault → Usage → Type 0
TellsWord word e (usage.Refused error) = ⊥
TellsWord word e (usage.Endpoint fault) = ⊥
TellsWord word e (usage.Tenant told f) = (string_bytes told ≡ word) × (e ≡ entry.Wrong f)
TellsWord word e (usage.Ask fault) = ⊥
TellsWord word e (usage.Job fault) = ⊥
TellsWord word e usage.TwoInputs = ⊥
TellsWord word e usage.NoMemory = Unit {0}

-- a word is wrong, or there is no memory
abbrev pub IsWordUsage : List (List ℕ) → Usage → Type 0
IsWordUsage words (usage.Refused error) = ⊥
IsWordUsage words (usage.Endpoint fault) = ⊥
IsWordUsage words (usage.Tenant word f) = IsWrongWord words (string_bytes word) f
IsWordUsage words (usage.Ask fault) = ⊥
IsWordUsage words (usage.Job fault) = ⊥
IsWordUsage words usage.TwoInputs = ⊥
IsWordUsage words usage.NoMemory = Unit {0}
