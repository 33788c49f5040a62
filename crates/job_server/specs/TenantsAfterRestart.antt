-- Histories of a server whose tenants have doors of their own, and which goes on from their journals.
use Rattle.std.specs.Prelude.{◌≡◌, List, map}
use Rattle.accounts.specs.Ledgers.{Ledger}
use Rattle.desk_journal.specs.DeskSteps.{DeskState}
use Rattle.shared_desk.specs.Histories.{HistoryEntry, Replays}
use Rattle.tenant_desks.specs.Answering.{KeptRunner, named_answers}
use Rattle.tenant_desks.specs.Tenancies.{Tenancy}
use Rattle.tenant_recorder.specs.TenantCredits.{AreCredited}
use Rattle.tenant_recorder.specs.TenantRestarts.{RestartsEach}
use Rattle.job_pools.specs.Bounded.{looks_within, starts_within, takes_within}
use Rattle.job_pools.specs.Holds.{StartsBy, TellsBy, TakesBy}
use Rattle.job_pools.specs.LineBounded.{looks_by_line, new_by_line, starts_by_line, takes_by_line}
use Rattle.job_pools.specs.Started.{pooled_at, pooled_count}
use Rattle.job_pools.specs.declared.limited_runner.LimitedRunner.{LimitedRunner}
use Rattle.job_pools.specs.declared.line_limited_runner.LineLimitedRunner.{LineLimitedRunner}
use Rattle.job_server.specs.AtOnce.{Pool}
use Rattle.job_server.specs.TenantLimits.{door_limits}
use Rattle.job_server.specs.TenantRecorded.{open_jobs_of}
use Rattle.job_server.specs.TenantServing.{door_credits, door_names}
use Rattle.job_server.specs.declared.bounds.Bounds.{Bounds}
use Rattle.job_server.specs.declared.tenant_door.TenantDoor.{TenantDoor}

-- A history, by what the desks were asked by name, that such a server within these bounds may have.
-- It begins at recovered desks, where each tenant has its first credit, and each of whose open jobs
-- was started again, once and in order.
pub record IsRecoveredTenantHistory (states : List DeskState) (doors : List TenantDoor)
    (bounds : Bounds) (history : List HistoryEntry) : Type 0 where
  pub first : Pool
  pub begun : Tenancy × KeptRunner (LineLimitedRunner (LimitedRunner Pool))
  pub granted : List Ledger
  pub credited : AreCredited (door_credits doors) (map (λ (s : DeskState). s.desk) states) granted
  pub started : RestartsEach
      (starts_by_line (starts_within pooled_count (StartsBy pooled_at pooled_count))) granted
      (new_by_line (door_limits bounds.tenant_jobs doors)
      (record { runner = first; limit = bounds.open_jobs }))
      (open_jobs_of states) begun.0.desks begun.1.runner
  pub names : begun.0.names ≡ door_names doors
  pub kept : begun.1.keep ≡ bounds.keep
  pub end : Tenancy × KeptRunner (LineLimitedRunner (LimitedRunner Pool))
  pub legal : Replays
      (named_answers (starts_by_line (starts_within pooled_count (StartsBy pooled_at pooled_count)))
      (looks_by_line (looks_within (TellsBy pooled_at pooled_count)))
      (takes_by_line (takes_within (TakesBy pooled_at pooled_count))))
      (λ s. s ≡ begun) history end
