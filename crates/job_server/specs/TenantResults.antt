-- Histories of a server whose tenants have doors of their own.
use Rattle.std.specs.Prelude.{◌≡◌, ◌≤◌, ◌+◌, ℕ, List, [], Some, length, slice_get}
use Rattle.accounts.specs.declared.keep_limits.KeepLimits.{KeepLimits}
use Rattle.accounts.specs.Ledgers.{Ledger}
use Rattle.shared_desk.specs.Histories.{HistoryEntry}
use Rattle.tenant_desks.specs.Tenancies.{Tenancy}
use Rattle.tenant_desks.specs.Answering.{KeptRunner}
use Rattle.tenant_desks.specs.Alone.{IsTenantHistory}
use Rattle.job_pools.specs.declared.limited_runner.LimitedRunner.{LimitedRunner}
use Rattle.job_pools.specs.LineBounded.{looks_by_line, starts_by_line, takes_by_line}
use Rattle.job_pools.specs.declared.line_limited_runner.LineLimitedRunner.{LineLimitedRunner}
use Rattle.job_pools.specs.Bounded.{looks_within, starts_within, takes_within}
use Rattle.job_pools.specs.Holds.{StartsBy, TellsBy, TakesBy}
use Rattle.job_pools.specs.Started.{pooled_at, pooled_count}
use Rattle.job_server.specs.AtOnce.{Pool}

-- a history that a server of tenants of these names may have, from desks on that have no job, each of
-- which keeps so many reports, whatever its limits are
pub record IsTenantHostHistory (keep : KeepLimits) (names : List (List ℕ))
    (history : List HistoryEntry) : Type 0 where
  pub few : length names ≤ 256
  pub firsts : List Ledger
  pub as_many : length firsts ≡ length names + 1
  pub no_job : (place : ℕ) (first : Ledger) → slice_get firsts place ≡ Some first
      → first.jobs ≡ []
  pub end : Tenancy × KeptRunner (LineLimitedRunner (LimitedRunner Pool))
  pub legal : IsTenantHistory
      (starts_by_line (starts_within pooled_count (StartsBy pooled_at pooled_count)))
      (looks_by_line (looks_within (TellsBy pooled_at pooled_count)))
      (takes_by_line (takes_within (TakesBy pooled_at pooled_count))) names firsts keep history end
