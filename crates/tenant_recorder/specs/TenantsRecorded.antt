-- Answers at the desks of tenants, with a record of what changes each desk.
use Rattle.accounts.specs.declared.keep_limits.KeepLimits.{KeepLimits}
use Rattle.std.specs.Prelude.{ℕ, List, Option, Result}
use Rattle.credit_book.specs.declared.book.Report.{Report}
use Rattle.credit_book.specs.declared.board.Progress.{Progress}
use Rattle.job_core.specs.Admitted.{AdmittedJob}
use Rattle.shared_desk.specs.declared.door.Door.{Door}
use Rattle.shared_desk.specs.Histories.{Query}
use Rattle.tenant_desks.specs.Tenancies.{Tenancy}
use Rattle.tenant_desks.specs.Answering.{KeptRunner, named_answers}
use Rattle.tenant_desks.specs.AtDoors.{BehindDoors, answers_at_doors}
use Rattle.tenant_desks.specs.OwnNamed.{answers_own_named}
use Rattle.desk_recorder.specs.declared.recorder.ChangeRecorder.{ChangeRecorder}
use Rattle.tenant_recorder.specs.Recorders.{AreRecorded, HaveForgotten, TakesKeyed}

-- what contracts see of the handler: the runner of all jobs, how many jobs each desk keeps, and the
-- recorders of the desks, in order
pub record RecordedRunner (R Q : Type 0) : Type 0 where
  pub runner : R
  pub keep : KeepLimits
  pub recorders : List (ChangeRecorder Q)

-- the same without the recorders
abbrev pub unrecorded : {R Q : Type 0} → Tenancy × RecordedRunner R Q → Tenancy × KeptRunner R
unrecorded s = (s.0, record { runner = s.1.runner; keep = s.1.keep })

-- each desk has a recorder, and has forgotten what it is to forget, or will with its next answer
abbrev pub AreInStep : {R Q : Type 0} → Tenancy × RecordedRunner R Q → Type 0
AreInStep s = HaveForgotten s.1.keep s.0.desks s.1.recorders

-- A query by names is answered as by the desks and the runner alone, and each desk's recorder takes
-- what changes that desk.
abbrev pub named_answers_recorded : {R Q : Type 0}
    → (R → ℕ → AdmittedJob → Result (Unit {0}) ℕ → R → Type 0) → (R → ℕ → Progress → R → Type 0)
    → (R → Option (ℕ × Result Report ℕ) → R → Type 0) → (Q → List ℕ) → (Q → Type 0)
    → Tenancy × RecordedRunner R Q → Query → List ℕ → Tenancy × RecordedRunner R Q → Type 0
named_answers_recorded starts looks takes taken failed s query reply t =
    (AreInStep s
    → named_answers starts looks takes (unrecorded s) query reply (unrecorded t) × AreInStep t)
    × AreRecorded taken failed s.1.recorders t.1.recorders s.0.desks t.0.desks

-- the record of a job that a door's own desk took has its key
abbrev pub keeps_recorded_key : {R Q : Type 0} → (Q → List ℕ) → (Q → Type 0)
    → Tenancy × RecordedRunner R Q → Door → Option (List ℕ) → Tenancy × RecordedRunner R Q → Type 0
keeps_recorded_key taken failed s door key t =
    TakesKeyed taken failed door key s.1.recorders t.1.recorders s.0.desks t.0.desks

-- The same, where a tenant's name may be left out at its own door.
abbrev pub tenant_answers_recorded : {R Q : Type 0}
    → (R → ℕ → AdmittedJob → Result (Unit {0}) ℕ → R → Type 0) → (R → ℕ → Progress → R → Type 0)
    → (R → Option (ℕ × Result Report ℕ) → R → Type 0) → (Q → List ℕ) → (Q → Type 0)
    → Tenancy × RecordedRunner R Q → Query → List ℕ → Tenancy × RecordedRunner R Q → Type 0
tenant_answers_recorded starts looks takes taken failed =
    answers_own_named (λ s. s.0.names) (named_answers_recorded starts looks takes taken failed)

-- The same, behind doors that hear forms of their own.
abbrev pub door_answers_recorded : {R Q : Type 0}
    → (R → ℕ → AdmittedJob → Result (Unit {0}) ℕ → R → Type 0) → (R → ℕ → Progress → R → Type 0)
    → (R → Option (ℕ × Result Report ℕ) → R → Type 0) → (Q → List ℕ) → (Q → Type 0)
    → Tenancy × BehindDoors (RecordedRunner R Q) → Query → List ℕ
    → Tenancy × BehindDoors (RecordedRunner R Q) → Type 0
door_answers_recorded starts looks takes taken failed =
    answers_at_doors (tenant_answers_recorded starts looks takes taken failed)
    (keeps_recorded_key taken failed)
