-- What admission checks of a job.
use Rattle.std.specs.Prelude.{◌≡◌, ℕ, ◌≤◌, List, length, slice_get, Some}
use Rattle.machine_model.specs.Limits.{max_credit, max_part}
use Rattle.helpers.specs.Table.{job_table}
use Rattle.verifier.specs.Checked.{Checked, cost_at}

-- a job's programs, credit and buffer
pub record AdmittedJob : Type 0 where
  pub programs : List Checked
  pub credit : ℕ
  pub buffer : List ℕ

-- each program was verified for a job's helpers
abbrev pub AreOwn : List Checked → Type 0
AreOwn programs = (n : ℕ) (p : Checked) → slice_get programs n ≡ Some p → p.helpers ≡ job_table

-- the limits are kept, the programs may call a job's helpers alone, and the credit and the buffer
-- cover the root
pub record IsAdmitted (order : AdmittedJob) : Type 0 where
  pub few : length order.programs ≤ 16
  pub limit : order.credit ≤ max_credit
  pub small : length order.buffer ≤ max_part
  pub own : AreOwn order.programs
  pub root : Checked
  pub is_root : slice_get order.programs 0 ≡ Some root
  pub cost : cost_at root 0 ≤ order.credit
  pub need : root.need ≤ length order.buffer
