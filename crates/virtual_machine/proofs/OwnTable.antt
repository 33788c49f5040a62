-- A program that may call a job's helpers alone calls no helper of a caller's.
use Rattle.std.proofs.Common.{◌≡◌, ℕ, zero, suc, ◌<◌, ◌≤◌, ◌-◌, arith, Bool, true, false, Some, None, nat_lt, if◌then◌else◌, Option}
use Rattle.std.specs.Prelude.{slice_index_or}
use Rattle.machine_model.proofs.OwnHelpers.{HasOwnHelpers}
use Rattle.helpers.specs.Table.{job_table, own_arity}
use Rattle.verifier.specs.Checked.{Checked, program_of}

own_id : (id arity : ℕ) → own_arity id ≡ Some arity → (0 < id) × (id ≤ 5)
own_id zero arity is = cc
own_id (suc zero) arity is = (omega arith, omega arith)
own_id (suc (suc zero)) arity is = (omega arith, omega arith)
own_id (suc (suc (suc zero))) arity is = (omega arith, omega arith)
own_id (suc (suc (suc (suc zero)))) arity is = (omega arith, omega arith)
own_id (suc (suc (suc (suc (suc zero))))) arity is = (omega arith, omega arith)
own_id (suc (suc (suc (suc (suc (suc n)))))) arity is = cc

own_by : (id arity : ℕ) (b : Bool) →
    (if◌then◌else◌ {A = Option ℕ} b (own_arity id) (slice_index_or job_table (id - 64) None)) ≡ Some arity → (0 < id) × (id ≤ 5)
own_by id arity true is = own_id id arity is
own_by id arity false is = cc

pub own_table : (p : Checked) → p.helpers ≡ job_table → HasOwnHelpers (program_of p)
own_table p e = rw e (λ id arity is. own_by id arity (nat_lt id 64) is)
