-- A job's programs call no helper of a caller's.
use Rattle.std.proofs.Common.{◌≡◌, ℕ, zero, suc, ◌<◌, ◌≤◌, ◌-◌, List, arith, Bool, true, false, Some, None, nat_lt, Result, if◌then◌else◌, Option}
use Rattle.std.specs.Prelude.{slice_index_or}
use Rattle.machine_model.specs.Machine.{Effect, Continues, Ends, Spawns, Calls, Traps}
use Rattle.machine_model.proofs.OwnHelpers.{IsOwn, HasOwnHelpers}
use Rattle.helpers.specs.Piece.{Piece}
use Rattle.helpers.specs.Table.{job_table, own_arity}
use Rattle.helpers.specs.declared.spawner.SpawnRecord.{SpawnRecord}
use Rattle.verifier.specs.Checked.{Checked, program_of}
use Rattle.interpreter.specs.declared.frame.Frame.{Frame}
use Rattle.interpreter.specs.declared.credit.Credit.{Credit}
use Rattle.interpreter.specs.declared.frame.StepOut.{StepOut}
use Rattle.interpreter.specs.declared.frame.StepOut.TheVariants.{Went, Ended}
use Rattle.interpreter.specs.Representation.{StepEffect}

own_id : (id arity : ℕ) → own_arity id ≡ Some arity → (0 < id) × (id ≤ 5)
own_id zero arity is = cc
own_id (suc zero) arity is = (omega arith, omega arith)
own_id (suc (suc zero)) arity is = (omega arith, omega arith)
own_id (suc (suc (suc zero))) arity is = (omega arith, omega arith)
own_id (suc (suc (suc (suc zero)))) arity is = (omega arith, omega arith)
own_id (suc (suc (suc (suc (suc zero))))) arity is = (omega arith, omega arith)
own_id (suc (suc (suc (suc (suc (suc n)))))) arity is = cc

own_by : (id arity : ℕ) (b : Bool) →
    (if◌then◌else◌ {A = Option ℕ} b (own_arity id) (slice_index_or job_table (id - 64) None)) ≡ Some arity → (0 < id) × (id ≤ 5)
own_by id arity true is = own_id id arity is
own_by id arity false is = cc

-- no helper of a caller's is called
abbrev pub nobody : ℕ → List ℕ → ℕ → Type 0
nobody helper arguments answer = ⊥

-- a program that may call a job's helpers alone
pub own_table : (p : Checked) → p.helpers ≡ job_table → HasOwnHelpers (program_of p)
own_table p e = rw e (λ id arity is. own_by id arity (nat_lt id 64) is)

-- what its step did
pub own_did : (p : Checked) (e : Effect) (out : StepOut) (frame : Frame) (part : Piece) (credit : Credit) (silent : Type 0)
    (told : SpawnRecord → Result (Unit {0}) SpawnRecord → Type 0) (called : ℕ → List ℕ → ℕ → Type 0) → IsOwn e →
    StepEffect p e out frame part credit silent told called → StepEffect p e out frame part credit silent told nobody
own_did p (Continues s) Went frame part credit silent told called own d = d
own_did p (Continues s) (Ended word) frame part credit silent told called own d = d
own_did p (Ends r0 s) Went frame part credit silent told called own d = d
own_did p (Ends r0 s) (Ended word) frame part credit silent told called own d = d
own_did p (Spawns birth taken refused) Went frame part credit silent told called own d = d
own_did p (Spawns birth taken refused) (Ended word) frame part credit silent told called own d = d
own_did p (Calls helper arguments s) out frame part credit silent told called own d = absurd own
own_did p (Traps trap) out frame part credit silent told called own d = d
