-- What is answered to what a payload asks is answered to the payload.
use Rattle.std.proofs.Common.{ℕ, List, Result, Ok, Err, Vec, Global, inr}
use Rattle.std.specs.Prelude.{IfOk, OnErr}
use Rattle.refusal.specs.declared.NoMemory.{NoMemory}
use Rattle.sessions.specs.Grammar.{Asked}
use Rattle.sessions.specs.OwnNames.{HearsBy}
use Rattle.sessions.specs.declared.tenant_key.TenantKey.TheVariants.{Required}
use Rattle.sessions.proofs.Naming.{plain_hearing}
use Rattle.streams.specs.Hearing.{by_reading}
use Rattle.streams.specs.Unanswered.{IsUnanswered}

pub read_ok : {S : Type 0} (answers : S → Result Asked ℕ → List ℕ → S → Type 0) (r : Result (Vec ℕ Global) NoMemory) (s t : S) (payload : List ℕ) (query : Result Asked ℕ) → HearsBy Required payload query
    → IfOk r (λ reply. answers s query reply.items t) → IfOk r (λ reply. by_reading answers s payload reply.items t)
read_ok answers (Ok reply) s t payload query heard answer = (query, plain_hearing payload query heard, answer)
read_ok answers (Err none) s t payload query heard answer = tt

pub read_err : {S : Type 0} (answers : S → Result Asked ℕ → List ℕ → S → Type 0) (r : Result (Vec ℕ Global) NoMemory) (s t : S) (payload : List ℕ) (query : Result Asked ℕ) → HearsBy Required payload query
    → OnErr r ((reply : List ℕ) × answers s query reply t) → OnErr r (IsUnanswered (by_reading answers) s payload t)
read_err answers (Ok reply) s t payload query heard lost = tt
read_err answers (Err none) s t payload query heard lost = inr (lost.0, (query, plain_hearing payload query heard, lost.1))
