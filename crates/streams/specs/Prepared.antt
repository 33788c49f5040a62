-- Requests whose jobs are admitted ahead of the desk.
use Rattle.std.specs.Prelude.{◌≤◌, ℕ, List, Option, Some, None, Result, Ok}
use Rattle.accounts.specs.Ledgers.{Ledger, HasBalance}
use Rattle.sessions.specs.Grammar.{Asked, submit}
use Rattle.streams.specs.Hearing.{query_of}
use Rattle.streams.specs.declared.prepared_request.PreparedRequest.{PreparedRequest}
use Rattle.streams.specs.declared.prepared_request.PreparedRequest.TheVariants.{AsItCame, Submit}

-- what a request asks, or the number of the refusal
abbrev pub asked_of : PreparedRequest → Result Asked ℕ
asked_of (AsItCame request) = query_of request
asked_of (Submit asked) = Ok asked

-- the tenant who asks for a job
abbrev pub submitter_of : Asked → Option (List ℕ)
submitter_of (submit name order) = Some name
submitter_of other = None

-- a tenant's balance covers so much credit
abbrev pub CoversCredit : Ledger → List ℕ → ℕ → Type 0
CoversCredit desk name credit =
    (balance : ℕ) × HasBalance desk name balance × (credit ≤ balance)

-- a job is asked for whose credit its tenant's balance covers
abbrev pub IsWithinBalance : Ledger → Asked → Type 0
IsWithinBalance desk (submit name order) = CoversCredit desk name order.credit
IsWithinBalance desk other = ⊥
