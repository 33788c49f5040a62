-- The answers of a handler to tenants that have desks of their own.
use Rattle.std.specs.Prelude.{◌≡◌, ◌≤◌, ◌<◌, ◌⊎◌, ℕ, List, [], length, replicate, Option, Some, None, Result, Ok, Err}
use Rattle.credit_book.specs.declared.book.Report.{Report}
use Rattle.credit_book.specs.declared.board.Progress.{Progress}
use Rattle.job_core.specs.Admitted.{AdmittedJob}
use Rattle.accounts.specs.declared.keep_limits.KeepLimits.{KeepLimits}
use Rattle.accounts.specs.Ledgers.{Ledger, KeepsWithin}
use Rattle.sessions.specs.Grammar.{Asked}
use Rattle.sessions.specs.Replies.{frame_of, reply_data}
use Rattle.sessions.specs.declared.reply.Reply.{Reply}
use Rattle.sessions.specs.declared.reply.Reply.TheVariants.{Refused}
use Rattle.streams.specs.Answering.{Replies}
use Rattle.streams.specs.Passing.{Notes}
use Rattle.shared_desk.specs.Histories.{Query}
use Rattle.tenant_desks.specs.declared.placed_runner.PlacedRunner.{PlacedRunner}
use Rattle.tenant_desks.specs.Placing.{placed}
use Rattle.tenant_desks.specs.PlacedRunners.{starts_placed, looks_placed}
use Rattle.tenant_desks.specs.AtDoors.{BehindDoors, answers_at_doors, keeps_no_key}
use Rattle.tenant_desks.specs.OwnNamed.{answers_own_named}
use Rattle.tenant_desks.specs.Routing.{desk_for}
use Rattle.tenant_desks.specs.Tenancies.{Tenancy, ChangesAt}

-- what contracts see of the handler: the runner of all jobs, and how many jobs each desk keeps
pub record KeptRunner (R : Type 0) : Type 0 where
  pub runner : R
  pub keep : KeepLimits

-- The end of a job is noted at the desk at its place, under its number there. It is passed over
-- where that desk doesn't have the job open, or where there is no such desk.
pub record NotesAtPlace (old : List Ledger) (number : ℕ) (outcome : Result Report ℕ)
    (new : List Ledger) : Type 0 where
  pub own : ℕ
  pub place : ℕ
  pub is : number ≡ placed own place
  pub small : place < 1000
  pub noted : ChangesAt place (λ before after. Notes before own outcome after) old new
      ⊎ ((length old ≤ place) × (new ≡ old))

-- ends of jobs are taken and noted one after the other
pub data EndsTaken {R : Type 0} (takes : R → Option (ℕ × Result Report ℕ) → R → Type 0)
    (desks : List Ledger) (runner : R) : List Ledger → R → Type 0 where
  none_yet : EndsTaken takes desks runner desks runner
  one_more : (ds : List Ledger) (r : R) (number : ℕ) (outcome : Result Report ℕ) (s : R)
      (es : List Ledger)
      → EndsTaken takes desks runner ds r → takes r (Some (number, outcome)) s
      → NotesAtPlace ds number outcome es → EndsTaken takes desks runner es s

-- until none is left
pub record PassesEnds {R : Type 0} (takes : R → Option (ℕ × Result Report ℕ) → R → Type 0)
    (desks : List Ledger) (runner : R) (after : List Ledger) (left : R) : Type 0 where
  pub last : R
  pub taken : EndsTaken takes desks runner after last
  pub none_left : takes last None left

-- the frame of a refusal that has a number alone
abbrev pub refusal_frame : ℕ → List ℕ
refusal_frame code = frame_of (Refused code None None)

-- What is asked is answered at one desk by a runner, as if there were no other desk, and then the
-- desk forgets.
pub record AnswersAlone {P : Type 0} (starts : P → ℕ → AdmittedJob → Result (Unit {0}) ℕ → P
    → Type 0) (looks : P → ℕ → Progress → P → Type 0) (keep : KeepLimits) (runner left : P)
    (query : Result Asked ℕ) (reply : List ℕ) (before after : Ledger) : Type 0 where
  pub mid : Ledger
  pub told : Reply
  pub replies : Replies starts looks before runner query (reply_data told) mid left
  pub frame : reply ≡ frame_of told
  pub keeps : KeepsWithin keep mid after

-- the runner of all jobs, for the desk at a place
abbrev pub for_place : {R : Type 0} → ℕ → R → PlacedRunner R
for_place place runner = record { runner = runner; place = place }

-- The desk that a query goes to answers it, and no other desk changes. A query that goes nowhere is
-- told why, and nothing changes.
abbrev pub AnswersWhere : {R : Type 0} → (R → ℕ → AdmittedJob → Result (Unit {0}) ℕ → R → Type 0)
    → (R → ℕ → Progress → R → Type 0) → KeepLimits → Result ℕ ℕ → Result Asked ℕ → List Ledger
    → R → List ℕ → List Ledger → R → Type 0
AnswersWhere starts looks keep (Err code) query desks runner reply after left =
    (reply ≡ refusal_frame code) × (after ≡ desks) × (left ≡ runner)
AnswersWhere starts looks keep (Ok place) query desks runner reply after left =
    ChangesAt place
    (AnswersAlone (starts_placed starts) (looks_placed looks) keep (for_place place runner)
    (for_place place left) query reply)
    desks after

-- Every finished job is passed to its own desk, and then a query is answered at the desk that it
-- goes to.
pub record DeskAnswer {R : Type 0} (starts : R → ℕ → AdmittedJob → Result (Unit {0}) ℕ → R
    → Type 0) (looks : R → ℕ → Progress → R → Type 0)
    (takes : R → Option (ℕ × Result Report ℕ) → R → Type 0) (keep : KeepLimits) (place : Result ℕ ℕ)
    (query : Result Asked ℕ) (desks : List Ledger) (runner : R) (reply : List ℕ)
    (after : List Ledger) (left : R) : Type 0 where
  pub mid : List Ledger
  pub rest : R
  pub passed : PassesEnds takes desks runner mid rest
  pub answered : AnswersWhere starts looks keep place query mid rest reply after left

-- The answers at the desks of tenants, which are asked by names, by a runner that all share.
abbrev pub named_answers : {R : Type 0} → (R → ℕ → AdmittedJob → Result (Unit {0}) ℕ → R
    → Type 0) → (R → ℕ → Progress → R → Type 0) → (R → Option (ℕ × Result Report ℕ) → R → Type 0)
    → Tenancy × KeptRunner R → Query → List ℕ → Tenancy × KeptRunner R → Type 0
named_answers starts looks takes s query reply t =
    DeskAnswer starts looks takes s.1.keep (desk_for s.0.names query.passage query.asked)
    query.asked s.0.desks s.1.runner reply t.0.desks t.1.runner
    × (t.0.names ≡ s.0.names) × (t.1.keep ≡ s.1.keep)

-- The same, where a tenant's name may be left out at its own door.
abbrev pub tenant_answers : {R : Type 0} → (R → ℕ → AdmittedJob → Result (Unit {0}) ℕ → R
    → Type 0) → (R → ℕ → Progress → R → Type 0) → (R → Option (ℕ × Result Report ℕ) → R → Type 0)
    → Tenancy × KeptRunner R → Query → List ℕ → Tenancy × KeptRunner R → Type 0
tenant_answers starts looks takes =
    answers_own_named (λ s. s.0.names) (named_answers starts looks takes)

-- The same, behind doors that hear forms of their own.
abbrev pub door_answers : {R : Type 0} → (R → ℕ → AdmittedJob → Result (Unit {0}) ℕ → R
    → Type 0) → (R → ℕ → Progress → R → Type 0) → (R → Option (ℕ × Result Report ℕ) → R → Type 0)
    → Tenancy × BehindDoors (KeptRunner R) → Query → List ℕ
    → Tenancy × BehindDoors (KeptRunner R) → Type 0
door_answers starts looks takes =
    answers_at_doors (tenant_answers starts looks takes) keeps_no_key

-- A server with doors begins at these desks, with these limits of what they keep, and its doors
-- remember no key.
abbrev pub BeginsAtDoors : {R : Type 0} → List (List ℕ) → List Ledger → KeepLimits
    → Tenancy × BehindDoors (KeptRunner R) → Type 0
BeginsAtDoors names firsts keep s =
    (s.0 ≡ record { names = names; desks = firsts }) × (s.1.handler.keep ≡ keep)
    × (s.1.keys ≡ replicate (length firsts) [])
