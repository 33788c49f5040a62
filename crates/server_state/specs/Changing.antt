-- What changes make of desks.
use Rattle.std.specs.Prelude.{◌≡◌, ◌+◌, ℕ, List, [], ◌∷◌, ◌++◌, length, slice_get, slice_set, Option, Some, None, true, option_map, string_bytes}
use Rattle.job_core.specs.Admission.{IsAdmittedFrom}
use Rattle.job_core.specs.Admitted.{AdmittedJob}
use Rattle.accounts.specs.Ledgers.{Ledger, Finishes, Forgets, GrantsMore, Takes, granted_to, past_of, spent_by_jobs}
use Rattle.sessions.specs.JobKeys.{noted}
use Rattle.sessions.specs.declared.job_key.KeyedJob.{KeyedJob}
use Rattle.server_state.specs.declared.change.DeskChange.{DeskChange}
use Rattle.server_state.specs.declared.change.DeskChange.TheVariants.{Granted, Taken, Settled, Forgotten}
use Rattle.server_state.specs.declared.change.ChangeSink.{Ghosts}
use Rattle.server_state.specs.States.{DeskState}

abbrev pub desk_of : DeskChange → ℕ
desk_of (Granted desk tenant amount) = desk
desk_of (Taken desk tenant key programs credit buffer) = desk
desk_of (Settled id outcome) = id.desk
desk_of (Forgotten desk ahead) = desk

-- the keyed job of a desk's last one, if it came by a key
abbrev pub last_keyed : Option (List ℕ) → Ledger → List KeyedJob
last_keyed None ledger = []
last_keyed (Some key) ledger = record { job = length ledger.jobs; key = key } ∷ []

-- the keys that are remembered behind these keyed jobs, in order
abbrev pub noted_each : List KeyedJob → List KeyedJob → List KeyedJob
noted_each keys [] = keys
noted_each keys (k ∷ more) = noted_each (noted keys k.job k.key) more

-- a tenant to whom nothing was granted yet has spent nothing
abbrev pub SpentNothing : Ledger → List ℕ → Type 0
SpentNothing ledger name = granted_to ledger name ≡ None
    → past_of ledger name + spent_by_jobs ledger.jobs name ≡ 0

-- what a change makes of its desk
abbrev pub Makes : DeskChange → DeskState → DeskState → Type 0
Makes (Granted desk tenant amount) old new =
    GrantsMore old.ledger (string_bytes tenant) amount new.ledger × (new.keys ≡ old.keys)
    × SpentNothing old.ledger (string_bytes tenant)
Makes (Taken desk tenant key programs credit buffer) old new =
    Takes old.ledger (string_bytes tenant) credit new.ledger
    × ((job : AdmittedJob) × IsAdmittedFrom programs.items credit buffer.items job)
    × (new.keys ≡ noted_each old.keys (last_keyed (option_map string_bytes key) new.ledger))
Makes (Settled id outcome) old new =
    Finishes old.ledger id.number outcome new.ledger × (new.keys ≡ old.keys)
Makes (Forgotten desk ahead) old new =
    Forgets old.ledger ahead new.ledger × (new.keys ≡ old.keys)

-- changes of the desk at this place lead from one state of it to another
pub data Leads (place : ℕ) (old : DeskState) : List DeskChange → DeskState → Type 0 where
  no_change : Leads place old [] old
  one_change : (changes : List DeskChange) (mid : DeskState) (c : DeskChange) (new : DeskState)
      → Leads place old changes mid → desk_of c ≡ place → Makes c mid new
      → Leads place old (changes ++ c ∷ []) new

-- changes lead from these desks to those
pub data LeadAll (old : List DeskState) : List DeskChange → List DeskState → Type 0 where
  no_change : LeadAll old [] old
  one_change : (changes : List DeskChange) (desks : List DeskState) (c : DeskChange) (mid new : DeskState)
      → LeadAll old changes desks → slice_get desks (desk_of c) ≡ Some mid → Makes c mid new
      → LeadAll old (changes ++ c ∷ []) (slice_set desks (desk_of c) new)

abbrev pub desk_with : Ledger → List KeyedJob → DeskState
desk_with ledger keys = record { ledger = ledger; keys = keys }

-- the change at a place makes the one ledger of the other, with these keyed jobs, whatever keys were
-- remembered
abbrev pub MakesAt : ℕ → DeskChange → Ledger → Ledger → List KeyedJob → Type 0
MakesAt place c old new keyed =
    (desk_of c ≡ place)
    × ((keys : List KeyedJob) → Makes c (desk_with old keys) (desk_with new (noted_each keys keyed)))

module _ {C : Type 0} (g : Ghosts C) where
  -- What was added leads from one ledger of the desk at a place to another, with these keyed jobs,
  -- whatever keys were remembered.
  pub record AddsChanges (place : ℕ) (before after : C) (old new : Ledger)
      (keyed : List KeyedJob) : Type 0 where
    pub changes : List DeskChange
    pub leads : (keys : List KeyedJob)
        → Leads place (desk_with old keys) changes (desk_with new (noted_each keys keyed))
    pub added : g.added after ≡ g.added before ++ changes

  -- The same, unless a change is missing.
  pub record Records (place : ℕ) (before after : C) (old new : Ledger) (keyed : List KeyedJob) :
      Type 0 where
    pub sound : g.sound after ≡ true → g.sound before ≡ true
    pub adds : g.sound after ≡ true → AddsChanges place before after old new keyed

  -- What was added leads from these desks to those.
  pub record AddsAll (before after : C) (old new : List DeskState) : Type 0 where
    pub changes : List DeskChange
    pub lead : LeadAll old changes new
    pub added : g.added after ≡ g.added before ++ changes

  -- The same, unless a change is missing.
  pub record RecordsAll (before after : C) (old new : List DeskState) : Type 0 where
    pub sound : g.sound after ≡ true → g.sound before ≡ true
    pub adds : g.sound after ≡ true → AddsAll before after old new
