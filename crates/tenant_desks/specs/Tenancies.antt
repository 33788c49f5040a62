-- Desks of many tenants, each with its own.
use Rattle.std.specs.Prelude.{◌≡◌, ℕ, List, [], ◌∷◌, map, slice_get, slice_set, Option, Some, None}
use Rattle.accounts.specs.Ledgers.{Ledger, GrantsMore}

-- The names of the tenants that have a desk of their own, and the desks: first that of everybody
-- else, and behind it one for each name.
pub record Tenancy : Type 0 where
  pub names : List (List ℕ)
  pub desks : List Ledger

-- a desk that nobody was granted anything on, and that has no job
abbrev pub fresh_desk : Ledger
fresh_desk = record { grants = []; past = []; jobs = [] }

-- a desk on which nothing happened but that its tenant was granted this credit, if it was
abbrev pub IsFirstDesk : List ℕ → Option ℕ → Ledger → Type 0
IsFirstDesk name None desk = desk ≡ fresh_desk
IsFirstDesk name (Some credit) desk = GrantsMore fresh_desk name credit desk

-- the first desks of these tenants, each with its credit
abbrev pub AreFirstDesks : List (List ℕ × Option ℕ) → List Ledger → Type 0
AreFirstDesks [] [] = Unit {0}
AreFirstDesks [] (desk ∷ desks) = ⊥
AreFirstDesks (tenant ∷ tenants) [] = ⊥
AreFirstDesks (tenant ∷ tenants) (desk ∷ desks) =
    IsFirstDesk tenant.0 tenant.1 desk × AreFirstDesks tenants desks

-- the desks of these tenants as they begin, behind a new one for everybody else
pub record IsFirstTenancy (tenants : List (List ℕ × Option ℕ)) (t : Tenancy) : Type 0 where
  pub names : t.names ≡ map (λ x. x.0) tenants
  pub firsts : List Ledger
  pub granted : AreFirstDesks tenants firsts
  pub desks : t.desks ≡ fresh_desk ∷ firsts

-- the desk at a place changes so, and no other
pub record ChangesAt (place : ℕ) (change : Ledger → Ledger → Type 0) (old new : List Ledger) :
    Type 0 where
  pub before : Ledger
  pub was : slice_get old place ≡ Some before
  pub after : Ledger
  pub changed : change before after
  pub is : new ≡ slice_set old place after
