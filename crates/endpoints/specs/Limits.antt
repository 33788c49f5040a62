-- Limits of time.
use Rattle.std.specs.Prelude.{◌≡◌, ◌<◌, ◌≤◌, ◌+◌, ◌*◌, ◌⊎◌, ℕ, Bool, true, false, min, Option, None, Some, Result, IfErr}
use Rattle.std.specs.IoError.{error_kind}
use Rattle.std.specs.declared.io.Error.{Error}
use Rattle.std.specs.declared.io.ErrorKind.{ErrorKind}
use Rattle.std.specs.declared.io.ErrorKind.TheVariants.{TimedOut}
use Rattle.std.specs.Time.{FitsClock, instant_nanos}
use Rattle.std.specs.declared.time.Instant.{Instant}

-- the nanoseconds that one try waits, of those that are left: where a flag may be raised, it is looked
-- at again after a fifth of a second
abbrev pub capped_wait : Option ℕ → Bool → Option ℕ
capped_wait left false = left
capped_wait None true = Some 200_000_000
capped_wait (Some left) true = Some (min left 200_000_000)

-- `tells` says that a clock told a time while a stream was in a state, `fails` that it could not
module _ {C S : Type 0} (tells : C → S → Instant → Type 0) (fails : C → S → Type 0) (clock : C)
    (stream : S) where
  -- Something is due so many seconds after a time that the clock told. It is never due only where there
  -- is no limit, or the clock failed, or doesn't count so far.
  abbrev pub IsDueIn : ℕ → Option Instant → Type 0
  IsDueIn seconds None =
      (seconds ≡ 0) ⊎ fails clock stream
      ⊎ ((now : Instant) × tells clock stream now
      × (FitsClock (instant_nanos now + seconds * 1_000_000_000) → ⊥))
  IsDueIn seconds (Some due) =
      (0 < seconds) × ((now : Instant) × tells clock stream now
      × (instant_nanos due ≡ instant_nanos now + seconds * 1_000_000_000))

  -- The rest of a frame is due when that frame is. Where none has begun, what is waited for has a time of
  -- its own.
  abbrev pub IsDueFor : ℕ → Option ℕ → Option Instant → Option Instant → Type 0
  IsDueFor seconds (Some frame) own due = due ≡ own
  IsDueFor seconds None own due = IsDueIn seconds due

  -- The rest of what was begun is due when that is. What begins now has a time of its own.
  abbrev pub IsDueForRest : ℕ → Option Instant → Option Instant → Type 0
  IsDueForRest seconds (Some begun) due = due ≡ Some begun
  IsDueForRest seconds None due = IsDueIn seconds due

  -- no time is left, by what the clock told, or it failed
  abbrev pub IsOver : Option Instant → Type 0
  IsOver None = ⊥
  IsOver (Some due) =
      fails clock stream
      ⊎ ((now : Instant) × tells clock stream now × (instant_nanos due ≤ instant_nanos now))

module _ {C S : Type 0} (tells : C → S → Instant → Type 0) (clock : C) where
  -- so many nanoseconds are left, by what the clock told in this state: any number where nothing is due
  abbrev pub IsTimeLeft : S → Option Instant → Option ℕ → Type 0
  IsTimeLeft stream None left = left ≡ None
  IsTimeLeft stream (Some due) None = ⊥
  IsTimeLeft stream (Some due) (Some left) =
      (0 < left) × ((now : Instant) × tells clock stream now
      × (left + instant_nanos now ≡ instant_nanos due))

  -- One call tried so often, from one state of its stream to the next. No try waited past the time that
  -- is due, by what the clock told ahead of it, or past the next look at a flag.
  pub data TriesUntil (tries : S → Option ℕ → S → Type 0) (due : Option Instant)
      (may_stop : Bool) (first : S) : S → Type 0 where
    none_yet : TriesUntil tries due may_stop first first
    once_more : (s t : S) (left : Option ℕ) → TriesUntil tries due may_stop first s → IsTimeLeft s due left
        → tries s (capped_wait left may_stop) t → TriesUntil tries due may_stop first t

-- A call kept to the time that was due: none of its tries waited longer, and it failed only where no
-- time was left, or a try failed by that.
pub record IsInTime {C S : Type 0} (tells : C → S → Instant → Type 0)
    (fails : C → S → Type 0) (clock : C) (tries : S → Option ℕ → S → Type 0) (failed : ErrorKind → Type 0)
    (is_due : Option Instant → Type 0) (may_stop : Bool) (first last : S) (result : Result ℕ Error)
    : Type 0 where
  pub due : Option Instant
  pub is : is_due due
  pub tried : TriesUntil tells clock tries due may_stop first last
  pub error : IfErr result (λ e. (IsOver tells fails clock last due × (error_kind e ≡ TimedOut))
      ⊎ failed (error_kind e))
