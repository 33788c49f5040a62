-- Programs that may call helpers of their host's, as C says which.
use Rattle.std.specs.Prelude.{◌≡◌, ℕ, ◌-◌, ◌<◌, ◌≤◌, ◌⊎◌, nat_le, nat_lt, List, length, slice_get, Option, None, Some, if◌then◌else◌}
use Rattle.helpers.specs.Table.{Table, arity_in, own_arity}
use Rattle.verifier.specs.declared.refusals.Refusal.{Refusal}
use Rattle.verifier.specs.Checked.{Checked}
use Rattle.verifier.specs.Refusals.{IsAccepted, RefusesProgram}
use Rattle.telgovan_c.specs.declared.verdicts.Verdict.{Verdict}
use Rattle.telgovan_c.specs.Verdicts.{accepted_verdict, refused_at, refused_verdict}

-- what C writes where there is no helper
abbrev pub no_helper : ℕ
no_helper = 4294967295

-- a helper's number of arguments, or that there is none
abbrev pub IsArity : ℕ → Type 0
IsArity word = (word ≤ 5) ⊎ (word ≡ no_helper)

abbrev pub arity_told : ℕ → Option ℕ
arity_told word = if nat_le word 5 then Some word else None

abbrev pub told_at : Option ℕ → Option ℕ
told_at None = None
told_at (Some word) = arity_told word

-- the arity of a helper by its id, of which the host's begin with 64, by the first so many words
abbrev pub arity_to : List ℕ → ℕ → ℕ → Option ℕ
arity_to words n id =
    if nat_lt id 64 then own_arity id
    else (if nat_lt (id - 64) n then told_at (slice_get words (id - 64)) else None)

-- the table has the helpers of a job, and those of the first so many words
abbrev pub AreHelpersTo : List ℕ → ℕ → Table → Type 0
AreHelpersTo words n table = (id : ℕ) → arity_in table id ≡ arity_to words n id

-- each of the first so many words says a helper, or that there is none
abbrev pub AreAritiesTo : List ℕ → ℕ → Type 0
AreAritiesTo words n =
    (place word : ℕ) → place < n → slice_get words place ≡ Some word → IsArity word

-- one word says too many arguments
abbrev pub HasLongOne : List ℕ → Type 0
HasLongOne words =
    (place : ℕ) × (word : ℕ) × (slice_get words place ≡ Some word) × (IsArity word → ⊥)

-- the handle holds the program of these bytes, verified with these helpers; or that is refused, and
-- the handle holds what it held
pub data IsLoadedOver (need : ℕ) (code : List ℕ) (table : Table) (old new : Option Checked)
    (verdict : Verdict) : Type 0 where
  loaded : (program : Checked) → IsAccepted need code table program → new ≡ Some program
      → verdict ≡ accepted_verdict program → IsLoadedOver need code table old new verdict
  refused : (refusal : Refusal) → RefusesProgram need code table refusal → new ≡ old
      → verdict ≡ refused_verdict refusal → IsLoadedOver need code table old new verdict

-- the same with the helpers that the words say, if they say helpers
pub data IsLoadedWith (need : ℕ) (code words : List ℕ) (old new : Option Checked)
    (verdict : Verdict) : Type 0 where
  told : length words ≤ 64 → AreAritiesTo words (length words) → (table : Table)
      → AreHelpersTo words (length words) table → IsLoadedOver need code table old new verdict
      → IsLoadedWith need code words old new verdict
  bad_id : 64 < length words → new ≡ old → verdict ≡ refused_at 44 None
      → IsLoadedWith need code words old new verdict
  too_long : length words ≤ 64 → HasLongOne words → new ≡ old → verdict ≡ refused_at 45 None
      → IsLoadedWith need code words old new verdict
  no_memory : length words ≤ 64 → new ≡ old → verdict ≡ refused_at 99 None
      → IsLoadedWith need code words old new verdict
