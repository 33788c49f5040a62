-- Why a program is refused, as C is told it.
use Rattle.std.specs.Prelude.{◌≡◌, ℕ, ◌<◌, ◌≤◌, List, ◌++◌, length, drop, true, false, Option, Some, None}
use Rattle.helpers.specs.Table.{job_table}
use Rattle.verifier.specs.Checked.{Checked}
use Rattle.verifier.specs.RefusalCodes.{code_of_refusal, slot_of_refusal}
use Rattle.verifier.specs.Refusals.{IsAccepted}
use Rattle.explain.specs.declared.explanation.Explanation.{Explanation}
use Rattle.explain.specs.Texts.{IsTextOf}
use Rattle.explain.specs.Told.{IsTold}
use Rattle.telgovan_c.specs.declared.texts.Written.{Written}
use Rattle.telgovan_c.specs.Texts.{IsSourceText}

-- The bytes stand at the beginning of the room, if they fit, and nothing else of it changes.
pub data FillsRoom (bytes old new : List ℕ) : Type 0 where
  fits : length bytes ≤ length old → new ≡ bytes ++ drop (length bytes) old
      → FillsRoom bytes old new
  too_long : length old < length bytes → new ≡ old → FillsRoom bytes old new

-- a text of so many bytes, for this status and slot
abbrev pub explained_as : ℕ → ℕ → Option ℕ → Written
explained_as size status None =
    record { length = size; place = 0; status = status; has_place = false }
explained_as size status (Some slot) =
    record { length = size; place = slot; status = status; has_place = true }

-- A program of this need that calls the helpers of a job is accepted, and nothing is told, or it is
-- refused, and the text of the explanation is told with the refusal. For want of memory nothing is
-- told.
pub data IsExplained (need : ℕ) (code source old new : List ℕ) (told : Written) : Type 0 where
  allowed : (program : Checked) → IsAccepted need code job_table program → new ≡ old
      → told ≡ explained_as 0 0 None → IsExplained need code source old new told
  refused : (text : Option (List ℕ)) → IsSourceText source text → (why : Explanation)
      → IsTold need code job_table text why → (words : List ℕ) → IsTextOf why words
      → FillsRoom words old new
      → told ≡ explained_as (length words) (code_of_refusal why.refusal) (slot_of_refusal why.refusal)
      → IsExplained need code source old new told
  no_memory : new ≡ old → told ≡ explained_as 0 99 None
      → IsExplained need code source old new told
