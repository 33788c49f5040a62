-- The graph of a program, as C is told it.
use Rattle.std.specs.Prelude.{◌≡◌, ℕ, ◌<◌, ◌≤◌, List, ◌++◌, length, drop, Option, Some, None}
use Rattle.helpers.specs.Table.{job_table}
use Rattle.verifier.specs.declared.refusals.Refusal.{Refusal}
use Rattle.verifier.specs.RefusalCodes.{code_of_refusal, slot_of_refusal}
use Rattle.verifier.specs.Refusals.{RefusesProgram}
use Rattle.explain.specs.declared.explanation.Explanation.{Explanation}
use Rattle.explain.specs.declared.picture.Picture.{Picture}
use Rattle.explain.specs.Pictures.{IsPicture}
use Rattle.explain.specs.Told.{ruled_slot}
use Rattle.telgovan_c.specs.declared.texts.Written.{Written}
use Rattle.telgovan_c.specs.Explains.{explained_as}
use Rattle.telgovan_c.specs.Texts.{IsSourceText, refused_text}

-- a drawing of so many bytes, of a program that is accepted or refused so
abbrev pub drawn_as : ℕ → Option Explanation → Written
drawn_as size None = explained_as size 0 None
drawn_as size (Some why) = explained_as size (code_of_refusal why.refusal) (slot_of_refusal why.refusal)

-- The drawing stands at the beginning of the room, if it fits, and nothing else of it changes. Then
-- the verdict is told with it.
pub data IsDrawingWritten (drawing : List ℕ) (why : Option Explanation) (old new : List ℕ)
    (told : Written) : Type 0 where
  fits : length drawing ≤ length old → new ≡ drawing ++ drop (length drawing) old
      → told ≡ drawn_as (length drawing) why → IsDrawingWritten drawing why old new told
  too_long : length old < length drawing → new ≡ old
      → told ≡ explained_as (length drawing) 65 None → IsDrawingWritten drawing why old new told

-- Drawn is the picture of a program that has a graph. Of any other one the refusal is told, and no
-- rule of an instruction is.
pub data IsGraphDrawn (need : ℕ) (code source old new : List ℕ) (told : Written) : Type 0 where
  drawn : (text : Option (List ℕ)) → IsSourceText source text → (picture : Picture)
      → IsPicture need code job_table text picture → (drawing : List ℕ)
      → IsDrawingWritten drawing picture.why old new told
      → IsGraphDrawn need code source old new told
  refused : (refusal : Refusal) → RefusesProgram need code job_table refusal
      → ruled_slot refusal ≡ None → new ≡ old
      → told ≡ refused_text (code_of_refusal refusal) (slot_of_refusal refusal)
      → IsGraphDrawn need code source old new told
  no_memory : new ≡ old → told ≡ refused_text 99 None → IsGraphDrawn need code source old new told
