-- What is drawn of a program.
use Rattle.std.specs.Prelude.{◌≡◌, ℕ, List, [], Option, Some, None}
use Rattle.helpers.specs.Table.{job_table}
use Rattle.verifier.specs.declared.refusals.Refusal.{Refusal}
use Rattle.verifier.specs.Refusals.{RefusesProgram}
use Rattle.explain.specs.declared.explanation.Explanation.{Explanation}
use Rattle.explain.specs.declared.picture.Picture.{Picture}
use Rattle.explain.specs.Pictures.{IsPicture}
use Rattle.explain.specs.Told.{ruled_slot}
use Rattle.bpfrun_core.specs.declared.answering.RunOptions.{RunOptions}
use Rattle.bpfrun_core.specs.declared.fault.RunFault.{RunFault}
use Rattle.bpfrun_core.specs.Answered.{IsRejected, PrintsRefusal}
use Rattle.bpfrun_core.specs.Forms.{IsRead, IsUnread}

abbrev pub status_by : Option Explanation → ℕ
status_by None = 0
status_by (Some why) = 1

-- 1 where the picture has a refusal
abbrev pub picture_status : Picture → ℕ
picture_status picture = status_by picture.why

-- Drawn is the picture of a program that has a graph. Of any other one its refusal is told.
pub data IsDrawnCode (asked : RunOptions) (need : ℕ) (input code text : List ℕ)
    (status : ℕ) : Type 0
  where
    drawn : (source : Option (List ℕ)) (picture : Picture)
        → IsPicture need code job_table source picture → status ≡ picture_status picture
        → IsDrawnCode asked need input code text status
    refused : (why : Refusal) → RefusesProgram need code job_table why → ruled_slot why ≡ None
        → IsRejected asked need input code why text status
        → IsDrawnCode asked need input code text status

-- the same of a program as its file has it
pub data IsDrawn (asked : RunOptions) (need : ℕ) (input text : List ℕ) (status : ℕ) : Type 0 where
  read : (code : List ℕ) → IsRead asked.form input code
      → IsDrawnCode asked need input code text status → IsDrawn asked need input text status
  unread : (why : RunFault) → IsUnread asked.form input why
      → PrintsRefusal asked input [] why text status
      → IsDrawn asked need input text status
