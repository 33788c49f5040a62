-- A job object as it is written.
use Rattle.std.specs.Prelude.{◌≡◌, List, [], ℕ, true, false, codes, map, Ok}
use Rattle.hex.specs.Hex.{encode_lower}
use Rattle.serde_json.specs.Data.{Data, string, array, object, no_members, member}
use Rattle.sessions.specs.Answers.{ObjectAnswer}
use Rattle.sessions.specs.Replies.{items, whole}
use Rattle.sessions.specs.declared.request.JobObject.{JobObject}
use Rattle.bpfjobs_cli.specs.AskRequests.{asked_program}

unfoldable pub written_job : JobObject → Data
written_job job =
    object (member (codes "buffer") (string (encode_lower job.buffer.items))
    (member (codes "credit") (whole job.credit)
    (member (codes "programs") (array (items (map asked_program job.programs.items)))
    (member (codes "schedule") (array (items (map whole job.schedule.items))) no_members))))

-- the job, without its schedule
pub record IsUnscheduled (job bare : JobObject) : Type 0 where
  pub same_programs : bare.programs.items ≡ job.programs.items
  pub same_credit : bare.credit ≡ job.credit
  pub same_buffer : bare.buffer.items ≡ job.buffer.items
  pub no_schedule : bare.schedule.items ≡ []

-- the text says this very job where a schedule is wanted, and else the job without its schedule
pub record SaysJobObject (job : JobObject) (text : List ℕ) : Type 0 where
  pub scheduled : ObjectAnswer true (Ok job) text
  pub unscheduled : (bare : JobObject) → IsUnscheduled job bare → ObjectAnswer false (Ok bare) text
