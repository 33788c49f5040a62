-- Why a text is no job object.
use Rattle.std.specs.Prelude.{◌≡◌, ℕ, List, Bool, None, Ok}
use Rattle.serde_json.specs.Data.{Data}
use Rattle.sessions.specs.Answers.{ObjectAnswer}
use Rattle.sessions.specs.Grammar.{ReadsJson, object_from}
use Rattle.sessions.specs.declared.request.JobObject.{JobObject}
use Rattle.bpfjobs_cli.specs.declared.object_faults.ObjectFault.{ObjectFault}
use Rattle.bpfjobs_cli.specs.declared.object_faults.ObjectFault.TheVariants.{NotJson, Wrong}

-- the text says a job, with a schedule where one is wanted
abbrev pub IsJobText : Bool → List ℕ → Type 0
IsJobText wants text = (job : JobObject) × ObjectAnswer wants (Ok job) text

-- it is no JSON, or it is some that says no job
abbrev pub IsNoJobText : Bool → List ℕ → ObjectFault → Type 0
IsNoJobText wants text (NotJson line column) = (d : Data) → ReadsJson text d → ⊥
IsNoJobText wants text (Wrong part) =
    (d : Data) × ReadsJson text d × (object_from wants d ≡ None)
