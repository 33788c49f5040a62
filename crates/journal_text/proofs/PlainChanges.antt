-- A change's object has no float.
use Rattle.std.proofs.Common.{◌≡◌, ℕ, Bool, cond, List, [], ◌∷◌, map, true, false, refl}
use Rattle.std.specs.Str.{IsUtf8, is_utf8}
use Rattle.std.proofs.lemmas.Str.{IsUtf8-from_is_utf8, is_utf8-from_IsUtf8}
use Rattle.serde_json.specs.Data.{string}
use Rattle.serde_json.specs.Written.{has_float, items_have_float}
use Rattle.credit_book.specs.declared.book.Report.{Report}
use Rattle.credit_book.specs.declared.event.TaskEnd.{TaskEnd}
use Rattle.job_core.specs.declared.admission.ProgramBytes.{ProgramBytes}
use Rattle.sessions.specs.Replies.{items, task_data}
use Rattle.desk_journal.specs.declared.change.DeskChange.{DeskChange}
use Rattle.desk_journal.specs.declared.change.DeskChange.TheVariants.{Granted, Submitted, Finished, Failed, Forgotten, AccountOpened, JobsSkipped, ReportKept, FailureKept}
use Rattle.journal_text.specs.ChangeData.{bytes_data, change_data, failed_data, finished_data, forgotten_data, granted_data, kept_data, kept_failure_data, kept_report_data, opened_data, skipped_data, submitted_data, submitted_program, name_data}
use Rattle.journal_text.specs.KeyedData.{key_data, key_kept_data}

-- ---- names and keys

pub text_name : (name : List ℕ) → IsUtf8 name → string name ≡ name_data name
text_name name is = rw (is_utf8-from_IsUtf8 name is) refl

pub other_name : (name : List ℕ) → (IsUtf8 name → ⊥) → bytes_data name ≡ name_data name
other_name name wrong = go (is_utf8 name) refl
  where
    go : (b : Bool) → is_utf8 name ≡ b → bytes_data name ≡ cond b (string name) (bytes_data name)
    go true e = absurd (wrong (IsUtf8-from_is_utf8 name e))
    go false e = refl

-- ---- no floats

name_plain : (name : List ℕ) → has_float (name_data name) ≡ false
name_plain name = go (is_utf8 name)
  where
    go : (b : Bool) → has_float (cond b (string name) (bytes_data name)) ≡ false
    go true = refl
    go false = refl

program_plain : (p : ProgramBytes) → has_float (submitted_program p) ≡ false
unfolding submitted_program
program_plain p = refl

programs_plain : (ps : List ProgramBytes) → items_have_float (items (map submitted_program ps)) ≡ false
programs_plain [] = refl
programs_plain (p ∷ ps) = rw (program_plain p, programs_plain ps) refl

task_plain : (t : TaskEnd) → has_float (task_data t) ≡ false
unfolding task_data
task_plain t = refl

tasks_plain : (ts : List TaskEnd) → items_have_float (items (map task_data ts)) ≡ false
tasks_plain [] = refl
tasks_plain (t ∷ ts) = rw (task_plain t, tasks_plain ts) refl

kept_plain : (report : Report) → has_float (kept_data report) ≡ false
unfolding kept_data
kept_plain report = rw (tasks_plain report.tasks.items) refl

pub change_plain : (at number : ℕ) (change : DeskChange) → has_float (change_data at number change) ≡ false
unfolding granted_data submitted_data finished_data failed_data forgotten_data opened_data skipped_data kept_report_data kept_failure_data
change_plain at number (Granted tenant amount) = rw (name_plain tenant.items) refl
change_plain at number (Submitted tenant programs credit buffer) = rw (programs_plain programs.items, name_plain tenant.items) refl
change_plain at number (Finished job report) = rw (tasks_plain report.tasks.items) refl
change_plain at number (Failed job code) = refl
change_plain at number (Forgotten ahead) = refl
change_plain at number (AccountOpened tenant granted spent) = rw (name_plain tenant.items) refl
change_plain at number (JobsSkipped count) = refl
change_plain at number (ReportKept tenant credit report) = rw (kept_plain report, name_plain tenant.items) refl
change_plain at number (FailureKept tenant credit code) = rw (name_plain tenant.items) refl

pub key_plain : (key : List ℕ) → has_float (key_data key) ≡ false
key_plain key = rw (name_plain key) refl

pub key_kept_plain : (at job : ℕ) (key : List ℕ) → has_float (key_kept_data at job key) ≡ false
unfolding key_kept_data
key_kept_plain at job key = rw (name_plain key) refl
