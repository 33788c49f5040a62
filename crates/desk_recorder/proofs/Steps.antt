-- Where one change of a desk leads, with the jobs that are held.
use Rattle.std.proofs.Common.{◌≡◌, ℕ, true, List, [], ◌∷◌, ◌++◌, length, None, Some, Result, Ok, Err, Vec, refl, sym, subst, ◌∙◌}
use Rattle.std.specs.declared.alloc.Global.{Global}
use Rattle.credit_book.specs.declared.book.Report.{Report}
use Rattle.job_core.specs.Admission.{IsAdmittedFrom}
use Rattle.job_core.specs.Admitted.{AdmittedJob}
use Rattle.job_core.specs.declared.admission.ProgramBytes.{ProgramBytes}
use Rattle.sessions.specs.Grammar.{is_job_key}
use Rattle.sessions.specs.JobKeys.{noted}
use Rattle.sessions.specs.declared.job_key.KeyedJob.{KeyedJob}
use Rattle.keyed_desk.specs.KeyedChanges.{by_key_bytes}
use Rattle.keyed_desk.specs.KeyedSteps.{alone, by_key}
use Rattle.accounts.specs.Ledgers.{Ledger, Finishes, GrantsMore, Takes}
use Rattle.accounts.specs.declared.jobs.JobStanding.{JobStanding}
use Rattle.accounts.specs.declared.jobs.JobStanding.TheVariants.{Reported, Failed as FailedBy}
use Rattle.desk_journal.specs.DeskChanges.{change_bytes}
use Rattle.desk_journal.specs.DeskSteps.{DeskState, EndsJob, Makes, PutsBack}
use Rattle.desk_journal.proofs.OpenLemmas.{gone_closed, over_closed}
use Rattle.desk_journal.specs.declared.change.DeskChange.{DeskChange}
use Rattle.desk_journal.specs.declared.change.DeskChange.TheVariants.{Granted, Submitted, Finished, Failed, Forgotten, AccountOpened, JobsSkipped, ReportKept, FailureKept}
use Rattle.desk_journal.specs.declared.journaled_desk.OpenJob.{OpenJob}
use Rattle.desk_recorder.specs.Recording.{HoldsOpen, IsEndRecord, IsForgettingRecord, IsGrantRecord, IsChangeRecord, IsRecordWith, IsSubmitRecord, ChangesLead, keyed_state, last_keyed}
use Rattle.desk_recorder.proofs.Held.{ended_held, ended_there, forgotten_held, held_without, left_held, same_open, taken_held, behind_held}

-- the change is made of a desk, whatever list holds its open jobs
abbrev MakesHeld : DeskChange → Ledger → Ledger → Type 0
MakesHeld change old new = (held : List OpenJob) → HoldsOpen held old → (after : List OpenJob) × HoldsOpen after new
    × Makes change (record { desk = old; held = held }) (record { desk = new; held = after })

-- a change that is made of a desk and its open jobs leads from one to the other
by_change : (old new : Ledger) (change : DeskChange) → MakesHeld change old new → ChangesLead old (change_bytes change ∷ []) [] new
by_change old new change makes held keys holds =
    let t = makes held holds in
    (t.0, t.1, (keyed_state new t.0 keys, alone (change, refl, t.2) refl, refl))

-- and by a key, which the last job has then
by_key_change : (old new : Ledger) (change : DeskChange) (key : List ℕ) → is_job_key key ≡ true → MakesHeld change old new → ChangesLead old (by_key_bytes key (change_bytes change) ∷ []) (last_keyed (Some key) new) new
by_key_change old new change key is_key makes held keys holds =
    let t = makes held holds in
    let after = keyed_state new t.0 (noted keys (length new.jobs) key) in
    (t.0, t.1, (after, by_key key (change_bytes change) refl is_key (change, refl, t.2) refl, refl))

-- the record of such a change
recorded : (bytes payload : List ℕ) (ks : List KeyedJob) (old new : Ledger) → IsRecordWith payload bytes → ChangesLead old (payload ∷ []) ks new → IsChangeRecord bytes old new ks
recorded bytes payload ks old new are leads = record { payload = payload; are = are.1; fits = are.0; leads = leads }

pub records_grant : (bytes : List ℕ) (tenant : Vec ℕ Global) (amount : ℕ) (name : List ℕ) → IsRecordWith (change_bytes (Granted tenant amount)) bytes → tenant.items ≡ name → IsGrantRecord bytes name amount
records_grant bytes tenant amount name are same old new grants =
    let more = subst (λ (n : List ℕ). GrantsMore old n amount new) (sym same) grants in
    recorded bytes (change_bytes (Granted tenant amount)) [] old new are (by_change old new (Granted tenant amount) (λ held holds. (held, same_open old new held more.jobs holds, (more, refl))))

-- a job that is taken is held
taken_so : (tenant : Vec ℕ Global) (programs : Vec ProgramBytes Global) (credit : ℕ) (buffer : Vec ℕ Global) (name : List ℕ) (old new : Ledger) (job : AdmittedJob) → tenant.items ≡ name → Takes old name credit new
    → IsAdmittedFrom programs.items credit buffer.items job → MakesHeld (Submitted tenant programs credit buffer) old new
taken_so tenant programs credit buffer name old new job same takes admitted = held_then (subst (λ (n : List ℕ). Takes old n credit new) (sym same) takes)
  where
    open_job : OpenJob
    open_job = record { number = length new.jobs; job = job }

    held_then : Takes old tenant.items credit new → (held : List OpenJob) → HoldsOpen held old → (after : List OpenJob) × HoldsOpen after new
        × Makes (Submitted tenant programs credit buffer) (record { desk = old; held = held }) (record { desk = new; held = after })
    held_then taken held holds =
        (held ++ open_job ∷ [], taken_held old new tenant.items credit held open_job taken refl holds, (taken, (open_job, admitted, refl, refl)))

pub records_submit : (bytes : List ℕ) (tenant : Vec ℕ Global) (programs : Vec ProgramBytes Global) (credit : ℕ) (buffer : Vec ℕ Global) (name : List ℕ) → IsRecordWith (change_bytes (Submitted tenant programs credit buffer)) bytes
    → tenant.items ≡ name → IsSubmitRecord bytes None name programs.items credit buffer.items
records_submit bytes tenant programs credit buffer name are same old new job takes admitted =
    let change = Submitted tenant programs credit buffer in
    recorded bytes (change_bytes change) [] old new are (by_change old new change (taken_so tenant programs credit buffer name old new job same takes admitted))

pub records_submit_by_key : (bytes key : List ℕ) (tenant : Vec ℕ Global) (programs : Vec ProgramBytes Global) (credit : ℕ) (buffer : Vec ℕ Global) (name : List ℕ) → is_job_key key ≡ true
    → IsRecordWith (by_key_bytes key (change_bytes (Submitted tenant programs credit buffer))) bytes → tenant.items ≡ name → IsSubmitRecord bytes (Some key) name programs.items credit buffer.items
records_submit_by_key bytes key tenant programs credit buffer name is_key are same old new job takes admitted =
    let change = Submitted tenant programs credit buffer in
    recorded bytes (by_key_bytes key (change_bytes change)) (last_keyed (Some key) new) old new are (by_key_change old new change key is_key (taken_so tenant programs credit buffer name old new job same takes admitted))

-- a job that ends is held no more
ends : (old new : Ledger) (number : ℕ) (outcome : Result Report ℕ) → Finishes old number outcome new → (held : List OpenJob) → HoldsOpen held old
    → (after : List OpenJob) × HoldsOpen after new × EndsJob number outcome (record { desk = old; held = held }) (record { desk = new; held = after })
ends old new number outcome over held holds =
    let without = held_without number held (holds number (ended_there old new number outcome over)) in
    (without.rest, ended_held old new number outcome held without over holds, (over, without.is))

pub records_report : (bytes : List ℕ) (number : ℕ) (report : Report) → IsRecordWith (change_bytes (Finished number report)) bytes → IsEndRecord bytes number (Ok report)
records_report bytes number report are old new over =
    recorded bytes (change_bytes (Finished number report)) [] old new are (by_change old new (Finished number report)
    (λ held holds. let t = ends old new number (Ok report) over held holds in (t.0, t.1, (report, refl, t.2))))

pub records_failure : (bytes : List ℕ) (number code : ℕ) → IsRecordWith (change_bytes (Failed number code)) bytes → IsEndRecord bytes number (Err code)
records_failure bytes number code are old new over =
    recorded bytes (change_bytes (Failed number code)) [] old new are (by_change old new (Failed number code) (ends old new number (Err code) over))

pub records_forgetting : (bytes : List ℕ) (ahead : ℕ) → IsRecordWith (change_bytes (Forgotten ahead)) bytes → IsForgettingRecord bytes ahead
records_forgetting bytes ahead are old new forgets =
    recorded bytes (change_bytes (Forgotten ahead)) [] old new are (by_change old new (Forgotten ahead) (λ held holds. (held, forgotten_held old new ahead held forgets.jobs holds, (forgets, refl))))

-- ---- any change keeps the open jobs held

-- whichever job of the number is gone, it is the one that ended
ended_so : (number : ℕ) (outcome : Result Report ℕ) (old new : DeskState) → EndsJob number outcome old new → HoldsOpen old.held old.desk → HoldsOpen new.held new.desk
ended_so number outcome old new over holds =
    ended_held old.desk new.desk number outcome old.held (record { rest = new.held; is = over.1; others = left_held number old.held new.held over.1 }) over.0 holds

back_held : (name : List ℕ) (credit : ℕ) (standing : JobStanding) (old new : DeskState) → PutsBack name credit standing old new → HoldsOpen old.held old.desk → HoldsOpen new.held new.desk
back_held name credit standing old new back holds =
    subst (λ (l : List OpenJob). HoldsOpen l new.desk) (sym back.held)
    (behind_held old.desk new.desk (back.recalls.entry ∷ []) old.held back.recalls.jobs (over_closed back.recalls.entry back.recalls.over) holds)

pub makes_held : (change : DeskChange) (old new : DeskState) → Makes change old new → HoldsOpen old.held old.desk → HoldsOpen new.held new.desk
makes_held (Granted tenant amount) old new made holds =
    subst (λ (l : List OpenJob). HoldsOpen l new.desk) (sym made.1) (same_open old.desk new.desk old.held made.0.jobs holds)
makes_held (Submitted tenant programs credit buffer) old new made holds =
    subst (λ (l : List OpenJob). HoldsOpen l new.desk) (sym made.1.3) (taken_held old.desk new.desk tenant.items credit old.held made.1.0 made.0 made.1.2 holds)
makes_held (Finished number report) old new made holds = ended_so number (Ok made.0) old new made.2 holds
makes_held (Failed number code) old new made holds = ended_so number (Err code) old new made holds
makes_held (Forgotten ahead) old new made holds =
    subst (λ (l : List OpenJob). HoldsOpen l new.desk) (sym made.1) (forgotten_held old.desk new.desk ahead old.held made.0.jobs holds)
makes_held (AccountOpened tenant granted spent) old new made holds =
    subst (λ (l : List OpenJob). HoldsOpen l new.desk) (sym made.1) (same_open old.desk new.desk old.held (made.0.jobs ∙ sym made.0.early) holds)
makes_held (JobsSkipped count) old new made holds =
    subst (λ (l : List OpenJob). HoldsOpen l new.desk) (sym made.2) (behind_held old.desk new.desk made.0.gone old.held made.0.jobs.jobs (gone_closed made.0.gone made.0.are) holds)
makes_held (ReportKept tenant credit report) old new made holds = back_held tenant.items credit (Reported made.0) old new made.2 holds
makes_held (FailureKept tenant credit code) old new made holds = back_held tenant.items credit (FailedBy code) old new made holds
