-- Open jobs stay held in the order of their numbers, each with its source.
use Rattle.std.proofs.Common.{◌≡◌, ◌⊎◌, ◌+◌, ◌-◌, ◌≤◌, ◌<◌, ℕ, zero, suc, Vec, Global, Bool, true, false, List, [], ◌∷◌, ◌++◌, take, drop, length, slice_get, slice_set, nat_eq, if◌then◌else◌, Option, Some, None, Result, Ok, Err, refl, sym, ap, subst, ◌∙◌, inl, inr, arith}
use Rattle.std.specs.Prelude.{All, OnOk, OnErr, string_bytes}
use Rattle.std.proofs.lemmas.Bool.Decides.{nat_tests}
use Rattle.std.proofs.lemmas.List.{append-nil, length-append}
use Rattle.accounts.specs.Forgetting.{ForgetsJobs, IsGone, IsJobOver}
use Rattle.accounts.specs.Jobs.{is_open, job_at, settled}
use Rattle.accounts.specs.Ledgers.{Finishes, Ledger, Takes}
use Rattle.accounts.specs.Restoring.{AddsGone, Recalls}
use Rattle.accounts.specs.declared.fault.RestoreFault.{RestoreFault}
use Rattle.accounts.specs.declared.jobs.JobEntry.{JobEntry}
use Rattle.accounts.specs.declared.jobs.JobStanding.{JobStanding}
use Rattle.accounts.specs.declared.jobs.JobStanding.TheVariants.{Open, Reported, Failed}
use Rattle.credit_book.specs.declared.book.Report.{Report}
use Rattle.job_core.specs.Admission.{IsAdmittedFrom}
use Rattle.job_core.specs.declared.admission.ProgramBytes.{ProgramBytes}
use Rattle.accounts.proofs.Forgets.{each_left}
use Rattle.accounts.proofs.Listed.{same_some}
use Rattle.desk_journal.specs.HeldJobs.{AreHeldFrom, IsTakingChange, IsTakenBy, none_left, one_over, one_open}
use Rattle.desk_journal.specs.declared.journaled_desk.OpenJob.{OpenJob}

-- ---- more jobs behind

from_number : (m n : ℕ) (jobs : List JobEntry) (held : List OpenJob) (sources : List (Vec ℕ Global)) → m ≡ n → AreHeldFrom m jobs held sources → AreHeldFrom n jobs held sources
from_number m n jobs held sources same are = subst (λ (k : ℕ). AreHeldFrom k jobs held sources) same are

pub held_append : (n : ℕ) (jobs : List JobEntry) (held : List OpenJob) (sources : List (Vec ℕ Global)) (m : ℕ) (more : List JobEntry) (held_more : List OpenJob) (sources_more : List (Vec ℕ Global))
    → AreHeldFrom n jobs held sources → m ≡ n + length jobs → AreHeldFrom m more held_more sources_more → AreHeldFrom n (jobs ++ more) (held ++ held_more) (sources ++ sources_more)
held_append n jobs held sources m more held_more sources_more (none_left number) is later = from_number m number more held_more sources_more (omega (arith, is)) later
held_append n jobs held sources m more held_more sources_more (one_over number entry others held_others sources_others over rest) is later =
    one_over number entry (others ++ more) (held_others ++ held_more) (sources_others ++ sources_more) over (held_append (number + 1) others held_others sources_others m more held_more sources_more rest (omega (arith, is)) later)
held_append n jobs held sources m more held_more sources_more (one_open number entry others job held_others source sources_others numbered taken rest) is later =
    one_open number entry (others ++ more) job (held_others ++ held_more) source (sources_others ++ sources_more) numbered taken (held_append (number + 1) others held_others sources_others m more held_more sources_more rest (omega (arith, is)) later)

-- jobs behind that are over are not held
pub held_behind : (n : ℕ) (jobs : List JobEntry) (held : List OpenJob) (sources : List (Vec ℕ Global)) (more : List JobEntry) → AreHeldFrom n jobs held sources → AreHeldFrom (n + length jobs) more [] []
    → AreHeldFrom n (jobs ++ more) held sources
held_behind n jobs held sources more are later =
    subst (λ (p : List OpenJob × List (Vec ℕ Global)). AreHeldFrom n (jobs ++ more) p.0 p.1) (λ k. (append-nil held k, append-nil sources k)) (held_append n jobs held sources (n + length jobs) more [] [] are refl later)

pub gone_over : (entry : JobEntry) → IsGone entry → IsJobOver entry
gone_over entry gone = ap is_open gone.standing

pub all_rest : (entry : JobEntry) (gone : List JobEntry) → All IsGone (entry ∷ gone) → All IsGone gone
all_rest entry gone all k d lt = all (suc k) d (omega (arith, lt))

pub all_first : (entry : JobEntry) (gone : List JobEntry) → All IsGone (entry ∷ gone) → IsGone entry
all_first entry gone all = all zero entry (omega arith)

pub held_gone : (n : ℕ) (gone : List JobEntry) → All IsGone gone → AreHeldFrom n gone [] []
held_gone n [] all = none_left n
held_gone n (entry ∷ gone) all = one_over n entry gone [] [] (gone_over entry (all_first entry gone all)) (held_gone (n + 1) gone (all_rest entry gone all))

pub held_over : (n : ℕ) (entry : JobEntry) → IsJobOver entry → AreHeldFrom n (entry ∷ []) [] []
held_over n entry over = one_over n entry [] [] [] over (none_left (n + 1))

pub held_taken : (n : ℕ) (jobs : List JobEntry) (held : List OpenJob) (sources : List (Vec ℕ Global)) (entry : JobEntry) (job : OpenJob) (source : Vec ℕ Global) → AreHeldFrom n jobs held sources
    → job.number ≡ n + length jobs → IsTakenBy source.items entry job.job → AreHeldFrom n (jobs ++ entry ∷ []) (held ++ job ∷ []) (sources ++ source ∷ [])
held_taken n jobs held sources entry job source are numbered taken =
    held_append n jobs held sources (n + length jobs) (entry ∷ []) (job ∷ []) (source ∷ []) are refl
    (one_open (n + length jobs) entry [] job [] source [] numbered taken (none_left ((n + length jobs) + 1)))

-- ---- an open job is over

numbers_from : (n : ℕ) (jobs : List JobEntry) (held : List OpenJob) (sources : List (Vec ℕ Global)) → AreHeldFrom n jobs held sources → (place : ℕ) (job : OpenJob) → slice_get held place ≡ Some job → n ≤ job.number
numbers_from n jobs held sources (none_left number) place job at = cc
numbers_from n jobs held sources (one_over number entry others held_others sources_others over rest) place job at =
    let later = numbers_from (number + 1) others held_others sources_others rest place job at in
    omega (arith, later)
numbers_from n jobs held sources (one_open number entry others first held_others source sources_others numbered taken rest) zero job at =
    let same : first.number ≡ job.number = ap (λ (o : OpenJob). o.number) (same_some first job at) in
    omega (arith, same, numbered)
numbers_from n jobs held sources (one_open number entry others first held_others source sources_others numbered taken rest) (suc place) job at =
    let later = numbers_from (number + 1) others held_others sources_others rest place job at in
    omega (arith, later)

-- the open job at one place, which is held at the other, is over
pub held_ended : (n : ℕ) (jobs : List JobEntry) (held : List OpenJob) (sources : List (Vec ℕ Global)) → AreHeldFrom n jobs held sources → (i place : ℕ) (entry changed : JobEntry) (job : OpenJob)
    → slice_get jobs i ≡ Some entry → is_open entry.standing ≡ true → IsJobOver changed → slice_get held place ≡ Some job → job.number ≡ n + i
    → AreHeldFrom n (slice_set jobs i changed) (take place held ++ drop (suc place) held) (take place sources ++ drop (suc place) sources)
held_ended n jobs held sources (none_left number) i place entry changed job there opened over at numbered = cc
held_ended n jobs held sources (one_over number first others held_others sources_others is_over rest) zero place entry changed job there opened over at numbered =
    let same : is_open first.standing ≡ is_open entry.standing = ap (λ (e : JobEntry). is_open e.standing) (same_some first entry there) in
    let clash : true ≡ false = sym opened ∙ (sym same ∙ is_over) in
    cc
held_ended n jobs held sources (one_over number first others held_others sources_others is_over rest) (suc i) place entry changed job there opened over at numbered =
    one_over number first (slice_set others i changed) (take place held_others ++ drop (suc place) held_others) (take place sources_others ++ drop (suc place) sources_others) is_over
    (held_ended (number + 1) others held_others sources_others rest i place entry changed job there opened over at (omega (arith, numbered)))
held_ended n jobs held sources (one_open number first others o held_others source sources_others is_number taken rest) zero zero entry changed job there opened over at numbered =
    one_over number changed others held_others sources_others over rest
held_ended n jobs held sources (one_open number first others o held_others source sources_others is_number taken rest) zero (suc place) entry changed job there opened over at numbered =
    let later = numbers_from (number + 1) others held_others sources_others rest place job at in
    absurd (omega (arith, later, numbered))
held_ended n jobs held sources (one_open number first others o held_others source sources_others is_number taken rest) (suc i) zero entry changed job there opened over at numbered =
    let same : o.number ≡ job.number = ap (λ (x : OpenJob). x.number) (same_some o job at) in
    absurd (omega (arith, same, is_number, numbered))
held_ended n jobs held sources (one_open number first others o held_others source sources_others is_number taken rest) (suc i) (suc place) entry changed job there opened over at numbered =
    one_open number first (slice_set others i changed) o (take place held_others ++ drop (suc place) held_others) source (take place sources_others ++ drop (suc place) sources_others) is_number taken
    (held_ended (number + 1) others held_others sources_others rest i place entry changed job there opened over at (omega (arith, numbered)))

-- ---- some are forgotten

-- place by place the same job, or both over
abbrev AreOverOrSame : List JobEntry → List JobEntry → Type 0
AreOverOrSame old new = (i : ℕ) (e x : JobEntry) → slice_get old i ≡ Some e → slice_get new i ≡ Some x → (e ≡ x) ⊎ (IsJobOver e × IsJobOver x)

held_same : (n : ℕ) (jobs : List JobEntry) (held : List OpenJob) (sources : List (Vec ℕ Global)) (new : List JobEntry) → AreHeldFrom n jobs held sources → length new ≡ length jobs → AreOverOrSame jobs new → AreHeldFrom n new held sources
held_same n jobs held sources [] (none_left number) long each = none_left number
held_same n jobs held sources (x ∷ new) (none_left number) long each = absurd (omega (arith, long))
held_same n jobs held sources [] (one_over number first others held_others sources_others is_over rest) long each = absurd (omega (arith, long))
held_same n jobs held sources (x ∷ new) (one_over number first others held_others sources_others is_over rest) long each =
    one_over number x new held_others sources_others (by (each zero first x refl refl))
    (held_same (number + 1) others held_others sources_others new rest (omega (arith, long)) (λ i e y at there. each (suc i) e y at there))
  where
    by : (first ≡ x) ⊎ (IsJobOver first × IsJobOver x) → IsJobOver x
    by (inl same) = subst (λ (e : JobEntry). IsJobOver e) same is_over
    by (inr both) = both.1
held_same n jobs held sources [] (one_open number first others o held_others source sources_others is_number taken rest) long each = absurd (omega (arith, long))
held_same n jobs held sources (x ∷ new) (one_open number first others o held_others source sources_others is_number taken rest) long each =
    one_open number x new o held_others source sources_others is_number (by (each zero first x refl refl))
    (held_same (number + 1) others held_others sources_others new rest (omega (arith, long)) (λ i e y at there. each (suc i) e y at there))
  where
    by : (first ≡ x) ⊎ (IsJobOver first × IsJobOver x) → IsTakenBy source.items x o.job
    by (inl same) = subst (λ (e : JobEntry). IsTakenBy source.items e o.job) same taken
    by (inr both) = let clash : true ≡ false = sym (ap is_open taken.opened) ∙ both.0 in cc

pub held_forgotten : (n ahead : ℕ) (old new : List JobEntry) (held : List OpenJob) (sources : List (Vec ℕ Global)) → AreHeldFrom n old held sources → ForgetsJobs old ahead new → AreHeldFrom n new held sources
held_forgotten n ahead old new held sources are forgets = held_same n old held sources new are forgets.count each
  where
    each : AreOverOrSame old new
    each i e x at there = by (each_left old ahead new forgets i e x at there)
      where
        by : (e ≡ x) ⊎ (IsJobOver e × IsGone x) → (e ≡ x) ⊎ (IsJobOver e × IsJobOver x)
        by (inl same) = inl same
        by (inr gone) = inr (gone.0, gone_over x gone.1)

-- ---- what a call leaves

length_held : (n : ℕ) (jobs : List JobEntry) (held : List OpenJob) (sources : List (Vec ℕ Global)) → AreHeldFrom n jobs held sources → length held ≡ length sources
length_held n jobs held sources (none_left number) = refl
length_held n jobs held sources (one_over number entry others held_others sources_others over rest) = length_held (number + 1) others held_others sources_others rest
length_held n jobs held sources (one_open number entry others job held_others source sources_others numbered taken rest) = ap suc (length_held (number + 1) others held_others sources_others rest)

pub new_held : (desk : Ledger) (held : List OpenJob) (sources : List (Vec ℕ Global)) → desk ≡ record { grants = []; past = []; jobs = [] } → held ≡ [] → sources ≡ [] → AreHeldFrom 1 desk.jobs held sources
new_held desk held sources new none no_source =
    subst (λ (p : Ledger × List OpenJob × List (Vec ℕ Global)). AreHeldFrom 1 p.0.jobs p.1 p.2) (λ k. (sym new k, sym none k, sym no_source k)) (none_left 1)

pub skipped_held : (old new : Ledger) (count : ℕ) (held : List OpenJob) (sources : List (Vec ℕ Global)) (r : Result (Unit {0}) RestoreFault) → OnOk r (AddsGone old count new) → OnErr r (new ≡ old)
    → AreHeldFrom 1 old.jobs held sources → AreHeldFrom 1 new.jobs held sources
skipped_held old new count held sources (Ok done) adds same are =
    subst (λ (jobs : List JobEntry). AreHeldFrom 1 jobs held sources) (sym adds.jobs.jobs) (held_behind 1 old.jobs held sources adds.gone are (held_gone (1 + length old.jobs) adds.gone adds.are))
skipped_held old new count held sources (Err fault) adds same are = subst (λ (d : Ledger). AreHeldFrom 1 d.jobs held sources) (sym same) are

pub recalled_held : (old new : Ledger) (name : List ℕ) (credit : ℕ) (standing : JobStanding) (held : List OpenJob) (sources : List (Vec ℕ Global)) (r : Result (Unit {0}) RestoreFault)
    → OnOk r (Recalls old name credit standing new) → OnErr r (new ≡ old) → AreHeldFrom 1 old.jobs held sources → AreHeldFrom 1 new.jobs held sources
recalled_held old new name credit standing held sources (Ok done) recalls same are =
    subst (λ (jobs : List JobEntry). AreHeldFrom 1 jobs held sources) (sym recalls.jobs) (held_behind 1 old.jobs held sources (recalls.entry ∷ []) are (held_over (1 + length old.jobs) recalls.entry recalls.over))
recalled_held old new name credit standing held sources (Err fault) recalls same are = subst (λ (d : Ledger). AreHeldFrom 1 d.jobs held sources) (sym same) are

-- a place among those that are held is one among the sources
pub source_there : (jobs : List JobEntry) (held seen : List OpenJob) (sources : List (Vec ℕ Global)) (place : ℕ) → AreHeldFrom 1 jobs held sources → seen ≡ held → place < length seen → place < length sources
source_there jobs held seen sources place are same lt = let long = length_held 1 jobs held sources are in omega (arith, ap length same, long, lt)

settled_over : (credit : ℕ) (outcome : Result Report ℕ) → is_open (settled credit outcome) ≡ false
settled_over credit (Ok report) = by (nat_eq (report.spent + report.returned) credit)
  where
    by : (b : Bool) → is_open (if b then Reported report else Failed 82) ≡ false
    by true = refl
    by false = refl
settled_over credit (Err code) = refl

entry_there : (jobs : List JobEntry) (number : ℕ) (entry : JobEntry) → 1 ≤ number → job_at jobs number ≡ Some entry → slice_get jobs (number - 1) ≡ Some entry
entry_there jobs number entry counted at =
    let is : nat_eq number 0 ≡ false = grind (arith, nat_tests) in
    ap (λ (b : Bool). if◌then◌else◌ {A = Option JobEntry} b None (slice_get jobs (number - 1))) (sym is) ∙ at

pub finished_held : (old new : Ledger) (number place : ℕ) (outcome : Result Report ℕ) (held seen held_now : List OpenJob) (sources sources_now : List (Vec ℕ Global)) (job : OpenJob) → AreHeldFrom 1 old.jobs held sources
    → Finishes old number outcome new → seen ≡ held → slice_get seen place ≡ Some job → job.number ≡ number → held_now ≡ take place held ++ drop (suc place) held
    → sources_now ≡ take place sources ++ drop (suc place) sources → AreHeldFrom 1 new.jobs held_now sources_now
finished_held old new number place outcome held seen held_now sources sources_now job are over same at numbered is_held is_sources =
    let there : slice_get held place ≡ Some job = ap (λ (l : List OpenJob). slice_get l place) (sym same) ∙ at in
    let counted = numbers_from 1 old.jobs held sources are place job there in
    let changed = record over.entry { standing = settled over.entry.credit outcome } in
    subst (λ (p : List JobEntry × List OpenJob × List (Vec ℕ Global)). AreHeldFrom 1 p.0 p.1 p.2) (λ k. (sym over.jobs.jobs k, sym is_held k, sym is_sources k))
    (held_ended 1 old.jobs held sources are (number - 1) place over.entry changed job (entry_there old.jobs number over.entry (omega (arith, counted, numbered)) over.was)
    (ap is_open over.opened) (settled_over over.entry.credit outcome) there (omega (arith, counted, numbered)))

-- a job that was taken is held behind the others, with its source
pub submitted_held : (old new : Ledger) (name : List ℕ) (programs : List ProgramBytes) (credit : ℕ) (buffer buffer_seen : List ℕ) (held held_now : List OpenJob) (sources sources_now : List (Vec ℕ Global)) (job : OpenJob) (source : Vec ℕ Global) (seen : List ℕ)
    → AreHeldFrom 1 old.jobs held sources → Takes old seen credit new → seen ≡ name → job.number ≡ length new.jobs → IsAdmittedFrom programs credit buffer_seen job.job → buffer_seen ≡ buffer → IsTakingChange name programs credit buffer source.items
    → held_now ≡ held ++ job ∷ [] → sources_now ≡ sources ++ source ∷ [] → AreHeldFrom 1 new.jobs held_now sources_now
submitted_held old new name programs credit buffer buffer_seen held held_now sources sources_now job source seen are takes same numbered admitted same_buffer from is_held is_sources =
    subst (λ (p : List JobEntry × List OpenJob × List (Vec ℕ Global)). AreHeldFrom 1 p.0 p.1 p.2) (λ k. (sym takes.jobs.jobs k, sym is_held k, sym is_sources k))
    (held_taken 1 old.jobs held sources takes.entry job source are (omega (arith, numbered, ap length takes.jobs.jobs, length-append old.jobs (takes.entry ∷ []))) taken)
  where
    is_name : name ≡ string_bytes takes.entry.tenant
    is_name = sym (takes.tenant ∙ same)

    taken : IsTakenBy source.items takes.entry job.job
    taken = record {
      programs = programs;
      buffer = buffer;
      is = subst (λ (p : List ℕ × ℕ). IsTakingChange p.0 programs p.1 buffer source.items) (λ k. (is_name k, sym takes.credited k)) from;
      admitted = subst (λ (p : ℕ × List ℕ). IsAdmittedFrom programs p.0 p.1 job.job) (λ k. (sym takes.credited k, same_buffer k)) admitted;
      opened = takes.opened;
    }
