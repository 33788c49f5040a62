-- Open jobs of a desk, and lists that hold them.
use Rattle.std.proofs.Common.{◌≡◌, ◌⊎◌, ◌-◌, ◌≤◌, ℕ, zero, suc, false, List, [], ◌∷◌, ◌++◌, length, slice_get, slice_set, Bool, Option, Some, None, Result, refl, sym, ap, subst, ◌∙◌, inl, inr, arith, nat_eq, if◌then◌else◌}
use Rattle.std.proofs.lemmas.Bool.Decides.{nat_tests}
use Rattle.std.proofs.lemmas.List.{length-append}
use Rattle.std.proofs.lemmas.Option.{slice_get_within}
use Rattle.credit_book.specs.declared.book.Report.{Report}
use Rattle.accounts.specs.declared.jobs.JobEntry.{JobEntry}
use Rattle.accounts.specs.declared.jobs.JobStanding.TheVariants.{Open, Failed}
use Rattle.accounts.specs.Jobs.{job_at, settled}
use Rattle.accounts.specs.Forgetting.{ForgetsJobs, IsGone, IsJobOver}
use Rattle.accounts.proofs.Forgets.{each_left}
use Rattle.accounts.proofs.Listed.{get_within}
use Rattle.accounts.specs.Ledgers.{Ledger, Finishes, Takes}
use Rattle.desk_journal.proofs.OpenLemmas.{settled_over}
use Rattle.desk_journal.specs.DeskSteps.{IsWithout}
use Rattle.desk_journal.proofs.OpenLemmas.{AreClosed, append_get}
use Rattle.desk_journal.specs.declared.journaled_desk.OpenJob.{OpenJob}
use Rattle.streams.specs.Answering.{IsOpenJob}
use Rattle.desk_recorder.specs.Recording.{HasJobNumber, HoldsOpen}

-- ---- numbers among jobs

pub held_pushed : (number : ℕ) (held : List OpenJob) (job : OpenJob) → HasJobNumber number held → HasJobNumber number (held ++ job ∷ [])
held_pushed number [] job there = absurd there
held_pushed number (o ∷ held) job (inl same) = inl same
held_pushed number (o ∷ held) job (inr there) = inr (held_pushed number held job there)

pub held_last : (number : ℕ) (held : List OpenJob) (job : OpenJob) → job.number ≡ number → HasJobNumber number (held ++ job ∷ [])
held_last number [] job is = inl is
held_last number (o ∷ held) job is = inr (held_last number held job is)

-- a list without the first job of a number, which has all other numbers
pub record Without (number : ℕ) (held : List OpenJob) : Type 0 where
  pub rest : List OpenJob
  pub is : IsWithout number held rest
  pub others : (m : ℕ) → (m ≡ number → ⊥) → HasJobNumber m held → HasJobNumber m rest

pub held_without : (number : ℕ) (held : List OpenJob) → HasJobNumber number held → Without number held
held_without number [] there = absurd there
held_without number (o ∷ held) (inl is) = record {
  rest = held;
  is = record { before = []; gone = o; after = held; was = refl; numbered = is; now = refl };
  others = others;
}
  where
    others : (m : ℕ) → (m ≡ number → ⊥) → HasJobNumber m (o ∷ held) → HasJobNumber m held
    others m apart (inl same) = absurd (apart (sym same ∙ is))
    others m apart (inr there) = there
held_without number (o ∷ held) (inr there) = one_more (held_without number held there)
  where
    others : (w : Without number held) → (m : ℕ) → (m ≡ number → ⊥) → HasJobNumber m (o ∷ held) → HasJobNumber m (o ∷ w.rest)
    others w m apart (inl same) = inl same
    others w m apart (inr there) = inr (w.others m apart there)

    one_more : Without number held → Without number (o ∷ held)
    one_more w = record {
      rest = o ∷ w.rest;
      is = record {
        before = o ∷ w.is.before;
        gone = w.is.gone;
        after = w.is.after;
        was = ap (λ (l : List OpenJob). o ∷ l) w.is.was;
        numbered = w.is.numbered;
        now = ap (λ (l : List OpenJob). o ∷ l) w.is.now;
      };
      others = others w;
    }

-- the numbers of the jobs around a place
others_held : (number m : ℕ) (before : List OpenJob) (gone : OpenJob) (after : List OpenJob) → gone.number ≡ number → (m ≡ number → ⊥) → HasJobNumber m (before ++ gone ∷ after) → HasJobNumber m (before ++ after)
others_held number m [] gone after is apart (inl same) = absurd (apart (sym same ∙ is))
others_held number m [] gone after is apart (inr there) = there
others_held number m (o ∷ before) gone after is apart (inl same) = inl same
others_held number m (o ∷ before) gone after is apart (inr there) = inr (others_held number m before gone after is apart there)

-- without a job of one number the others are there
pub left_held : (number : ℕ) (held rest : List OpenJob) → IsWithout number held rest → (m : ℕ) → (m ≡ number → ⊥) → HasJobNumber m held → HasJobNumber m rest
left_held number held rest without m apart there =
    subst (λ (l : List OpenJob). HasJobNumber m l) (sym without.now)
    (others_held number m without.before without.gone without.after without.numbered apart (subst (λ (l : List OpenJob). HasJobNumber m l) without.was there))

-- ---- places of a list

get_pushed : (js : List JobEntry) (e : JobEntry) (n : ℕ) (x : JobEntry) → slice_get (js ++ e ∷ []) n ≡ Some x → (n ≡ length js) ⊎ (slice_get js n ≡ Some x)
get_pushed [] e zero x at = inl refl
get_pushed [] e (suc n) x at = inr at
get_pushed (j ∷ js) e zero x at = inr at
get_pushed (j ∷ js) e (suc n) x at = elim (get_pushed js e n x at) [
  | inl is ↦ inl (ap suc is)
  | inr there ↦ inr there
]

get_set : (js : List JobEntry) (k : ℕ) (e : JobEntry) (n : ℕ) (x : JobEntry) → slice_get (slice_set js k e) n ≡ Some x → ((n ≡ k) × (e ≡ x)) ⊎ (slice_get js n ≡ Some x)
get_set [] k e n x at = inr at
get_set (j ∷ js) zero e zero x at = inl (refl, cc)
get_set (j ∷ js) zero e (suc n) x at = inr at
get_set (j ∷ js) (suc k) e zero x at = inr at
get_set (j ∷ js) (suc k) e (suc n) x at = elim (get_set js k e n x at) [
  | inl t ↦ inl (ap suc t.0, t.1)
  | inr there ↦ inr there
]

set_there : (js : List JobEntry) (k : ℕ) (was e x : JobEntry) → slice_get js k ≡ Some was → slice_get (slice_set js k e) k ≡ Some x → e ≡ x
set_there [] k was e x here at = absurd cc
set_there (j ∷ js) zero was e x here at = cc
set_there (j ∷ js) (suc k) was e x here at = set_there js k was e x here at

-- ---- open jobs

-- where a desk's jobs are the same, its open ones are
pub same_open : (old new : Ledger) (held : List OpenJob) → new.jobs ≡ old.jobs → HoldsOpen held old → HoldsOpen held new
same_open old new held same holds number there =
    holds number (there.0, subst (λ (js : List JobEntry). job_at js number ≡ Some there.0) same there.1, there.2)

job_is : (jobs : List JobEntry) (number : ℕ) → 1 ≤ number → job_at jobs number ≡ slice_get jobs (number - 1)
job_is jobs number some =
    let apart : nat_eq number 0 ≡ false = grind (arith, nat_tests) in
    ap (λ (b : Bool). if◌then◌else◌ {A = Option JobEntry} b None (slice_get jobs (number - 1))) apart

pub job_there : (jobs : List JobEntry) (number : ℕ) (entry : JobEntry) → job_at jobs number ≡ Some entry → (1 ≤ number) × (slice_get jobs (number - 1) ≡ Some entry)
job_there jobs zero entry at = cc
job_there jobs (suc n) entry at = (omega arith, sym (job_is jobs (suc n) (omega arith)) ∙ at)

-- an open job at a place of other jobs
still_open : (desk : Ledger) (number : ℕ) (entry : JobEntry) → 1 ≤ number → slice_get desk.jobs (number - 1) ≡ Some entry → entry.standing ≡ Open → IsOpenJob desk number
still_open desk number entry some at open_now = (entry, job_is desk.jobs number some ∙ at, open_now)

-- a job that is taken is the only open one that is new
pub taken_held : (old new : Ledger) (name : List ℕ) (credit : ℕ) (held : List OpenJob) (job : OpenJob) → Takes old name credit new → job.number ≡ length new.jobs
    → HoldsOpen held old → HoldsOpen (held ++ job ∷ []) new
taken_held old new name credit held job takes is holds number there =
    let here = job_there new.jobs number there.0 there.1 in
    let some = here.0 in
    let at : slice_get (old.jobs ++ takes.entry ∷ []) (number - 1) ≡ Some there.0 = subst (λ (js : List JobEntry). slice_get js (number - 1) ≡ Some there.0) takes.jobs.jobs here.1 in
    elim (get_pushed old.jobs takes.entry (number - 1) there.0 at) [
      | inl last ↦
          let longer = ap length takes.jobs.jobs in
          held_last number held job (is ∙ omega (arith, last, some, longer, length-append old.jobs (takes.entry ∷ [])))
      | inr early ↦ held_pushed number held job (holds number (still_open old number there.0 here.0 early there.2))
    ]

-- an open job that ends is held, and no other one opens
pub ended_there : (old new : Ledger) (number : ℕ) (outcome : Result Report ℕ) → Finishes old number outcome new → IsOpenJob old number
ended_there old new number outcome over = (over.entry, over.was, over.opened)

pub ended_held : (old new : Ledger) (number : ℕ) (outcome : Result Report ℕ) (held : List OpenJob) (without : Without number held) → Finishes old number outcome new
    → HoldsOpen held old → HoldsOpen without.rest new
ended_held old new number outcome held without over holds m there =
    let here = job_there new.jobs m there.0 there.1 in
    let at : slice_get (slice_set old.jobs (number - 1) entry) (m - 1) ≡ Some there.0 = subst (λ (js : List JobEntry). slice_get js (m - 1) ≡ Some there.0) over.jobs.jobs here.1 in
    elim (get_set old.jobs (number - 1) entry (m - 1) there.0 at) [
      | inl t ↦ absurd (settled_over over.entry.credit outcome (ap (λ (e : JobEntry). e.standing) t.1 ∙ there.2))
      | inr early ↦ without.others m (apart at) (holds m (still_open old m there.0 here.0 early there.2))
    ]
  where
    entry : JobEntry
    entry = record over.entry { standing = settled over.entry.credit outcome }

    apart : slice_get (slice_set old.jobs (number - 1) entry) (m - 1) ≡ Some there.0 → m ≡ number → ⊥
    apart at same =
        let there_now : slice_get (slice_set old.jobs (number - 1) entry) (number - 1) ≡ Some there.0 = subst (λ (i : ℕ). slice_get (slice_set old.jobs (number - 1) entry) (i - 1) ≡ Some there.0) same at in
        let is : entry ≡ there.0 = set_there old.jobs (number - 1) over.entry entry there.0 (job_there old.jobs number over.entry over.was).1 there_now in
        settled_over over.entry.credit outcome (ap (λ (e : JobEntry). e.standing) is ∙ there.2)

-- a job that is open is none that was forgotten
pub forgotten_held : (old new : Ledger) (ahead : ℕ) (held : List OpenJob) → ForgetsJobs old.jobs ahead new.jobs → HoldsOpen held old → HoldsOpen held new
forgotten_held old new ahead held forgets holds number there =
    let here = job_there new.jobs number there.0 there.1 in
    let lt = slice_get_within new.jobs (number - 1) there.0 here.1 in
    let long = forgets.count in
    let was = get_within old.jobs (number - 1) (omega (arith, lt, long)) in
    by was.0 was.1 here.1 (each_left old.jobs ahead new.jobs forgets (number - 1) was.0 there.0 was.1 here.1)
  where
    by : (x : JobEntry) → slice_get old.jobs (number - 1) ≡ Some x → slice_get new.jobs (number - 1) ≡ Some there.0
        → (x ≡ there.0) ⊎ (IsJobOver x × IsGone there.0) → HasJobNumber number held
    by x at now (inr gone) =
        let clash : Failed 76 ≡ Open = sym gone.1.standing ∙ there.2 in
        absurd cc
    by x at now (inl same) = holds number (still_open old number there.0 (job_there new.jobs number there.0 there.1).0 (at ∙ ap Some same) there.2)

-- jobs come behind that aren't open
pub behind_held : (old new : Ledger) (others : List JobEntry) (held : List OpenJob) → new.jobs ≡ old.jobs ++ others → AreClosed others → HoldsOpen held old → HoldsOpen held new
behind_held old new others held jobs closed holds number there =
    let here = job_there new.jobs number there.0 there.1 in
    elim (append_get old.jobs others (number - 1) there.0 (subst (λ (js : List JobEntry). slice_get js (number - 1) ≡ Some there.0) jobs here.1)) [
      | inl early ↦ holds number (still_open old number there.0 here.0 early there.2)
      | inr late ↦ absurd (closed late.0 there.0 late.1 there.2)
    ]
