-- A change leads from desks that are alike to desks that are.
use Rattle.std.proofs.Common.{◌≡◌, ◌⊎◌, ◌+◌, ◌-◌, ◌≤◌, ◌<◌, ℕ, zero, suc, Bool, true, false, cond, List, [], ◌∷◌, ◌++◌, length, sum_by, slice_get, slice_set, nat_eq, if◌then◌else◌, Option, Some, None, unwrap_or, Result, Ok, Err, refl, sym, ap, subst, ◌∙◌, inl, inr, arith}
use Rattle.std.specs.Prelude.{string_bytes}
use Rattle.std.specs.List.{AllZip}
use Rattle.std.specs.Map.{update}
use Rattle.std.specs.Str.{bytes_eq}
use Rattle.std.proofs.lemmas.Bool.{cases_Bool}
use Rattle.std.proofs.lemmas.Bool.Decides.{nat_tests}
use Rattle.std.proofs.lemmas.List.{length-append}
use Rattle.std.proofs.lemmas.List.Sums.{sum_by-append}
use Rattle.accounts.specs.Forgetting.{ForgetsJobs, IsGone, IsJobOver}
use Rattle.accounts.specs.Jobs.{is_open, job_at, opened_for, opened_in, settled, spent_by_job, spent_for}
use Rattle.accounts.specs.Ledgers.{Finishes, Forgets, GrantsMore, HasBalance, Ledger, Takes, account_at, account_in, granted_to, opened_by, past_of, spent_by_jobs}
use Rattle.accounts.specs.Restoring.{AddsGone, OpensAccount, Recalls}
use Rattle.accounts.specs.declared.fault.DeskFault.{DeskFault}
use Rattle.accounts.specs.declared.jobs.JobEntry.{JobEntry}
use Rattle.accounts.specs.declared.jobs.JobStanding.{JobStanding}
use Rattle.accounts.specs.declared.jobs.JobStanding.TheVariants.{Open, Reported, Failed}
use Rattle.accounts.specs.declared.tenants.Account.{Account}
use Rattle.credit_book.specs.declared.book.Report.{Report}
use Rattle.job_core.specs.Admitted.{AdmittedJob}
use Rattle.verifier.specs.Checked.{Checked}
use Rattle.desk_journal.specs.AlikeDesks.{AreDesksAlike, AreEntriesAlike, AreJobsAlike, AreOpenAlike, AreProgramsAlike, AreReportsAlike, StandAlike}
use Rattle.desk_journal.specs.DeskSteps.{DeskState, EndsJob, IsWithout, Makes, MakesBytes, PutsBack}
use Rattle.desk_journal.specs.declared.change.DeskChange.{DeskChange}
use Rattle.desk_journal.specs.declared.change.DeskChange.TheVariants.{Granted, Submitted, Finished, Failed as Fails, Forgotten, AccountOpened, JobsSkipped, ReportKept, FailureKept}
use Rattle.desk_journal.specs.declared.journaled_desk.OpenJob.{OpenJob}

-- ---- lists that are alike place by place

pub zip_self : {X : Type 0} (R : X → X → Type 0) → ((x : X) → R x x) → (xs : List X) → AllZip R xs xs
zip_self R itself [] = tt
zip_self R itself (x ∷ xs) = (itself x, zip_self R itself xs)

zip_through : {X : Type 0} (R : X → X → Type 0) → ((x y z : X) → R x y → R y z → R x z) → (xs ys zs : List X) → AllZip R xs ys → AllZip R ys zs → AllZip R xs zs
zip_through R through [] [] [] a b = tt
zip_through R through [] [] (z ∷ zs) a b = absurd b
zip_through R through [] (y ∷ ys) zs a b = absurd a
zip_through R through (x ∷ xs) [] zs a b = absurd a
zip_through R through (x ∷ xs) (y ∷ ys) [] a b = absurd b
zip_through R through (x ∷ xs) (y ∷ ys) (z ∷ zs) a b = (through x y z a.0 b.0, zip_through R through xs ys zs a.1 b.1)

pub zip_append : {X : Type 0} (R : X → X → Type 0) (xs ys us vs : List X) → AllZip R xs ys → AllZip R us vs → AllZip R (xs ++ us) (ys ++ vs)
zip_append R [] [] us vs a b = b
zip_append R [] (y ∷ ys) us vs a b = absurd a
zip_append R (x ∷ xs) [] us vs a b = absurd a
zip_append R (x ∷ xs) (y ∷ ys) us vs a b = (a.0, zip_append R xs ys us vs a.1 b)

pub zip_long : {X : Type 0} (R : X → X → Type 0) (xs ys : List X) → AllZip R xs ys → length xs ≡ length ys
zip_long R [] [] a = refl
zip_long R [] (y ∷ ys) a = absurd a
zip_long R (x ∷ xs) [] a = absurd a
zip_long R (x ∷ xs) (y ∷ ys) a = ap suc (zip_long R xs ys a.1)

pub zip_none : {X : Type 0} (R : X → X → Type 0) (xs ys : List X) → AllZip R xs ys → xs ≡ [] → ys ≡ []
zip_none R [] [] a none = refl
zip_none R [] (y ∷ ys) a none = absurd a
zip_none R (x ∷ xs) ys a none = absurd (omega (arith, ap length none))

pub zip_get : {X : Type 0} (R : X → X → Type 0) (xs ys : List X) (i : ℕ) (x : X) → AllZip R xs ys → slice_get xs i ≡ Some x → (y : X) × (slice_get ys i ≡ Some y) × R x y
zip_get R [] ys i x a at = cc
zip_get R (z ∷ xs) [] i x a at = absurd a
zip_get R (z ∷ xs) (y ∷ ys) zero x a at = let same : z ≡ x = ap (λ o. unwrap_or o z) at in (y, refl, subst (λ w. R w y) same a.0)
zip_get R (z ∷ xs) (y ∷ ys) (suc i) x a at = zip_get R xs ys i x a.1 at

pub zip_set : {X : Type 0} (R : X → X → Type 0) (xs ys : List X) (i : ℕ) (x y : X) → AllZip R xs ys → R x y → AllZip R (slice_set xs i x) (slice_set ys i y)
zip_set R [] [] i x y a b = tt
zip_set R [] (v ∷ ys) i x y a b = absurd a
zip_set R (u ∷ xs) [] i x y a b = absurd a
zip_set R (u ∷ xs) (v ∷ ys) zero x y a b = (b, a.1)
zip_set R (u ∷ xs) (v ∷ ys) (suc i) x y a b = (a.0, zip_set R xs ys i x y a.1 b)

sum_head : {X : Type 0} (f : X → ℕ) (x : X) (xs : List X) → sum_by f (x ∷ xs) ≡ f x + sum_by f xs
sum_head f x xs =
    let all : sum_by f (x ∷ xs) ≡ sum_by f (x ∷ []) + sum_by f xs = sum_by-append f (x ∷ []) xs in
    let one : sum_by f (x ∷ []) ≡ 0 + f x = refl in
    omega (arith, all, one)

zip_sum : {X : Type 0} (R : X → X → Type 0) (f : X → ℕ) → ((x y : X) → R x y → f x ≡ f y) → (xs ys : List X) → AllZip R xs ys → sum_by f xs ≡ sum_by f ys
zip_sum R f same [] [] a = refl
zip_sum R f same [] (y ∷ ys) a = absurd a
zip_sum R f same (x ∷ xs) [] a = absurd a
zip_sum R f same (x ∷ xs) (y ∷ ys) a = let first = same x y a.0 in let rest = zip_sum R f same xs ys a.1 in omega (arith, first, rest, sum_head f x xs, sum_head f y ys)

-- a list that is alike one in two parts is in two parts
pub record Split {X : Type 0} (R : X → X → Type 0) (before : List X) (x : X) (after ys : List X) : Type 0 where
  pub front : List X
  pub mid : X
  pub back : List X
  pub is : ys ≡ front ++ mid ∷ back
  pub fronts : AllZip R before front
  pub mids : R x mid
  pub backs : AllZip R after back

pub zip_split : {X : Type 0} (R : X → X → Type 0) (before : List X) (x : X) (after ys : List X) → AllZip R (before ++ x ∷ after) ys → Split R before x after ys
zip_split R [] x after [] a = absurd a
zip_split R [] x after (y ∷ ys) a = record { front = []; mid = y; back = ys; is = refl; fronts = tt; mids = a.0; backs = a.1 }
zip_split R (b ∷ before) x after [] a = absurd a
zip_split R (b ∷ before) x after (y ∷ ys) a =
    let s = zip_split R before x after ys a.1 in
    record { front = y ∷ s.front; mid = s.mid; back = s.back; is = ap (λ l. y ∷ l) s.is; fronts = (a.0, s.fronts); mids = s.mids; backs = s.backs }

-- ---- each is alike itself, and through a third

reports_self : (r : Report) → AreReportsAlike r r
reports_self r = record { spent = refl; returned = refl; bytes = refl }

pub stand_self : (s : JobStanding) → StandAlike s s
stand_self Open = tt
stand_self (Reported report) = reports_self report
stand_self (Failed code) = refl

pub entries_self : (e : JobEntry) → AreEntriesAlike e e
entries_self e = record { tenant = refl; credit = refl; standing = stand_self e.standing }

pub jobs_self : (j : AdmittedJob) → AreJobsAlike j j
jobs_self j = record { programs = zip_self AreProgramsAlike (λ p. record { need = refl; helpers = refl; code = refl }) j.programs; credit = refl; buffer = refl }

pub open_self : (o : OpenJob) → AreOpenAlike o o
open_self o = record { number = refl; job = jobs_self o.job }

pub alike_self : (s : DeskState) → AreDesksAlike s s
alike_self s = record {
  grants = λ q. refl;
  past = λ q. refl;
  jobs = zip_self AreEntriesAlike entries_self s.desk.jobs;
  held = zip_self AreOpenAlike open_self s.held;
}

stand_through : (a b c : JobStanding) → StandAlike a b → StandAlike b c → StandAlike a c
stand_through Open Open c x y = y
stand_through Open (Reported report) c x y = absurd x
stand_through Open (Failed code) c x y = absurd x
stand_through (Reported report) Open c x y = absurd x
stand_through (Reported first) (Reported second) Open x y = absurd y
stand_through (Reported first) (Reported second) (Reported third) x y = record { spent = x.spent ∙ y.spent; returned = x.returned ∙ y.returned; bytes = x.bytes ∙ y.bytes }
stand_through (Reported first) (Reported second) (Failed code) x y = absurd y
stand_through (Reported report) (Failed code) c x y = absurd x
stand_through (Failed code) Open c x y = absurd x
stand_through (Failed code) (Reported report) c x y = absurd x
stand_through (Failed first) (Failed second) Open x y = absurd y
stand_through (Failed first) (Failed second) (Reported report) x y = absurd y
stand_through (Failed first) (Failed second) (Failed third) x y = x ∙ y

pub entries_through : (a b c : JobEntry) → AreEntriesAlike a b → AreEntriesAlike b c → AreEntriesAlike a c
entries_through a b c x y = record { tenant = x.tenant ∙ y.tenant; credit = x.credit ∙ y.credit; standing = stand_through a.standing b.standing c.standing x.standing y.standing }

programs_through : (a b c : Checked) → AreProgramsAlike a b → AreProgramsAlike b c → AreProgramsAlike a c
programs_through a b c x y = record { need = x.need ∙ y.need; helpers = x.helpers ∙ y.helpers; code = x.code ∙ y.code }

jobs_through : (a b c : AdmittedJob) → AreJobsAlike a b → AreJobsAlike b c → AreJobsAlike a c
jobs_through a b c x y = record {
  programs = zip_through AreProgramsAlike programs_through a.programs b.programs c.programs x.programs y.programs;
  credit = x.credit ∙ y.credit;
  buffer = x.buffer ∙ y.buffer;
}

open_through : (a b c : OpenJob) → AreOpenAlike a b → AreOpenAlike b c → AreOpenAlike a c
open_through a b c x y = record { number = x.number ∙ y.number; job = jobs_through a.job b.job c.job x.job y.job }

pub alike_through : (s t u : DeskState) → AreDesksAlike s t → AreDesksAlike t u → AreDesksAlike s u
alike_through s t u a b = record {
  grants = λ q. a.grants q ∙ b.grants q;
  past = λ q. a.past q ∙ b.past q;
  jobs = zip_through AreEntriesAlike entries_through s.desk.jobs t.desk.jobs u.desk.jobs a.jobs b.jobs;
  held = zip_through AreOpenAlike open_through s.held t.held u.held a.held b.held;
}

-- ---- accounts

opened_alike : (name : List ℕ) (a b : JobEntry) → AreEntriesAlike a b → opened_for name a ≡ opened_for name b
unfolding opened_for
opened_alike name a b x = ap (λ (t : List ℕ). cond (bytes_eq name t) (opened_in a a.standing) 0) x.tenant ∙ ap (λ (n : ℕ). cond (bytes_eq name (string_bytes b.tenant)) n 0) (by a.standing b.standing x.standing)
  where
    by : (s t : JobStanding) → StandAlike s t → opened_in a s ≡ opened_in b t
    by Open Open y = x.credit
    by Open (Reported report) y = absurd y
    by Open (Failed code) y = absurd y
    by (Reported report) Open y = absurd y
    by (Reported first) (Reported second) y = refl
    by (Reported report) (Failed code) y = refl
    by (Failed code) Open y = absurd y
    by (Failed code) (Reported report) y = refl
    by (Failed first) (Failed second) y = refl

pub stand_spent : (s t : JobStanding) → StandAlike s t → spent_by_job s ≡ spent_by_job t
stand_spent Open Open y = refl
stand_spent Open (Reported report) y = absurd y
stand_spent Open (Failed code) y = refl
stand_spent (Reported report) Open y = absurd y
stand_spent (Reported first) (Reported second) y = y.spent
stand_spent (Reported report) (Failed code) y = absurd y
stand_spent (Failed code) Open y = refl
stand_spent (Failed code) (Reported report) y = absurd y
stand_spent (Failed first) (Failed second) y = refl

pub spent_alike : (name : List ℕ) (a b : JobEntry) → AreEntriesAlike a b → spent_for name a ≡ spent_for name b
unfolding spent_for
spent_alike name a b x = ap (λ (t : List ℕ). cond (bytes_eq name t) (spent_by_job a.standing) 0) x.tenant ∙ ap (λ (n : ℕ). cond (bytes_eq name (string_bytes b.tenant)) n 0) (stand_spent a.standing b.standing x.standing)

pub stand_open : (s t : JobStanding) → StandAlike s t → is_open s ≡ is_open t
stand_open Open Open y = refl
stand_open Open (Reported report) y = absurd y
stand_open Open (Failed code) y = absurd y
stand_open (Reported report) Open y = absurd y
stand_open (Reported first) (Reported second) y = refl
stand_open (Reported report) (Failed code) y = refl
stand_open (Failed code) Open y = absurd y
stand_open (Failed code) (Reported report) y = refl
stand_open (Failed first) (Failed second) y = refl

pub open_too : (s t : JobStanding) → StandAlike s t → s ≡ Open → t ≡ Open
open_too Open Open y is = refl
open_too Open (Reported report) y is = absurd y
open_too Open (Failed code) y is = absurd y
open_too (Reported report) t y is = let clash : false ≡ true = ap is_open is in absurd cc
open_too (Failed code) t y is = let clash : false ≡ true = ap is_open is in absurd cc

pub accounts_alike : (s t : Ledger) (q : List ℕ) → granted_to s q ≡ granted_to t q → past_of s q ≡ past_of t q → AllZip AreEntriesAlike s.jobs t.jobs → account_at s q ≡ account_at t q
unfolding account_at
accounts_alike s t q grants past jobs =
    by (granted_to s q) (granted_to t q) grants (zip_sum AreEntriesAlike (opened_for q) (opened_alike q) s.jobs t.jobs jobs) (zip_sum AreEntriesAlike (spent_for q) (spent_alike q) s.jobs t.jobs jobs)
  where
    by : (a b : Option ℕ) → a ≡ b → opened_by s.jobs q ≡ opened_by t.jobs q → spent_by_jobs s.jobs q ≡ spent_by_jobs t.jobs q → account_in s.jobs (past_of s q) q a ≡ account_in t.jobs (past_of t q) q b
    by None None same opened spent = refl
    by None (Some b) same opened spent = absurd cc
    by (Some a) None same opened spent = absurd cc
    by (Some a) (Some b) same opened spent =
        let sums : (g o p : ℕ) → Result Account DeskFault = λ g o p. Ok (record { granted = g; balance = g - o - p; opened = o; spent = p }) in
        let granted : a ≡ b = ap (λ (x : Option ℕ). unwrap_or x a) same in
        let total : past_of s q + spent_by_jobs s.jobs q ≡ past_of t q + spent_by_jobs t.jobs q = omega (arith, past, spent) in
        ap (λ (g : ℕ). sums g (opened_by s.jobs q) (past_of s q + spent_by_jobs s.jobs q)) granted
        ∙ (ap (λ (o : ℕ). sums b o (past_of s q + spent_by_jobs s.jobs q)) opened ∙ ap (λ (p : ℕ). sums b (opened_by t.jobs q) p) total)
