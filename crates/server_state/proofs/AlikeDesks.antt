-- Two desks of which everything that is told is the same.
use Rattle.std.proofs.Common.{◌≡◌, ◌+◌, ◌-◌, ℕ, zero, suc, Bool, true, false, List, [], ◌∷◌, ◌++◌, length, sum_by, slice_get, slice_set, nat_eq, if◌then◌else◌, Option, Some, None, Result, Ok, string_bytes, unwrap_or, refl, sym, ap, subst, ◌∙◌}
use Rattle.std.specs.Str.{bytes_eq}
use Rattle.std.specs.Map.{update}
use Rattle.std.proofs.lemmas.List.Sums.{sum_by-cons}
use Rattle.credit_book.specs.declared.book.Report.{Report}
use Rattle.accounts.specs.declared.jobs.JobEntry.{JobEntry}
use Rattle.accounts.specs.declared.jobs.JobStanding.{JobStanding}
use Rattle.accounts.specs.declared.jobs.JobStanding.TheVariants.{Open, Reported, Failed}
use Rattle.accounts.specs.Accounts.{account_with}
use Rattle.accounts.specs.Jobs.{job_at, settled, opened_for, spent_for, spent_by_job, report_of}
use Rattle.accounts.specs.Ledgers.{Ledger, Finishes, HasJobs, GrantsMore, account_at, account_in, granted_to, past_of, report_at, report_in}

-- ---- jobs

pub record AlikeEntries (x y : JobEntry) : Type 0 where
  pub tenant : string_bytes x.tenant ≡ string_bytes y.tenant
  pub credit : x.credit ≡ y.credit
  pub standing : x.standing ≡ y.standing

abbrev pub AlikeJobs : List JobEntry → List JobEntry → Type 0
AlikeJobs [] [] = Unit {0}
AlikeJobs [] (y ∷ ys) = ⊥
AlikeJobs (x ∷ xs) [] = ⊥
AlikeJobs (x ∷ xs) (y ∷ ys) = AlikeEntries x y × AlikeJobs xs ys

abbrev pub AlikeOptions : Option JobEntry → Option JobEntry → Type 0
AlikeOptions None None = Unit {0}
AlikeOptions None (Some y) = ⊥
AlikeOptions (Some x) None = ⊥
AlikeOptions (Some x) (Some y) = AlikeEntries x y

pub length_alike : (xs ys : List JobEntry) → AlikeJobs xs ys → length xs ≡ length ys
length_alike [] [] a = refl
length_alike [] (y ∷ ys) a = absurd a
length_alike (x ∷ xs) [] a = absurd a
length_alike (x ∷ xs) (y ∷ ys) a = ap suc (length_alike xs ys a.1)

pub push_alike : (xs ys : List JobEntry) (x y : JobEntry) → AlikeJobs xs ys → AlikeEntries x y → AlikeJobs (xs ++ x ∷ []) (ys ++ y ∷ [])
push_alike [] [] x y a e = (e, tt)
push_alike [] (w ∷ ys) x y a e = absurd a
push_alike (v ∷ xs) [] x y a e = absurd a
push_alike (v ∷ xs) (w ∷ ys) x y a e = (a.0, push_alike xs ys x y a.1 e)

set_alike : (xs ys : List JobEntry) (i : ℕ) (x y : JobEntry) → AlikeJobs xs ys → AlikeEntries x y → AlikeJobs (slice_set xs i x) (slice_set ys i y)
set_alike [] [] i x y a e = tt
set_alike [] (w ∷ ys) i x y a e = absurd a
set_alike (v ∷ xs) [] i x y a e = absurd a
set_alike (v ∷ xs) (w ∷ ys) zero x y a e = (e, a.1)
set_alike (v ∷ xs) (w ∷ ys) (suc i) x y a e = (a.0, set_alike xs ys i x y a.1 e)

get_alike : (xs ys : List JobEntry) (i : ℕ) → AlikeJobs xs ys → AlikeOptions (slice_get xs i) (slice_get ys i)
get_alike [] [] i a = tt
get_alike [] (y ∷ ys) i a = absurd a
get_alike (x ∷ xs) [] i a = absurd a
get_alike (x ∷ xs) (y ∷ ys) zero a = a.0
get_alike (x ∷ xs) (y ∷ ys) (suc i) a = get_alike xs ys i a.1

pub job_alike : (xs ys : List JobEntry) (number : ℕ) → AlikeJobs xs ys → AlikeOptions (job_at xs number) (job_at ys number)
job_alike xs ys number a = by_test (nat_eq number 0)
  where
    by_test : (b : Bool) → AlikeOptions (if◌then◌else◌ {A = Option JobEntry} b None (slice_get xs (number - 1))) (if◌then◌else◌ {A = Option JobEntry} b None (slice_get ys (number - 1)))
    by_test true = tt
    by_test false = get_alike xs ys (number - 1) a

both_there : (o p : Option JobEntry) (x y : JobEntry) → AlikeOptions o p → o ≡ Some x → p ≡ Some y → AlikeEntries x y
both_there o p x y a first second = subst (λ (q : Option JobEntry). AlikeOptions (Some x) q) second (subst (λ (q : Option JobEntry). AlikeOptions q p) first a)

opened_same : (q : List ℕ) (x y : JobEntry) → AlikeEntries x y → opened_for q x ≡ opened_for q y
unfolding opened_for
opened_same q x y e = λ k. if◌then◌else◌ {A = ℕ} (bytes_eq q (e.tenant k)) (by_standing (e.credit k) (e.standing k)) 0
  where
    by_standing : ℕ → JobStanding → ℕ
    by_standing credit Open = credit
    by_standing credit (Reported report) = 0
    by_standing credit (Failed code) = 0

spent_same : (q : List ℕ) (x y : JobEntry) → AlikeEntries x y → spent_for q x ≡ spent_for q y
unfolding spent_for
spent_same q x y e = λ k. if◌then◌else◌ {A = ℕ} (bytes_eq q (e.tenant k)) (spent_by_job (e.standing k)) 0

sums_alike : (f : JobEntry → ℕ) → ((x y : JobEntry) → AlikeEntries x y → f x ≡ f y) → (xs ys : List JobEntry) → AlikeJobs xs ys → sum_by f xs ≡ sum_by f ys
sums_alike f same [] [] a = refl
sums_alike f same [] (y ∷ ys) a = absurd a
sums_alike f same (x ∷ xs) [] a = absurd a
sums_alike f same (x ∷ xs) (y ∷ ys) a =
    sum_by-cons f x xs ∙ (λ k. same x y a.0 k + sums_alike f same xs ys a.1 k) ∙ sym (sum_by-cons f y ys)

-- ---- desks

pub record AlikeDesks (d e : Ledger) : Type 0 where
  pub grants : (q : List ℕ) → granted_to d q ≡ granted_to e q
  pub past : (q : List ℕ) → past_of d q ≡ past_of e q
  pub jobs : AlikeJobs d.jobs e.jobs

account_with_alike : (xs ys : List JobEntry) (p r : ℕ) (name : List ℕ) (g : Option ℕ) → p ≡ r → AlikeJobs xs ys → account_in xs p name g ≡ account_in ys r name g
account_with_alike xs ys p r name None same a = refl
account_with_alike xs ys p r name (Some granted) same a =
    let opened = sums_alike (opened_for name) (opened_same name) xs ys a in
    let spent = sums_alike (spent_for name) (spent_same name) xs ys a in
    λ k. Ok (account_with granted (opened k) (same k + spent k))

pub account_alike : (d e : Ledger) (name : List ℕ) → AlikeDesks d e → account_at d name ≡ account_at e name
unfolding account_at
account_alike d e name a =
    account_with_alike d.jobs e.jobs (past_of d name) (past_of e name) name (granted_to d name) (a.past name) a.jobs
    ∙ ap (account_in e.jobs (past_of e name) name) (a.grants name)

report_options : (o p : Option JobEntry) → AlikeOptions o p → report_in o ≡ report_in p
report_options None None a = refl
report_options None (Some y) a = absurd a
report_options (Some x) None a = absurd a
report_options (Some x) (Some y) a = ap report_of a.standing

pub report_alike : (d e : Ledger) (number : ℕ) → AlikeDesks d e → report_at d number ≡ report_at e number
unfolding report_at
report_alike d e number a = report_options (job_at d.jobs number) (job_at e.jobs number) (job_alike d.jobs e.jobs number a.jobs)

-- ---- what happens at both

pub jobs_alike : (d e d' e' : Ledger) (xs ys : List JobEntry) → AlikeDesks d e → HasJobs d xs d' → HasJobs e ys e' → AlikeJobs xs ys → AlikeDesks d' e'
jobs_alike d e d' e' xs ys a first second jobs = record {
  grants = λ q. first.grants q ∙ a.grants q ∙ sym (second.grants q);
  past = λ q. first.past q ∙ a.past q ∙ sym (second.past q);
  jobs = let P : List JobEntry × List JobEntry → Type 0 = λ p. AlikeJobs p.0 p.1 in subst P (λ k. (sym first.jobs k, sym second.jobs k)) jobs;
}

settled_alike : (x y : JobEntry) (outcome : Result Report ℕ) → AlikeEntries x y → AlikeEntries (record x { standing = settled x.credit outcome }) (record y { standing = settled y.credit outcome })
settled_alike x y outcome e = record { tenant = e.tenant; credit = e.credit; standing = ap (λ n. settled n outcome) e.credit }

pub finishes_alike : (d e d' e' : Ledger) (number : ℕ) (outcome : Result Report ℕ) → AlikeDesks d e → Finishes d number outcome d' → Finishes e number outcome e' → AlikeDesks d' e'
finishes_alike d e d' e' number outcome a f g =
    jobs_alike d e d' e' _ _ a f.jobs g.jobs
    (set_alike d.jobs e.jobs (number - 1) _ _ a.jobs
    (settled_alike f.entry g.entry outcome (both_there (job_at d.jobs number) (job_at e.jobs number) f.entry g.entry (job_alike d.jobs e.jobs number a.jobs) f.was g.was)))

pub grants_alike : (d e d' e' : Ledger) (name : List ℕ) (amount : ℕ) → AlikeDesks d e → GrantsMore d name amount d' → GrantsMore e name amount e' → AlikeDesks d' e'
grants_alike d e d' e' name amount a first second = record {
  grants = λ q. first.grants q ∙ more q ∙ sym (second.grants q);
  past = λ q. first.past q ∙ a.past q ∙ sym (second.past q);
  jobs = let P : List JobEntry × List JobEntry → Type 0 = λ p. AlikeJobs p.0 p.1 in subst P (λ k. (sym first.jobs k, sym second.jobs k)) a.jobs;
}
  where
    more : (q : List ℕ) → update bytes_eq (granted_to d) name (Some (unwrap_or (granted_to d name) 0 + amount)) q ≡ update bytes_eq (granted_to e) name (Some (unwrap_or (granted_to e name) 0 + amount)) q
    more q = λ k. update bytes_eq (λ x. a.grants x k) name (Some (unwrap_or (a.grants name k) 0 + amount)) q
