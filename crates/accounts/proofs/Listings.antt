-- Jobs that are listed one after the other.
use Rattle.std.proofs.Common.{◌≡◌, ◌≢◌, ◌⊎◌, inl, inr, ℕ, zero, suc, ◌+◌, ◌-◌, ◌≤◌, ◌<◌, List, [], ◌∷◌, ◌++◌, length, take, drop, slice_get, nat_eq, Bool, true, false, if◌then◌else◌, Option, Some, None, string_bytes, refl, sym, ap, ◌∙◌, subst, arith, length-append}
use Rattle.std.proofs.lemmas.Bool.{cases_lt}
use Rattle.std.proofs.lemmas.Bool.Decides.{nat_tests}
use Rattle.std.proofs.lemmas.List.{append_assoc, append-nil, take-append-le}
use Rattle.std.proofs.lemmas.Option.{slice_get_within}
use Rattle.std.proofs.Math.Seq.{take-length}
use Rattle.std.specs.Str.{bytes_eq}
use Rattle.accounts.specs.declared.jobs.JobEntry.{JobEntry}
use Rattle.accounts.specs.declared.listing.ListedJob.{ListedJob}
use Rattle.accounts.specs.declared.listing.ListedState.{ListedState}
use Rattle.accounts.specs.declared.kept_jobs.KeptJobs.{KeptJobs}
use Rattle.accounts.specs.Forgetting.{IsGone}
use Rattle.accounts.specs.Numbered.{IsSound, jobs_numbered, entry_at}
use Rattle.accounts.proofs.Listed.{job_missing, job_none}
use Rattle.accounts.specs.Jobs.{job_at}
use Rattle.accounts.specs.Listing.{all_listed, listed_from, listed_job, listed_state, listing, most_listed}

-- ---- one job

empty_eq : (name : List ℕ) → length name ≡ 0 → bytes_eq name [] ≡ true
empty_eq [] none = refl
empty_eq (b ∷ name) none = absurd (omega (arith, none))

some_eq : (name : List ℕ) → 0 < length name → bytes_eq name [] ≡ false
some_eq [] some = absurd (omega (arith, some))
some_eq (b ∷ name) some = refl

-- one that is nobody's is left out
pub nobodys : (found : List ListedJob) (number : ℕ) (entry : JobEntry) → length (string_bytes entry.tenant) ≡ 0 → found ≡ found ++ listed_job number entry
nobodys found number entry none =
    sym (append-nil found)
    ∙ ap (λ (b : Bool). found ++ if◌then◌else◌ {A = List ListedJob} b [] (record { job = number; state = listed_state entry.standing } ∷ [])) (sym (empty_eq (string_bytes entry.tenant) none))

-- any other isn't
pub somebodys : (found after : List ListedJob) (number : ℕ) (state : ListedState) (entry : JobEntry) → 0 < length (string_bytes entry.tenant) → state ≡ listed_state entry.standing
    → after ≡ found ++ record { job = number; state = state } ∷ [] → after ≡ found ++ listed_job number entry
somebodys found after number state entry some is more =
    more ∙ ap (λ (s : ListedState). found ++ record { job = number; state = s } ∷ []) is
    ∙ ap (λ (b : Bool). found ++ if◌then◌else◌ {A = List ListedJob} b [] (record { job = number; state = listed_state entry.standing } ∷ [])) (sym (some_eq (string_bytes entry.tenant) some))

-- ---- all of them

drop_at : {X : Type 0} (xs : List X) (n : ℕ) (x : X) → slice_get xs n ≡ Some x → drop n xs ≡ x ∷ drop (suc n) xs
drop_at [] n x at = absurd cc
drop_at (y ∷ xs) zero x at = let same : y ≡ x = cc in ap (λ z. z ∷ xs) same
drop_at (y ∷ xs) (suc n) x at = drop_at xs n x at

drop_none : {X : Type 0} (xs : List X) (n : ℕ) → slice_get xs n ≡ None → drop n xs ≡ []
drop_none [] zero at = refl
drop_none [] (suc n) at = refl
drop_none (y ∷ xs) zero at = absurd cc
drop_none (y ∷ xs) (suc n) at = drop_none xs n at

drop_all : {X : Type 0} (xs : List X) (n : ℕ) → length xs ≤ n → drop n xs ≡ []
drop_all [] zero le = refl
drop_all [] (suc n) le = refl
drop_all (y ∷ xs) zero le = absurd (omega (arith, le))
drop_all (y ∷ xs) (suc n) le = drop_all xs n (omega (arith, le))

job_is : (jobs : List JobEntry) (number : ℕ) → 1 ≤ number → job_at jobs number ≡ slice_get jobs (number - 1)
job_is jobs number some =
    let is : nat_eq number 0 ≡ false = grind (arith, nat_tests, some) in
    ap (λ (b : Bool). if◌then◌else◌ {A = Option JobEntry} b None (slice_get jobs (number - 1))) is

-- a job's number is at most the last one
pub number_within : (jobs : List JobEntry) (number : ℕ) (entry : JobEntry) → 1 ≤ number → job_at jobs number ≡ Some entry → number ≤ length jobs
number_within jobs number entry some at =
    let lt = slice_get_within jobs (number - 1) entry (sym (job_is jobs number some) ∙ at) in
    omega (arith, some, lt)

-- the job of a number, and those behind it
pub listed_one : (jobs : List JobEntry) (number : ℕ) (entry : JobEntry) → 1 ≤ number → job_at jobs number ≡ Some entry → listed_from jobs number ≡ listed_job number entry ++ listed_from jobs (number + 1)
unfolding listed_from
listed_one jobs number entry some at =
    let next : suc (number - 1) ≡ number + 1 - 1 = omega (arith, some) in
    ap (all_listed number) (drop_at jobs (number - 1) entry (sym (job_is jobs number some) ∙ at))
    ∙ ap (λ (k : ℕ). listed_job number entry ++ all_listed (number + 1) (drop k jobs)) next

-- none has this number
pub listed_none : (jobs : List JobEntry) (number : ℕ) → 1 ≤ number → job_at jobs number ≡ None → listed_from jobs number ≡ []
unfolding listed_from
listed_none jobs number some at = ap (all_listed number) (drop_none jobs (number - 1) (sym (job_is jobs number some) ∙ at))

-- none has a number over the last one
pub listed_past : (jobs : List JobEntry) (number : ℕ) → length jobs < number → listed_from jobs number ≡ []
unfolding listed_from
listed_past jobs number past = ap (all_listed number) (drop_all jobs (number - 1) (omega (arith, past)))

-- ---- past jobs that are forgotten

gone_job : (number : ℕ) (gone : JobEntry) → IsGone gone → listed_job number gone ≡ []
gone_job number gone is =
    ap (λ (b : Bool). if◌then◌else◌ {A = List ListedJob} b [] (record { job = number; state = listed_state gone.standing } ∷ [])) (empty_eq (string_bytes gone.tenant) (ap length is.tenant))

-- the next number, past one that is forgotten or that nobody has
past_one : (k : KeptJobs) → IsSound k → (number : ℕ) → 1 ≤ number → entry_at k number ≡ None → listed_from (jobs_numbered k) (number + 1) ≡ listed_from (jobs_numbered k) number
past_one k sound number some none = by (cases_lt k.count number)
  where
    jobs : List JobEntry
    jobs = jobs_numbered k

    by : (k.count < number) ⊎ (number ≤ k.count) → listed_from (jobs_numbered k) (number + 1) ≡ listed_from (jobs_numbered k) number
    by (inl past) =
        listed_none jobs (number + 1) (omega arith) (sym (job_none k (number + 1) (omega (arith, past))))
        ∙ sym (listed_none jobs number some (sym (job_none k number past)))
    by (inr most) =
        sym (listed_one jobs number k.gone some (sym (job_missing k number some most none))
        ∙ ap (λ l. l ++ listed_from jobs (number + 1)) (gone_job number k.gone sound.gone))

-- a number so many behind this one, where all between are forgotten
past_gone : (k : KeptJobs) → IsSound k → (more number : ℕ) → 1 ≤ number → ((n : ℕ) → number ≤ n → n < number + more → entry_at k n ≡ None) → listed_from (jobs_numbered k) (number + more) ≡ listed_from (jobs_numbered k) number
past_gone k sound zero number some none = ap (listed_from (jobs_numbered k)) (let same : number + 0 ≡ number = omega arith in same)
past_gone k sound (suc more) number some none =
    let there : number + suc more ≡ number + 1 + more = omega arith in
    ap (listed_from (jobs_numbered k)) there
    ∙ past_gone k sound more (number + 1) (omega arith) (λ n least lt. none n (omega (arith, least)) (omega (arith, lt)))
    ∙ past_one k sound number some (none number (omega arith) (omega arith))

pub kept_from_gone : (k : KeptJobs) → IsSound k → (number first : ℕ) → 1 ≤ number → number ≤ first → ((n : ℕ) → number ≤ n → n < first → entry_at k n ≡ None) → listed_from (jobs_numbered k) first ≡ listed_from (jobs_numbered k) number
kept_from_gone k sound number first some later none =
    let whole : number + (first - number) ≡ first = omega (arith, later) in
    ap (listed_from (jobs_numbered k)) (sym whole)
    ∙ past_gone k sound (first - number) number some (λ n least lt. none n least (omega (arith, lt, whole)))

-- ---- the first of them

take_enough : {X : Type 0} (n : ℕ) (xs ys : List X) → length xs ≡ n → take n (xs ++ ys) ≡ xs
take_enough n xs ys is =
    take-append-le n xs ys (omega (arith, is)) ∙ ap (λ (k : ℕ). take k xs) (sym is) ∙ take-length xs

take_short : {X : Type 0} (n : ℕ) (xs : List X) → length xs ≤ n → take n xs ≡ xs
take_short zero [] le = refl
take_short zero (x ∷ xs) le = absurd (omega (arith, le))
take_short (suc n) [] le = refl
take_short (suc n) (x ∷ xs) le = ap (λ l. x ∷ l) (take_short n xs (omega (arith, le)))

-- so many were found, and these are still to come
pub found_enough : (jobs : List JobEntry) (from : ℕ) (found rest : List ListedJob) → listed_from jobs from ≡ found ++ rest → length found ≤ most_listed → most_listed ≤ length found → found ≡ listing jobs from
found_enough jobs from found rest is most enough =
    sym (ap (take most_listed) is ∙ take_enough most_listed found rest (omega (arith, most, enough)))

-- and no more are to come
pub found_all : (jobs : List JobEntry) (from : ℕ) (found rest : List ListedJob) → listed_from jobs from ≡ found ++ rest → rest ≡ [] → length found ≤ most_listed → found ≡ listing jobs from
found_all jobs from found rest is none most =
    sym (ap (take most_listed) (is ∙ ap (λ r. found ++ r) none ∙ append-nil found) ∙ take_short most_listed found most)

-- at most one more
one_at_most : (number : ℕ) (entry : JobEntry) → length (listed_job number entry) ≤ 1
one_at_most number entry = by_test (bytes_eq (string_bytes entry.tenant) [])
  where
    by_test : (b : Bool) → length (if◌then◌else◌ {A = List ListedJob} b [] (record { job = number; state = listed_state entry.standing } ∷ [])) ≤ 1
    by_test true = omega arith
    by_test false = omega arith

pub found_more : (number : ℕ) (entry : JobEntry) (found after : List ListedJob) → after ≡ found ++ listed_job number entry → length found < most_listed → length after ≤ most_listed
found_more number entry found after is few =
    let one = one_at_most number entry in
    let all : length after ≡ length found + length (listed_job number entry) = ap length is ∙ length-append found (listed_job number entry) in
    omega (arith, one, all, few)

-- what was to come from a number on is what is found there, and what is to come behind it
pub found_then : (jobs : List JobEntry) (from number here : ℕ) (entry : JobEntry) (found after : List ListedJob) → listed_from jobs from ≡ found ++ listed_from jobs number → listed_from jobs here ≡ listed_from jobs number
    → 1 ≤ here → job_at jobs here ≡ Some entry → after ≡ found ++ listed_job here entry → listed_from jobs from ≡ after ++ listed_from jobs (here + 1)
found_then jobs from number here entry found after was same some at is =
    was ∙ ap (λ l. found ++ l) (sym same ∙ listed_one jobs here entry some at)
    ∙ sym (append_assoc found (listed_job here entry) (listed_from jobs (here + 1)))
    ∙ ap (λ l. l ++ listed_from jobs (here + 1)) (sym is)
