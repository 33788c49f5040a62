-- The jobs that are held, from one state to the next, over what their keys and places find.
use Rattle.std.proofs.Common.{◌≡◌, ◌≢◌, ℕ, Option, Some, None, option_map, refl, sym, ap, subst, ◌∙◌, inl, inr}
use Rattle.std.proofs.lemmas.Bool.{cases_eq}
use Rattle.credit_book.specs.declared.board.Progress.{Progress}
use Rattle.job_pools.specs.declared.held_jobs.HeldJobs.{HeldJobs}
use Rattle.job_pools.specs.Holding.{HeldJob, AreKept, job_by}
use Rattle.job_pools.specs.Holds.{held_at, count_of, SeesHeld, looks_by, TellsProgress}

some_apart : {X : Type 0} (x y : X) → Some x ≡ Some y → x ≡ y
some_apart x y same = cc

-- the same place finds the same, however the places are changed elsewhere
by_key : (old new : ℕ → Option HeldJob) (found : Option ℕ) → ((key : ℕ) → found ≡ Some key → new key ≡ old key) → job_by new found ≡ job_by old found
by_key old new None same = refl
by_key old new (Some key) same = same key refl

-- every number but one keeps its key, and every key but one its job
abbrev pub SameBut : {X : Type 0} → (ℕ → Option X) → ℕ → (ℕ → Option X) → Type 0
SameBut old n new = (m : ℕ) → m ≢ n → new m ≡ old m

-- no number has a vacant key
vacant_apart : (keys : ℕ → Option ℕ) (jobs : ℕ → Option HeldJob) (key : ℕ) → AreKept keys jobs → jobs key ≡ None → (n k : ℕ) → keys n ≡ Some k → k ≢ key
vacant_apart keys jobs key kept vacant n k found = λ same.
    let clash : Some n ≡ None = sym (kept n k found) ∙ ap (option_map (λ held. held.number)) (ap jobs same ∙ vacant) in cc

-- no two numbers have one key
key_apart : (keys : ℕ → Option ℕ) (jobs : ℕ → Option HeldJob) (number key : ℕ) → AreKept keys jobs → keys number ≡ Some key → (n k : ℕ) → n ≢ number → keys n ≡ Some k → k ≢ key
key_apart keys jobs number key kept here n k differs found = λ same.
    let both : Some n ≡ Some number =
    sym (kept n k found) ∙ ap (λ m. option_map (λ held. held.number) (jobs m)) same ∙ kept number key here in
    differs (some_apart n number both)

-- ---- a job is added at a vacant key

pub kept_added : (keys keys' : ℕ → Option ℕ) (jobs jobs' : ℕ → Option HeldJob) (number key : ℕ) (held : HeldJob) → AreKept keys jobs → jobs key ≡ None → keys' number ≡ Some key → SameBut keys number keys' → jobs' key ≡ Some held → SameBut jobs key jobs' → held.number ≡ number → AreKept keys' jobs'
kept_added keys keys' jobs jobs' number key held kept vacant here others there elsewhere numbered n k found =
    elim (cases_eq n number) [
      | inl same ↦
          let is_key : k ≡ key = some_apart k key (sym found ∙ ap keys' same ∙ here) in
          ap (λ m. option_map (λ h. h.number) (jobs' m)) is_key ∙ ap (option_map (λ h. h.number)) there ∙ ap Some (numbered ∙ sym same)
      | inr differs ↦
          let was : keys n ≡ Some k = sym (others n differs) ∙ found in
          ap (option_map (λ h. h.number)) (elsewhere k (vacant_apart keys jobs key kept vacant n k was)) ∙ kept n k was
    ]

pub others_added : (keys keys' : ℕ → Option ℕ) (jobs jobs' : ℕ → Option HeldJob) (number key : ℕ) → AreKept keys jobs → jobs key ≡ None → SameBut keys number keys' → SameBut jobs key jobs' → (n : ℕ) → n ≢ number → job_by jobs' (keys' n) ≡ job_by jobs (keys n)
others_added keys keys' jobs jobs' number key kept vacant others elsewhere n differs =
    ap (job_by jobs') (others n differs)
    ∙ by_key jobs jobs' (keys n) (λ k found. elsewhere k (vacant_apart keys jobs key kept vacant n k found))

-- ---- a job is seen

pub kept_changed : (keys : ℕ → Option ℕ) (jobs jobs' : ℕ → Option HeldJob) (key : ℕ) (old new : HeldJob) → AreKept keys jobs → jobs key ≡ Some old → jobs' key ≡ Some new → SameBut jobs key jobs' → new.number ≡ old.number → AreKept keys jobs'
kept_changed keys jobs jobs' key old new kept was is elsewhere numbered n k found =
    elim (cases_eq k key) [
      | inl same ↦
          ap (λ m. option_map (λ h. h.number) (jobs' m)) same ∙ ap (option_map (λ h. h.number)) is ∙ ap Some numbered
          ∙ sym (ap (option_map (λ h. h.number)) was) ∙ sym (ap (λ m. option_map (λ h. h.number) (jobs m)) same) ∙ kept n k found
      | inr differs ↦ ap (option_map (λ h. h.number)) (elsewhere k differs) ∙ kept n k found
    ]

pub others_changed : (keys : ℕ → Option ℕ) (jobs jobs' : ℕ → Option HeldJob) (number key : ℕ) → AreKept keys jobs → keys number ≡ Some key → SameBut jobs key jobs' → (n : ℕ) → n ≢ number → job_by jobs' (keys n) ≡ job_by jobs (keys n)
others_changed keys jobs jobs' number key kept here elsewhere n differs =
    by_key jobs jobs' (keys n) (λ k found. elsewhere k (key_apart keys jobs number key kept here n k differs found))

-- ---- a job is given

pub kept_removed : (keys keys' : ℕ → Option ℕ) (jobs jobs' : ℕ → Option HeldJob) (number key : ℕ) → AreKept keys jobs → keys number ≡ Some key → keys' number ≡ None → SameBut keys number keys' → SameBut jobs key jobs' → AreKept keys' jobs'
kept_removed keys keys' jobs jobs' number key kept here gone others elsewhere n k found =
    elim (cases_eq n number) [
      | inl same ↦ absurd (let clash : Some k ≡ None = sym found ∙ ap keys' same ∙ gone in cc)
      | inr differs ↦
          let was : keys n ≡ Some k = sym (others n differs) ∙ found in
          ap (option_map (λ h. h.number)) (elsewhere k (key_apart keys jobs number key kept here n k differs was)) ∙ kept n k was
    ]

pub others_removed : (keys keys' : ℕ → Option ℕ) (jobs jobs' : ℕ → Option HeldJob) (number key : ℕ) → AreKept keys jobs → keys number ≡ Some key → SameBut keys number keys' → SameBut jobs key jobs' → (n : ℕ) → n ≢ number → job_by jobs' (keys' n) ≡ job_by jobs (keys n)
others_removed keys keys' jobs jobs' number key kept here others elsewhere n differs =
    ap (job_by jobs') (others n differs)
    ∙ by_key jobs jobs' (keys n) (λ k found. elsewhere k (key_apart keys jobs number key kept here n k differs found))

-- ---- nothing is changed, but the room

pub kept_same : (keys keys' : ℕ → Option ℕ) (jobs jobs' : ℕ → Option HeldJob) → AreKept keys jobs → ((n : ℕ) → keys' n ≡ keys n) → ((k : ℕ) → jobs' k ≡ jobs k) → AreKept keys' jobs'
kept_same keys keys' jobs jobs' kept same elsewhere n k found =
    ap (option_map (λ h. h.number)) (elsewhere k) ∙ kept n k (sym (same n) ∙ found)

-- ---- what is held by its key

pub numbered : (keys : ℕ → Option ℕ) (jobs : ℕ → Option HeldJob) (number key : ℕ) (held : HeldJob) → AreKept keys jobs → keys number ≡ Some key → jobs key ≡ Some held → held.number ≡ number
numbered keys jobs number key held kept here there =
    some_apart held.number number (sym (ap (option_map (λ h. h.number)) there) ∙ kept number key here)

pub found_at : (keys : ℕ → Option ℕ) (jobs : ℕ → Option HeldJob) (number key : ℕ) (held : HeldJob) → keys number ≡ Some key → jobs key ≡ Some held → job_by jobs (keys number) ≡ Some held
found_at keys jobs number key held here there = ap (job_by jobs) here ∙ there

is_job : (found : Option HeldJob) (n : ℕ) → option_map (λ h. h.number) found ≡ Some n → (held : HeldJob) × (found ≡ Some held)
is_job None n e = let clash : None ≡ Some n = e in absurd (cc)
is_job (Some held) n e = (held, refl)

pub is_there : (keys : ℕ → Option ℕ) (jobs : ℕ → Option HeldJob) (number key : ℕ) → AreKept keys jobs → keys number ≡ Some key → (held : HeldJob) × (jobs key ≡ Some held)
is_there keys jobs number key kept here = is_job (jobs key) number (kept number key here)

-- what is told of a job that is held
pub looks_held : (old : HeldJobs) (number : ℕ) (held : HeldJob) (told : Progress) (new : HeldJobs) → held_at old number ≡ Some held → SeesHeld old number held told new → TellsProgress old number told new
unfolding looks_by
looks_held old number held told new was sees = subst (λ o. looks_by held_at count_of old number o told new) (sym was) sees
