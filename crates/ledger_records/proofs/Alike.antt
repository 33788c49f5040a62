-- Ledgers that have the same records.
use Rattle.std.proofs.Common.{◌≡◌, ◌+◌, ◌-◌, ◌<◌, ◌≤◌, ℕ, zero, suc, pos, All, List, [], ◌∷◌, length, slice_get, Bool, true, false, Option, Some, None, Ok, refl, sym, ap, subst, ◌∙◌, arith, inl, inr, option_map, int_eq, string_bytes}
use Rattle.std.specs.List.{AllZip}
use Rattle.std.specs.Str.{bytes_eq}
use Rattle.std.proofs.lemmas.List.Sums.{sum_by-cons}
use Rattle.std.proofs.lemmas.Option.{slice_get_within}
use Rattle.std.proofs.lemmas.Slice.Eq.{bytes_eq-Decides}
use Rattle.accounts.specs.Accounts.{account_with}
use Rattle.sqlite_keyed.proofs.KeyedLemmas.{same_int}
use Rattle.sqlite_keyed.proofs.SliceLemmas.{All-find}
use Rattle.sqlite_keyed.specs.Keyed.{get_by}
use Rattle.accounts.specs.Jobs.{job_at, opened_for, opened_in}
use Rattle.accounts.specs.Ledgers.{Ledger, account_at, account_in, granted_to, opened_by, past_of, spent_by_jobs}
use Rattle.accounts.proofs.Keeping.{opened_apart, opened_own}
use Rattle.desk_records.specs.Columns.{id_of, most_numbers}
use Rattle.desk_records.specs.Made.{desk_key, stored_job_key}
use Rattle.desk_records.specs.Records.{IsNarrowJob}
use Rattle.desk_records.specs.Stored.{AreNarrow}
use Rattle.ledger_records.specs.LedgerRecords.{AreLedgersAlike, CameTo, HasFewerJobs, HasFewerTaken, HasTaken, IsLedgerOf, StandsAs, desk_record, job_record, outcome_record, spent_of, tenant_named}
use Rattle.ledger_records.proofs.Finding.{found_key}
use Rattle.desk_records.specs.declared.stored_tenant.StoredTenant.{StoredTenant}
use Rattle.ledger_records.proofs.Keys.{same_id}
use Rattle.ledger_records.proofs.Steps.{at_number, stands_by}
use Rattle.accounts.specs.declared.jobs.JobEntry.{JobEntry}
use Rattle.accounts.specs.declared.jobs.JobStanding.{JobStanding}
use Rattle.accounts.specs.declared.jobs.JobStanding.TheVariants as stands
use Rattle.desk_journal.specs.AlikeDesks.{AreEntriesAlike, StandAlike}
use Rattle.desk_records.specs.Stored.{Ledgers}
use Rattle.desk_records.specs.declared.stored_job.StoredJob.{StoredJob}
use Rattle.desk_records.specs.declared.stored_outcome.StoredOutcome.{StoredOutcome}
use Rattle.desk_records.specs.declared.stored_outcome.StoredResult.{StoredResult}
use Rattle.desk_records.specs.declared.stored_outcome.StoredResult.TheVariants as stored

came_alike : (a b : JobStanding) (result : StoredResult) → CameTo a result → CameTo b result → StandAlike a b
came_alike stands.Open b result one two = absurd one
came_alike (stands.Reported x) stands.Open result one two = absurd two
came_alike (stands.Reported x) (stands.Reported y) (stored.Failed code) one two = absurd one
came_alike (stands.Reported x) (stands.Reported y) (stored.Reported r) one two = record {
  spent = one.0 ∙ sym two.0;
  returned = one.1 ∙ sym two.1;
  bytes = rw (one.0 ∙ sym two.0, one.1 ∙ sym two.1, one.2 ∙ sym two.2, one.3 ∙ sym two.3) refl;
}
came_alike (stands.Reported x) (stands.Failed code) (stored.Failed other) one two = absurd one
came_alike (stands.Reported x) (stands.Failed code) (stored.Reported r) one two = absurd two
came_alike (stands.Failed code) stands.Open result one two = absurd two
came_alike (stands.Failed code) (stands.Reported y) (stored.Failed other) one two = absurd two
came_alike (stands.Failed code) (stands.Reported y) (stored.Reported r) one two = absurd one
came_alike (stands.Failed code) (stands.Failed other) (stored.Failed told) one two = one ∙ sym two
came_alike (stands.Failed code) (stands.Failed other) (stored.Reported r) one two = absurd one

stand_same : (a b s : JobStanding) → a ≡ s → b ≡ s → StandAlike s s → StandAlike a b
stand_same a b s p q h = subst (λ x. StandAlike x b) (sym p) (subst (λ y. StandAlike s y) (sym q) h)

entries_alike : (a b : JobEntry) (job : Option StoredJob) (outcome : Option StoredOutcome) → StandsAs (Some a) job outcome → StandsAs (Some b) job outcome → AreEntriesAlike a b
entries_alike a b None None one two = record {
  tenant = one.tenant ∙ sym two.tenant;
  credit = one.credit ∙ sym two.credit;
  standing = stand_same a.standing b.standing (stands.Failed 76) one.standing two.standing refl;
}
entries_alike a b None (Some outcome) one two = absurd one
entries_alike a b (Some job) None one two = record {
  tenant = one.0.tenant ∙ sym two.0.tenant;
  credit = one.0.credit ∙ sym two.0.credit;
  standing = stand_same a.standing b.standing stands.Open one.1 two.1 tt;
}
entries_alike a b (Some job) (Some outcome) one two = record {
  tenant = one.0.tenant ∙ sym two.0.tenant;
  credit = one.0.credit ∙ sym two.0.credit;
  standing = came_alike a.standing b.standing outcome.outcome one.1 two.1;
}

-- ---- as many jobs

-- no more jobs than the last one that is told of
no_more : (desk : ℕ) (l : Ledgers) (few many : ℕ) → AreNarrow l → HasTaken desk l few → HasTaken desk l many → many ≤ few
no_more desk l few many narrow one two = elim two.last [
  | inl none ↦ omega (arith, none)
  | inr some ↦ elim some [
    | inl job ↦ let key = found_key stored_job_key l.jobs job.0 (pos (id_of desk many)) job.1 in
        let there = All-find (HasFewerJobs desk few) (λ j. int_eq (stored_job_key j) (pos (id_of desk many))) l.jobs job.0 one.jobs job.1 in
        let small = All-find IsNarrowJob (λ j. int_eq (stored_job_key j) (pos (id_of desk many))) l.jobs job.0 narrow.jobs job.1 in
        let same = same_id job.0.desk desk job.0.number many small.number two.few (same_int (stored_job_key job.0) (pos (id_of desk many)) key) in
        let less = there same.0 in omega (arith, less, same.1)
    | inr d ↦ let key = found_key desk_key l.desks d.0 (pos desk) d.1 in
        let there = All-find (HasFewerTaken desk few) (λ x. int_eq (desk_key x) (pos desk)) l.desks d.0 one.desks d.1 in
        let same : pos d.0.desk ≡ pos desk = same_int (pos d.0.desk) (pos desk) key in
        let own : d.0.desk ≡ desk = cc same in
        let less = there own in omega (arith, less, d.2)
  ]
]

pub one_count : (desk : ℕ) (l : Ledgers) (few many : ℕ) → AreNarrow l → HasTaken desk l few → HasTaken desk l many → few ≡ many
one_count desk l few many narrow one two = omega (arith, no_more desk l few many narrow one two, no_more desk l many few narrow two one)

-- lists that are as long, and alike place by place
zipped : (xs ys : List JobEntry) → length xs ≡ length ys → ((i : ℕ) (a b : JobEntry) → slice_get xs i ≡ Some a → slice_get ys i ≡ Some b → AreEntriesAlike a b) → AllZip AreEntriesAlike xs ys
zipped [] [] long each = tt
zipped [] (y ∷ ys) long each = absurd (cc)
zipped (x ∷ xs) [] long each = absurd (cc)
zipped (x ∷ xs) (y ∷ ys) long each = (each zero x y refl refl, zipped xs ys (cc long) (λ i a b p q. each (suc i) a b p q))

-- ---- as much credit that is open

open_alike : (name : List ℕ) (a b : JobEntry) (s u : JobStanding) → a.credit ≡ b.credit → StandAlike s u → opened_in a s ≡ opened_in b u
open_alike name a b stands.Open stands.Open credit same = credit
open_alike name a b stands.Open (stands.Reported r) credit same = absurd same
open_alike name a b stands.Open (stands.Failed c) credit same = absurd same
open_alike name a b (stands.Reported r) stands.Open credit same = absurd same
open_alike name a b (stands.Reported r) (stands.Reported q) credit same = refl
open_alike name a b (stands.Reported r) (stands.Failed c) credit same = absurd same
open_alike name a b (stands.Failed c) stands.Open credit same = absurd same
open_alike name a b (stands.Failed c) (stands.Reported q) credit same = absurd same
open_alike name a b (stands.Failed c) (stands.Failed d) credit same = refl

opened_alike : (name : List ℕ) (a b : JobEntry) → AreEntriesAlike a b → opened_for name a ≡ opened_for name b
opened_alike name a b alike = by_name (bytes_eq name (string_bytes a.tenant)) refl
  where
    by_name : (c : Bool) → bytes_eq name (string_bytes a.tenant) ≡ c → opened_for name a ≡ opened_for name b
    by_name true own =
        let named : name ≡ string_bytes a.tenant = (bytes_eq-Decides name (string_bytes a.tenant)).0 own in
        opened_own name a (sym named) ∙ open_alike name a b a.standing b.standing alike.credit alike.standing ∙ sym (opened_own name b (sym alike.tenant ∙ sym named))
    by_name false other = opened_apart name a other ∙ sym (opened_apart name b (ap (bytes_eq name) (sym alike.tenant) ∙ other))

opened_same : (name : List ℕ) (xs ys : List JobEntry) → AllZip AreEntriesAlike xs ys → opened_by xs name ≡ opened_by ys name
opened_same name [] [] alike = refl
opened_same name [] (y ∷ ys) alike = absurd alike
opened_same name (x ∷ xs) [] alike = absurd alike
opened_same name (x ∷ xs) (y ∷ ys) alike = omega (arith, sum_by-cons (opened_for name) x xs, sum_by-cons (opened_for name) y ys, opened_alike name x y alike.0, opened_same name xs ys alike.1)

account_same : (first second : Ledger) (name : List ℕ) (o : Option ℕ) → granted_to first name ≡ o → granted_to second name ≡ o → ((g : ℕ) → o ≡ Some g → spent_of first name ≡ spent_of second name) → opened_by first.jobs name ≡ opened_by second.jobs name
    → account_at first name ≡ account_at second name
unfolding account_at
account_same first second name None one two spent opened = ap (account_in first.jobs (past_of first name) name) one ∙ sym (ap (account_in second.jobs (past_of second name) name) two)
account_same first second name (Some g) one two spent opened =
    ap (account_in first.jobs (past_of first name) name) one
    ∙ ap (λ (s : ℕ). Ok (account_with g (opened_by first.jobs name) s)) (spent g refl)
    ∙ ap (λ (o : ℕ). Ok (account_with g o (spent_of second name))) opened
    ∙ sym (ap (account_in second.jobs (past_of second name) name) two)

pub ledgers_alike : (desk : ℕ) (l : Ledgers) (first second : Ledger) → AreNarrow l → IsLedgerOf desk l first → IsLedgerOf desk l second → AreLedgersAlike first second
ledgers_alike desk l first second narrow one two = record {
  granted = λ name. one.granted name ∙ sym (two.granted name);
  accounts = λ name. account_same first second name (granted_to second name) (one.granted name ∙ sym (two.granted name)) refl (λ g there. spent name (tenant_named l desk name) refl g (sym (two.granted name) ∙ there)) (opened_same name first.jobs second.jobs alike);
  jobs = alike;
}
  where
    stands_at : (jobs : List JobEntry) (number : ℕ) (e : JobEntry) (i : ℕ) → number ≡ i + 1 → slice_get jobs i ≡ Some e → job_at jobs number ≡ Some e
    stands_at jobs number e i at there =
        let before : number - 1 ≡ i = omega (arith, at) in
        at_number jobs number (omega (arith, at)) ∙ ap (slice_get jobs) before ∙ there

    entry : (ledger : Ledger) → IsLedgerOf desk l ledger → (i : ℕ) (e : JobEntry) → slice_get ledger.jobs i ≡ Some e → StandsAs (Some e) (job_record l desk (i + 1)) (outcome_record l desk (i + 1))
    entry ledger is i e there =
        let within : i < length ledger.jobs = slice_get_within ledger.jobs i e there in
        stands_by _ (Some e) _ _ _ _ (stands_at ledger.jobs (i + 1) e i refl there) refl refl (is.jobs (i + 1) (omega arith) (omega (arith, within, is.taken.few)))

    alike : AllZip AreEntriesAlike first.jobs second.jobs
    alike = zipped first.jobs second.jobs (one_count desk l (length first.jobs) (length second.jobs) narrow one.taken two.taken) (λ i a b p q. entries_alike a b (job_record l desk (i + 1)) (outcome_record l desk (i + 1)) (entry first one i a p) (entry second two i b q))

    spent : (name : List ℕ) (o : Option StoredTenant) → tenant_named l desk name ≡ o → (g : ℕ) → option_map (λ (t : StoredTenant). t.granted) (tenant_named l desk name) ≡ Some g → spent_of first name ≡ spent_of second name
    spent name None none g there = let p : option_map (λ (t : StoredTenant). t.granted) None ≡ Some g = ap (option_map (λ (t : StoredTenant). t.granted)) (sym none) ∙ there in absurd (cc)
    spent name (Some t) found g there = one.spent name t found ∙ sym (two.spent name t found)
