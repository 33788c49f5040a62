-- A desk that is put together from all of its records.
use Rattle.std.proofs.Common.{◌≡◌, ◌≢◌, ◌⊎◌, ◌+◌, ◌<◌, ◌≤◌, ◌==◌, ℕ, pos, All, Bool, true, false, cond, List, [], ◌∷◌, ◌++◌, filter, find, length, map, Option, Some, None, refl, sym, ap, subst, ◌∙◌, arith, int_eq, inl, inr, length-append}
use Rattle.std.proofs.lemmas.List.{append-nil}
use Rattle.ledger_records.specs.declared.restored_job.RestoredJob.{RestoredJob}
use Rattle.std.proofs.lemmas.Bool.Decides.{nat_tests}
use Rattle.std.proofs.lemmas.Int.{ints}
use Rattle.std.proofs.lemmas.List.Elements.{All-push}
use Rattle.sqlite_keyed.specs.Keyed.{get_by}
use Rattle.accounts.specs.Ledgers.{Ledger}
use Rattle.accounts.specs.Restoring.{AddsGone}
use Rattle.sessions.specs.JobKeys.{noted}
use Rattle.sessions.specs.declared.job_key.KeyedJob.{KeyedJob}
use Rattle.desk_records.specs.Columns.{most_numbers}
use Rattle.desk_records.specs.Made.{desk_key}
use Rattle.desk_records.specs.Stored.{Ledgers}
use Rattle.desk_records.specs.declared.stored_desk.StoredDesk.{StoredDesk}
use Rattle.desk_records.specs.declared.stored_job.StoredJob.{StoredJob}
use Rattle.desk_records.specs.declared.stored_key.StoredKey.{StoredKey}
use Rattle.server_state.specs.States.{DeskState}
use Rattle.ledger_records.specs.DeskRecords.{IsDeskOf, is_key_of, keyed_job, keyed_jobs_of}
use Rattle.ledger_records.specs.LedgerRecords.{HasFewerKeyed, HasFewerTaken, HasTaken, IsLedgerOf, desk_record, is_row_of, job_record}
use Rattle.ledger_records.specs.SoFar.{AreKeysSoFar, EndsSoFar, TellsLast, IsSoFar, NotesRow, StandsSoFar, TellsMore}
use Rattle.sqlite_keyed.proofs.KeyedLemmas.{int_eq_apart}
use Rattle.ledger_records.proofs.Finding.{itself}
use Rattle.ledger_records.proofs.Keys.{all_stay, few_noted, is_own, own_is}
use Rattle.ledger_records.proofs.SoFarLemmas.{gone_stands}

filter_more : (desk : ℕ) (xs : List StoredKey) (x : StoredKey) → filter (is_key_of desk) (xs ++ x ∷ []) ≡ filter (is_key_of desk) xs ++ cond (is_key_of desk x) (x ∷ []) []
filter_more desk [] x = go (is_key_of desk x)
  where
    go : (b : Bool) → cond b (x ∷ []) [] ≡ [] ++ cond b (x ∷ []) []
    go b = refl
filter_more desk (y ∷ ys) x = go (is_key_of desk y) (filter_more desk ys x)
  where
    go : (b : Bool) → filter (is_key_of desk) (ys ++ x ∷ []) ≡ filter (is_key_of desk) ys ++ cond (is_key_of desk x) (x ∷ []) [] → cond b (y ∷ filter (is_key_of desk) (ys ++ x ∷ [])) (filter (is_key_of desk) (ys ++ x ∷ [])) ≡ cond b (y ∷ filter (is_key_of desk) ys) (filter (is_key_of desk) ys) ++ cond (is_key_of desk x) (x ∷ []) []
    go true more = ap (λ (l : List StoredKey). y ∷ l) more
    go false more = more

map_joined : (xs ys : List StoredKey) → map keyed_job (xs ++ ys) ≡ map keyed_job xs ++ map keyed_job ys
map_joined [] ys = refl
map_joined (x ∷ xs) ys = ap (λ (l : List KeyedJob). keyed_job x ∷ l) (map_joined xs ys)

-- the keyed jobs of the desk with a row more
keys_more : (desk : ℕ) (xs : List StoredKey) (x : StoredKey) → keyed_jobs_of desk (xs ++ x ∷ []) ≡ keyed_jobs_of desk xs ++ map keyed_job (cond (is_key_of desk x) (x ∷ []) [])
keys_more desk xs x = ap (map keyed_job) (filter_more desk xs x) ∙ map_joined (filter (is_key_of desk) xs) (cond (is_key_of desk x) (x ∷ []) [])

pub key_noted : (desk count : ℕ) (done : List StoredKey) (row : StoredKey) (old new : List KeyedJob) → AreKeysSoFar desk count done old → NotesRow desk count row old new → AreKeysSoFar desk count (done ++ row ∷ []) new
key_noted desk count done row old new so (inl other) =
    let apart : is_key_of desk row ≡ false = (let o = other.0 in grind (arith, nat_tests, o)) in record {
      are = other.1 ∙ so.are ∙ sym (keys_more desk done row ∙ ap (λ (b : Bool). keyed_jobs_of desk done ++ map keyed_job (cond b (row ∷ []) [])) apart ∙ append-nil (keyed_jobs_of desk done));
      few = subst (λ (ks : List KeyedJob). length ks ≤ 1000) (sym other.1) so.few;
      fewer = All-push (HasFewerKeyed desk count) done row so.fewer (λ mine. absurd (other.0 mine));
    }
key_noted desk count done row old new so (inr own) =
    let mine : is_key_of desk row ≡ true = own_is desk row own.0 in record {
      are = own.3 ∙ all_stay old (keyed_job row) own.2 ∙ ap (λ (ks : List KeyedJob). ks ++ keyed_job row ∷ []) so.are ∙ sym (keys_more desk done row ∙ ap (λ (b : Bool). keyed_jobs_of desk done ++ map keyed_job (cond b (row ∷ []) [])) mine);
      few = subst (λ (ks : List KeyedJob). length ks ≤ 1000) (sym own.3) (few_noted old row.number row.key so.few);
      fewer = All-push (HasFewerKeyed desk count) done row so.fewer (λ _. own.1);
    }

-- the desk's row by its key
same_row : (desk : ℕ) (rows : List StoredDesk) → find (is_row_of desk) rows ≡ get_by desk_key rows (pos desk)
same_row desk [] = refl
same_row desk (d ∷ ds) =
    let test : is_row_of desk d ≡ int_eq (pos d.desk) (pos desk) = one_test d.desk desk in
    rw (test, same_row desk ds) refl
  where
    one_test : (n m : ℕ) → (n == m) ≡ int_eq (pos n) (pos m)
    one_test n m = go (n == m) refl
      where
        go : (b : Bool) → (n == m) ≡ b → b ≡ int_eq (pos n) (pos m)
        go true here =
            let same : n ≡ m = grind (arith, nat_tests) in
            sym (ap (λ (k : ℕ). int_eq (pos n) (pos k)) (sym same) ∙ itself (pos n))
        go false here = sym (int_eq_apart (pos n) (pos m) (λ (same : pos n ≡ pos m). let e : n ≡ m = cc same in grind (arith, nat_tests)))

from_parts : (desk : ℕ) (l : Ledgers) (state : DeskState) → StandsSoFar desk l.tenants l.jobs l.outcomes state.ledger → (length state.ledger.jobs ≡ 0) ⊎ (((job : StoredJob) × (job_record l desk (length state.ledger.jobs) ≡ Some job)) ⊎ ((d : StoredDesk) × (desk_record l desk ≡ Some d) × (d.taken ≡ length state.ledger.jobs)))
    → All (HasFewerTaken desk (length state.ledger.jobs)) l.desks → AreKeysSoFar desk (length state.ledger.jobs) l.keys state.keys → IsDeskOf desk l state
from_parts desk l state stands last fewer keys = record {
  ledger = record {
    granted = stands.granted;
    spent = stands.spent;
    jobs = stands.stand;
    taken = record { few = stands.few; jobs = stands.fewer; desks = fewer; keys = keys.fewer; last = last };
  };
  keys = keys.are;
  few = keys.few;
}

ends_last : (desk : ℕ) (l : Ledgers) (ledger : Ledger) → EndsSoFar desk l.jobs ledger → (length ledger.jobs ≡ 0) ⊎ (((job : StoredJob) × (job_record l desk (length ledger.jobs) ≡ Some job)) ⊎ ((d : StoredDesk) × (desk_record l desk ≡ Some d) × (d.taken ≡ length ledger.jobs)))
ends_last desk l ledger (inl none) = inl none
ends_last desk l ledger (inr job) = inr (inl job)

pub desk_is : (desk : ℕ) (l : Ledgers) (old : Ledger) (state : DeskState) (rs : List RestoredJob) → IsSoFar desk l.tenants l.jobs l.outcomes old rs → TellsLast desk l.desks old state.ledger → All (HasFewerTaken desk (length state.ledger.jobs)) l.desks → AreKeysSoFar desk (length state.ledger.jobs) l.keys state.keys → IsDeskOf desk l state
desk_is desk l old state rs so (inl same) fewer keys =
    from_parts desk l state (subst (λ (x : Ledger). StandsSoFar desk l.tenants l.jobs l.outcomes x) (sym same) so.stands) (ends_last desk l state.ledger (subst (λ (x : Ledger). EndsSoFar desk l.jobs x) (sym same) so.ends)) fewer keys
desk_is desk l old state rs so (inr more) fewer keys =
    let long : length state.ledger.jobs ≡ length old.jobs + more.count = (let p = ap length more.adds.jobs.jobs ∙ length-append old.jobs more.adds.gone in omega (arith, p, more.adds.counted)) in
    from_parts desk l state (gone_stands desk l.tenants l.jobs l.outcomes old state.ledger more.count so.stands more.adds (omega (arith, more.taken, more.few)))
    (inr (inr (more.row, sym (same_row desk l.desks) ∙ more.is, omega (arith, more.taken, long)))) fewer keys
