-- A change at one desk leaves the records of every other one.
use Rattle.std.proofs.Common.{◌≡◌, ◌≢◌, ◌<◌, ◌≤◌, ◌==◌, ℕ, pos, All, Bool, true, false, cond, List, length, Option, Some, None, refl, sym, ap, ◌∙◌, arith, int_eq, inl, inr, option_map, find}
use Rattle.std.proofs.lemmas.Bool.Decides.{nat_tests}
use Rattle.std.proofs.lemmas.Int.{ints}
use Rattle.sqlite_keyed.proofs.KeyedLemmas.{int_eq_apart}
use Rattle.sqlite_keyed.specs.Keyed.{get_by, insert_by}
use Rattle.accounts.specs.Ledgers.{Ledger}
use Rattle.desk_records.specs.Changes.{IsNarrowChange}
use Rattle.desk_records.specs.Columns.{id_of, most_numbers}
use Rattle.desk_records.specs.Made.{desk_key, made, outcome_key, stored_job_key, tenant_key}
use Rattle.desk_records.specs.Stored.{Ledgers}
use Rattle.desk_records.specs.declared.stored_change.ForgottenJobs.{ForgottenJobs}
use Rattle.desk_records.specs.declared.stored_change.NotedKey.{NotedKey}
use Rattle.desk_records.specs.declared.stored_change.SettledJob.{SettledJob}
use Rattle.desk_records.specs.declared.stored_change.StoredChange.TheVariants.{Forgotten, Granted, Settled, Taken}
use Rattle.desk_records.specs.declared.stored_change.TakenJob.{TakenJob}
use Rattle.desk_records.specs.declared.stored_desk.StoredDesk.{StoredDesk}
use Rattle.desk_records.specs.declared.stored_job.StoredJob.{StoredJob}
use Rattle.desk_records.specs.declared.stored_key.StoredKey.{StoredKey}
use Rattle.desk_records.specs.declared.stored_outcome.StoredOutcome.{StoredOutcome}
use Rattle.desk_records.specs.declared.stored_tenant.StoredTenant.{StoredTenant}
use Rattle.desk_records.proofs.MadeLemmas.{all_insert}
use Rattle.ledger_records.specs.ChangedRows.{is_number_in}
use Rattle.ledger_records.specs.LedgerRecords.{HasFewerJobs, HasFewerKeyed, HasFewerTaken, HasItsNumber, HasTaken, IsLedgerOf, desk_record, is_tenant, job_record, outcome_record, tenant_named}
use Rattle.ledger_records.proofs.Finding.{all_left, desks_apart, find_put, get_put, left_others}
use Rattle.ledger_records.proofs.Keys.{IfNoted, all_noted}
use Rattle.ledger_records.proofs.Steps.{stands_by}

not_there : (desk : ℕ) (q : List ℕ) (t : StoredTenant) → t.desk ≢ desk → is_tenant desk q t ≡ false
not_there desk q t other =
    let apart_desks : (t.desk == desk) ≡ false = grind (arith, nat_tests) in
    rw apart_desks refl

module _ (desk : ℕ) (l : Ledgers) (ledger : Ledger) (is : IsLedgerOf desk l ledger) where
  tenants_kept : (t : StoredTenant) → t.desk ≢ desk → HasItsNumber l.tenants t → (q : List ℕ) → find (is_tenant desk q) (insert_by tenant_key l.tenants t) ≡ tenant_named l desk q
  tenants_kept t other has q = find_put desk q l.tenants t has ∙ ap (λ b. cond b (Some t) (tenant_named l desk q)) (not_there desk q t other)

  job_kept : (job : StoredJob) → job.desk ≢ desk → job.number < most_numbers → (number : ℕ) → number < most_numbers → get_by stored_job_key (insert_by stored_job_key l.jobs job) (pos (id_of desk number)) ≡ job_record l desk number
  job_kept job other few number small = get_put stored_job_key l.jobs job (pos (id_of desk number)) ∙ ap (λ b. cond b (Some job) (job_record l desk number)) (desks_apart job.desk desk job.number number other few small)

  outcome_kept : (o : StoredOutcome) → o.desk ≢ desk → o.number < most_numbers → (number : ℕ) → number < most_numbers → get_by outcome_key (insert_by outcome_key l.outcomes o) (pos (id_of desk number)) ≡ outcome_record l desk number
  outcome_kept o other few number small = get_put outcome_key l.outcomes o (pos (id_of desk number)) ∙ ap (λ b. cond b (Some o) (outcome_record l desk number)) (desks_apart o.desk desk o.number number other few small)

  desk_kept : (d : StoredDesk) → d.desk ≢ desk → get_by desk_key (insert_by desk_key l.desks d) (pos desk) ≡ desk_record l desk
  desk_kept d other = get_put desk_key l.desks d (pos desk) ∙ ap (λ b. cond b (Some d) (desk_record l desk)) (int_eq_apart (pos d.desk) (pos desk) (λ (same : pos d.desk ≡ pos desk). other (let e : d.desk ≡ desk = cc same in e)))

  pub granted_elsewhere : (t : StoredTenant) → t.desk ≢ desk → HasItsNumber l.tenants t → IsLedgerOf desk (made l (Granted t)) ledger
  granted_elsewhere t other has = record {
    granted = λ q. is.granted q ∙ ap (option_map (λ (r : StoredTenant). r.granted)) (sym (tenants_kept t other has q));
    spent = λ q r there. is.spent q r (sym (tenants_kept t other has q) ∙ there);
    jobs = is.jobs;
    taken = record { few = is.taken.few; jobs = is.taken.jobs; desks = is.taken.desks; keys = is.taken.keys; last = is.taken.last };
  }

  pub taken_elsewhere : (t : TakenJob) → t.job.desk ≢ desk → t.job.number < most_numbers → IfNoted (λ k. k.desk ≢ desk) t.key → IsLedgerOf desk (made l (Taken t)) ledger
  taken_elsewhere t other few noted = record {
    granted = is.granted;
    spent = is.spent;
    jobs = λ number first small. stands_by _ _ _ _ _ _ refl (sym (job_kept t.job other few number small)) refl (is.jobs number first small);
    taken = record {
      few = is.taken.few;
      jobs = all_insert (HasFewerJobs desk (length ledger.jobs)) stored_job_key l.jobs t.job is.taken.jobs (λ own. absurd (other own));
      desks = is.taken.desks;
      keys = all_noted (HasFewerKeyed desk (length ledger.jobs)) l.keys t.key is.taken.keys (key_elsewhere t.key noted);
      last = elim is.taken.last [
        | inl none ↦ inl none
        | inr some ↦ elim some [
          | inl job ↦ inr (inl (job.0, job_kept t.job other few (length ledger.jobs) is.taken.few ∙ job.1))
          | inr d ↦ inr (inr d)
        ]
      ];
    };
  }
    where
      key_elsewhere : (key : Option NotedKey) → IfNoted (λ k. k.desk ≢ desk) key → IfNoted (HasFewerKeyed desk (length ledger.jobs)) key
      key_elsewhere None other = tt
      key_elsewhere (Some k) other = λ own. absurd (other own)

  pub settled_elsewhere : (s : SettledJob) → s.outcome.desk ≢ desk → s.outcome.number < most_numbers → s.tenant.desk ≢ desk → HasItsNumber l.tenants s.tenant → IsLedgerOf desk (made l (Settled s)) ledger
  settled_elsewhere s other few apart has = record {
    granted = λ q. is.granted q ∙ ap (option_map (λ (r : StoredTenant). r.granted)) (sym (tenants_kept s.tenant apart has q));
    spent = λ q r there. is.spent q r (sym (tenants_kept s.tenant apart has q) ∙ there);
    jobs = λ number first small. stands_by _ _ _ _ _ _ refl refl (sym (outcome_kept s.outcome other few number small)) (is.jobs number first small);
    taken = record { few = is.taken.few; jobs = is.taken.jobs; desks = is.taken.desks; keys = is.taken.keys; last = is.taken.last };
  }

  pub forgotten_elsewhere : (f : ForgottenJobs) → f.desk.desk ≢ desk → ((n : ℕ) → is_number_in n f.numbers.items ≡ true → n < most_numbers) → IsLedgerOf desk (made l (Forgotten f)) ledger
  forgotten_elsewhere f other few = record {
    granted = is.granted;
    spent = is.spent;
    jobs = λ number first small.
        stands_by _ _ _ _ _ _ refl (sym (left_others stored_job_key f.desk.desk desk l.jobs f.numbers.items number other few small)) (sym (left_others outcome_key f.desk.desk desk l.outcomes f.numbers.items number other few small)) (is.jobs number first small);
    taken = record {
      few = is.taken.few;
      jobs = all_left stored_job_key (HasFewerJobs desk (length ledger.jobs)) f.desk.desk l.jobs f.numbers.items is.taken.jobs;
      desks = all_insert (HasFewerTaken desk (length ledger.jobs)) desk_key l.desks f.desk is.taken.desks (λ own. absurd (other own));
      keys = is.taken.keys;
      last = elim is.taken.last [
        | inl none ↦ inl none
        | inr some ↦ elim some [
          | inl job ↦ inr (inl (job.0, left_others stored_job_key f.desk.desk desk l.jobs f.numbers.items (length ledger.jobs) other few is.taken.few ∙ job.1))
          | inr d ↦ inr (inr (d.0, desk_kept f.desk other ∙ d.1, d.2))
        ]
      ];
    };
  }
