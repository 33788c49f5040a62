-- Histories of desks whose changes are recorded.
use Rattle.std.proofs.Common.{◌≡◌, ℕ, false, List, slice_get, Option, Some, Result, refl, sym, subst}
use Rattle.credit_book.specs.declared.book.Report.{Report}
use Rattle.credit_book.specs.declared.board.Progress.{Progress}
use Rattle.job_core.specs.Admitted.{AdmittedJob}
use Rattle.accounts.specs.Ledgers.{Ledger}
use Rattle.shared_desk.specs.Histories.{HistoryEntry, Replays, none_yet, one_more}
use Rattle.tenant_desks.specs.Tenancies.{Tenancy}
use Rattle.tenant_desks.specs.Alone.{IsTenantHistory}
use Rattle.tenant_desks.specs.Answering.{KeptRunner, named_answers}
use Rattle.sessions.specs.declared.job_key.KeyedJob.{KeyedJob}
use Rattle.desk_recorder.specs.Histories.{IsDeskHistory, RecordsLead}
use Rattle.desk_recorder.specs.Recording.{noted_each}
use Rattle.desk_recorder.specs.declared.recorder.ChangeRecorder.{ChangeRecorder}
use Rattle.desk_recorder.proofs.Composed.{leads_on}
use Rattle.tenant_recorder.specs.Recorders.{AreRecorded}
use Rattle.tenant_recorder.specs.TenantsRecorded.{AreInStep, RecordedRunner, named_answers_recorded, unrecorded}
use Rattle.tenant_recorder.proofs.EachPlace.{recorded_nothing, recorded_then}

module _ {R Q : Type 0} (starts : R → ℕ → AdmittedJob → Result (Unit {0}) ℕ → R → Type 0) (looks : R → ℕ → Progress → R → Type 0)
    (takes : R → Option (ℕ × Result Report ℕ) → R → Type 0) (taken : Q → List ℕ) (failed : Q → Type 0) where
  abbrev State : Type 0
  State = Tenancy × RecordedRunner R Q

  -- what each recorder took is what changed its desk
  pub led_at : (before after : List (ChangeRecorder Q)) (old new : List Ledger) (place : ℕ) (p q : ChangeRecorder Q) (d e : Ledger) (history : List (List ℕ)) (keys : List KeyedJob)
      → AreRecorded taken failed before after old new → slice_get before place ≡ Some p → slice_get after place ≡ Some q → slice_get old place ≡ Some d → slice_get new place ≡ Some e
      → IsDeskHistory history d keys → q.is_stopped ≡ false → (keyed : List KeyedJob) × RecordsLead taken p.queue q.queue history e (noted_each keys keyed)
  led_at before after old new place p q d e history keys records at_p at_q at_d at_e led on =
      let more = records.each place p q d e at_p at_q at_d at_e in
      (more.0, leads_on taken failed p.queue q.queue history keys more.0 d e led (more.1.records on))

  -- so it is over a history
  all_recorded : (s : State) (answers : List HistoryEntry) (t : State) → Replays (named_answers_recorded starts looks takes taken failed) (λ x. x ≡ s) answers t
      → AreRecorded taken failed s.1.recorders t.1.recorders s.0.desks t.0.desks
  all_recorded s answers t (none_yet u begins) =
      subst (λ (x : State). AreRecorded taken failed x.1.recorders t.1.recorders x.0.desks t.0.desks) begins (recorded_nothing taken failed u.1.recorders u.0.desks)
  all_recorded s answers t (one_more earlier u e v before answered) =
      recorded_then taken failed s.1.recorders u.1.recorders v.1.recorders s.0.desks u.0.desks v.0.desks (all_recorded s earlier u before) answered.1

  pub answers_recorded : (answers : List HistoryEntry) (s t : State) → Replays (named_answers_recorded starts looks takes taken failed) (λ x. x ≡ s) answers t
      → AreRecorded taken failed s.1.recorders t.1.recorders s.0.desks t.0.desks
  answers_recorded answers s t replays = all_recorded s answers t replays

  pub answers_lead : (answers : List HistoryEntry) (s t : State) (place : ℕ) (p q : ChangeRecorder Q) (d e : Ledger) (history : List (List ℕ)) (keys : List KeyedJob)
      → Replays (named_answers_recorded starts looks takes taken failed) (λ x. x ≡ s) answers t
      → slice_get s.1.recorders place ≡ Some p → slice_get t.1.recorders place ≡ Some q → slice_get s.0.desks place ≡ Some d → slice_get t.0.desks place ≡ Some e
      → IsDeskHistory history d keys → q.is_stopped ≡ false → (keyed : List KeyedJob) × RecordsLead taken p.queue q.queue history e (noted_each keys keyed)
  answers_lead answers s t place p q d e history keys replays =
      led_at s.1.recorders t.1.recorders s.0.desks t.0.desks place p q d e history keys (all_recorded s answers t replays)

  -- the recorders change no answer

  in_step : (s : State) (answers : List HistoryEntry) (t : State) → AreInStep s → Replays (named_answers_recorded starts looks takes taken failed) (λ x. x ≡ s) answers t → AreInStep t
  in_step s answers t step (none_yet u begins) = subst (λ (x : State). AreInStep x) (sym begins) step
  in_step s answers t step (one_more earlier u e v before answered) = (answered.0 (in_step s earlier u step before)).1

  pub without : (begins : Tenancy × KeptRunner R → Type 0) (s : State) (answers : List HistoryEntry) (t : State) → AreInStep s → begins (unrecorded s)
      → Replays (named_answers_recorded starts looks takes taken failed) (λ x. x ≡ s) answers t → Replays (named_answers starts looks takes) begins answers (unrecorded t)
  without begins s answers t step so (none_yet u is) = none_yet (unrecorded u) (subst (λ (x : State). begins (unrecorded x)) (sym is) so)
  without begins s answers t step so (one_more earlier u e v before answered) =
      one_more earlier (unrecorded u) e (unrecorded v) (without begins s earlier u step so before) (answered.0 (in_step s earlier u step before)).0

  pub same_answers : (answers : List HistoryEntry) (s t : State) → AreInStep s → Replays (named_answers_recorded starts looks takes taken failed) (λ x. x ≡ s) answers t
      → Replays (named_answers starts looks takes) (λ x. x ≡ unrecorded s) answers (unrecorded t) × AreInStep t
  same_answers answers s t step replays = (without (λ x. x ≡ unrecorded s) s answers t step refl replays, in_step s answers t step replays)

  pub same_history : (answers : List HistoryEntry) (s t : State) → AreInStep s → Replays (named_answers_recorded starts looks takes taken failed) (λ x. x ≡ s) answers t
      → IsTenantHistory starts looks takes s.0.names s.0.desks s.1.keep answers (unrecorded t)
  same_history answers s t step = without (λ x. (x.0 ≡ record { names = s.0.names; desks = s.0.desks }) × (x.1.keep ≡ s.1.keep)) s answers t step (refl, refl)
