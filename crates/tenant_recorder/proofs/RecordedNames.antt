-- A history of recorded desks at whose doors the tenant's name may be left out, by what they were asked.
use Rattle.std.proofs.Common.{◌≡◌, ℕ, List, [], ◌∷◌, ◌++◌, Option, None, Result, refl, sym, ap, subst, ◌∙◌}
use Rattle.credit_book.specs.declared.book.Report.{Report}
use Rattle.credit_book.specs.declared.board.Progress.{Progress}
use Rattle.job_core.specs.Admitted.{AdmittedJob}
use Rattle.shared_desk.specs.Histories.{HistoryEntry, Replays, none_yet, one_more}
use Rattle.tenant_desks.specs.Tenancies.{Tenancy}
use Rattle.tenant_desks.specs.OwnNamed.{AreAskedByName}
use Rattle.tenant_desks.proofs.NamedHistories.{named_on}
use Rattle.tenant_recorder.specs.TenantsRecorded.{AreInStep, RecordedRunner, named_answers_recorded, tenant_answers_recorded}

module _ {R Q : Type 0} (starts : R → ℕ → AdmittedJob → Result (Unit {0}) ℕ → R → Type 0) (looks : R → ℕ → Progress → R → Type 0)
    (takes : R → Option (ℕ × Result Report ℕ) → R → Type 0) (taken : Q → List ℕ) (failed : Q → Type 0) where
  abbrev State : Type 0
  State = Tenancy × RecordedRunner R Q

  -- the states of such a history have the names of the first one
  record IsPutIn (s : State) (history : List HistoryEntry) (t : State) : Type 0 where
    pub same : t.0.names ≡ s.0.names
    pub step : AreInStep t
    pub asked : List HistoryEntry
    pub named : AreAskedByName s.0.names history asked
    pub legal : Replays (named_answers_recorded starts looks takes taken failed) (λ x. x ≡ s) asked t

  put_in : (s : State) (history : List HistoryEntry) (t : State) → AreInStep s → Replays (tenant_answers_recorded starts looks takes taken failed) (λ x. x ≡ s) history t → IsPutIn s history t
  put_in s _ t step (none_yet u is) = record {
    same = ap (λ (x : State). x.0.names) is;
    step = subst (λ (x : State). AreInStep x) (sym is) step;
    asked = [];
    named = tt;
    legal = none_yet u is;
  }
  put_in s _ t step (one_more history u e v before (asked, own, answered)) =
      let r = put_in s history u step before in
      let f : HistoryEntry = record { connection = e.connection; query = record { passage = e.query.passage; asked = asked; beyond = None }; reply = e.reply } in
      let next = answered.0 r.step in
      record {
        same = next.0.1 ∙ r.same;
        step = next.1;
        asked = r.asked ++ f ∷ [];
        named = named_on s.0.names history r.asked e f r.named (record { connection = refl; passage = refl; asked = rw (← r.same) own; reply = refl });
        legal = one_more r.asked u f v r.legal answered;
      }

  pub own_names_recorded : (history : List HistoryEntry) (s t : State) → AreInStep s → Replays (tenant_answers_recorded starts looks takes taken failed) (λ x. x ≡ s) history t
      → (asked : List HistoryEntry) × AreAskedByName s.0.names history asked × Replays (named_answers_recorded starts looks takes taken failed) (λ x. x ≡ s) asked t
  own_names_recorded history s t step replays = let r = put_in s history t step replays in (r.asked, r.named, r.legal)
