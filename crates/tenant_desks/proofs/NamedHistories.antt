-- A history of a server at whose doors the tenant's name may be left out, by what the desks were asked.
use Rattle.std.proofs.Common.{◌≡◌, ℕ, List, [], ◌∷◌, ◌++◌, Option, None, Result, refl, ap, ◌∙◌}
use Rattle.credit_book.specs.declared.book.Report.{Report}
use Rattle.credit_book.specs.declared.board.Progress.{Progress}
use Rattle.job_core.specs.Admitted.{AdmittedJob}
use Rattle.accounts.specs.declared.keep_limits.KeepLimits.{KeepLimits}
use Rattle.accounts.specs.Ledgers.{Ledger}
use Rattle.shared_desk.specs.Histories.{HistoryEntry, Replays, none_yet, one_more}
use Rattle.tenant_desks.specs.Tenancies.{Tenancy}
use Rattle.tenant_desks.specs.Answering.{KeptRunner, tenant_answers}
use Rattle.tenant_desks.specs.Alone.{IsTenantHistory}
use Rattle.tenant_desks.specs.OwnNamed.{AreAskedByName, IsNamedEntry}

pub named_on : (names : List (List ℕ)) (history asked : List HistoryEntry) (e f : HistoryEntry) → AreAskedByName names history asked → IsNamedEntry names e f → AreAskedByName names (history ++ e ∷ []) (asked ++ f ∷ [])
named_on names [] [] e f are is = (is, tt)
named_on names [] (g ∷ asked) e f are is = absurd are
named_on names (d ∷ history) [] e f are is = absurd are
named_on names (d ∷ history) (g ∷ asked) e f are is = (are.0, named_on names history asked e f are.1 is)

module _ {R : Type 0} (starts : R → ℕ → AdmittedJob → Result (Unit {0}) ℕ → R → Type 0) (looks : R → ℕ → Progress → R → Type 0) (takes : R → Option (ℕ × Result Report ℕ) → R → Type 0)
    (names : List (List ℕ)) (firsts : List Ledger) (keep : KeepLimits) where
  -- the states of such a history have these names
  record IsPutIn (history : List HistoryEntry) (s : Tenancy × KeptRunner R) : Type 0 where
    pub same : s.0.names ≡ names
    pub asked : List HistoryEntry
    pub named : AreAskedByName names history asked
    pub legal : IsTenantHistory starts looks takes names firsts keep asked s

  put_in : (history : List HistoryEntry) (s : Tenancy × KeptRunner R)
      → Replays (tenant_answers starts looks takes) (λ x. (x.0 ≡ record { names = names; desks = firsts }) × (x.1.keep ≡ keep)) history s → IsPutIn history s
  put_in _ s (none_yet x begins) = record { same = ap (λ (t : Tenancy). t.names) begins.0; asked = []; named = tt; legal = none_yet x begins }
  put_in _ s (one_more history x e t before (asked, own, (answered, names_same, keeps))) =
      let r = put_in history x before in
      let f : HistoryEntry = record { connection = e.connection; query = record { passage = e.query.passage; asked = asked; beyond = None }; reply = e.reply } in
      record {
        same = names_same ∙ r.same;
        asked = r.asked ++ f ∷ [];
        named = named_on names history r.asked e f r.named (record { connection = refl; passage = refl; asked = rw (← r.same) own; reply = refl });
        legal = one_more r.asked x f t r.legal (answered, names_same, keeps);
      }

  pub own_names : (history : List HistoryEntry) (s : Tenancy × KeptRunner R)
      → Replays (tenant_answers starts looks takes) (λ x. (x.0 ≡ record { names = names; desks = firsts }) × (x.1.keep ≡ keep)) history s
      → (asked : List HistoryEntry) × AreAskedByName names history asked × IsTenantHistory starts looks takes names firsts keep asked s
  own_names history s replays = let r = put_in history s replays in (r.asked, r.named, r.legal)
