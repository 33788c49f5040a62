-- What a server comes to, by whether it has journals.
use Rattle.std.proofs.Common.{◌≡◌, ◌⊎◌, ◌+◌, ℕ, Bool, List, [], ◌∷◌, length, All, Result, Err, inl, inr, refl, ap, arith}
use Rattle.streams.specs.declared.fault.StreamFault.TheVariants.{NoMemory}
use Rattle.shared_desk.specs.declared.passage.Passage.{Passage}
use Rattle.keyed_desk.specs.KeyedSteps.{KeyedState}
use Rattle.job_server.specs.declared.bounds.Bounds.{Bounds}
use Rattle.job_server.specs.declared.fault.ServeFault.{ServeFault}
use Rattle.job_server.specs.declared.fault.ServeFault.TheVariants as fault
use Rattle.job_server.specs.declared.tenant_door.TenantDoor.{TenantDoor}
use Rattle.job_server.specs.AtOnce.{HasNotBegun}
use Rattle.job_server.specs.Listening.{AreOf, CameBy}
use Rattle.job_server.specs.TenantServing.{GrantsByNoTenant, IsServingAt, IsServingBy}
use Rattle.job_server.specs.TenantRecorded.{IsServingTenantsRecorded, desks_of}
use Rattle.job_server.specs.Recorded.{IsServingRecorded, IsServingWith, IsServingWithAt, recovered_state}
use Rattle.job_server.proofs.ByDoors.{served_by}

-- there are journals, where each desk has one
pub some_journals : {J D : Type 0} (journals : List J) (doors : List D) → length journals ≡ length doors + 1 → journals ≡ [] → ⊥
some_journals journals doors each none =
    let is : length journals ≡ 0 = ap length none in
    omega (arith, each, is)

module _ {L Q J : Type 0} (opens fails : L → L → Type 0) (passage_of : L → Passage) (listener : L) (taken : Q → List ℕ) (failed : Q → Type 0) (journal_of : Q → J) (journals : List J) (states : List KeyedState) (doors : List TenantDoor) (bounds : Bounds) (sessions : ℕ) (may_stop : Bool)
    (outcome : Result (Unit {0}) ServeFault) where
  -- with these journals and doors
  abbrev ServesAt : List J → List TenantDoor → Type 0
  ServesAt js ds = IsServingWithAt opens fails passage_of listener taken failed journal_of js states ds bounds sessions may_stop outcome

  abbrev Serves : List J → List TenantDoor → Type 0
  Serves js ds = IsServingWith taken failed journal_of js states ds bounds sessions may_stop outcome

  pub with_journal : (journals ≡ [] → ⊥) → doors ≡ [] → (s : IsServingRecorded taken failed (recovered_state (desks_of states)) bounds sessions may_stop outcome) → AreOf opens fails listener s.serving.opened
      → All (λ c. CameBy opens passage_of c.passage) s.serving.closed → IsServingWithAt opens fails passage_of listener taken failed journal_of journals states doors bounds sessions may_stop outcome
  with_journal some none s of came = by_lists journals doors some none
    where
      by_lists : (js : List J) (ds : List TenantDoor) → (js ≡ [] → ⊥) → ds ≡ [] → ServesAt js ds
      by_lists [] ds e n = absurd (e refl)
      by_lists (j ∷ js) [] e n = (s, of, came)
      by_lists (j ∷ js) (d ∷ ds) e n = absurd cc

  pub with_journals : (journals ≡ [] → ⊥) → (doors ≡ [] → ⊥) → (s : IsServingTenantsRecorded taken failed journal_of journals states doors bounds sessions may_stop outcome) → AreOf opens fails listener s.serving.opened
      → All (λ c. CameBy opens passage_of c.passage) s.serving.closed → IsServingWithAt opens fails passage_of listener taken failed journal_of journals states doors bounds sessions may_stop outcome
  with_journals some doored s of came = by_lists journals doors some doored s of came
    where
      by_lists : (js : List J) (ds : List TenantDoor) → (js ≡ [] → ⊥) → (ds ≡ [] → ⊥) → (t : IsServingTenantsRecorded taken failed journal_of js states ds bounds sessions may_stop outcome) → AreOf opens fails listener t.serving.opened
          → All (λ c. CameBy opens passage_of c.passage) t.serving.closed → ServesAt js ds
      by_lists [] ds e n t o k = absurd (e refl)
      by_lists (j ∷ js) [] e n t o k = absurd (n refl)
      by_lists (j ∷ js) (d ∷ ds) e n t o k = (t, o, k)

  pub without_journal : journals ≡ [] → IsServingAt opens fails passage_of listener doors bounds sessions may_stop outcome → IsServingWithAt opens fails passage_of listener taken failed journal_of journals states doors bounds sessions may_stop outcome
  without_journal none s = by_list journals none
    where
      by_list : (js : List J) → js ≡ [] → ServesAt js doors
      by_list [] e = s
      by_list (j ∷ js) e = absurd cc

  -- a server by this listener is one, where no tenant's connection may grant
  pub served_with : ((p : Passage) → CameBy opens passage_of p → GrantsByNoTenant p)
      → IsServingWithAt opens fails passage_of listener taken failed journal_of journals states doors bounds sessions may_stop outcome ⊎ HasNotBegun outcome
      → IsServingWith taken failed journal_of journals states doors bounds sessions may_stop outcome ⊎ HasNotBegun outcome
  served_with none (inr e) = inr e
  served_with none (inl s) = by_lists journals doors s
    where
      by_lists : (js : List J) (ds : List TenantDoor) → ServesAt js ds → Serves js ds ⊎ HasNotBegun outcome
      by_lists [] ds t = served_by opens fails passage_of listener ds bounds sessions may_stop outcome none (inl t)
      by_lists (j ∷ js) [] t = inl t.0
      by_lists (j ∷ js) (d ∷ ds) t = inl (t.0, λ k c lt. none _ (t.2 k c lt))
