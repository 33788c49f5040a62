-- What a server of tenants with journals begins with.
use Rattle.std.proofs.Common.{◌≡◌, ℕ, zero, suc, Bool, false, true, List, [], ◌∷◌, All, length, map, slice_get, Option, Some, Result, Ok, Err, refl, sym, ap, ap₂, ◌∙◌, subst, arith}
use Rattle.std.specs.Prelude.{IfOk}
use Rattle.std.specs.List.{AllZip}
use Rattle.accounts.specs.declared.keep_limits.KeepLimits.{KeepLimits}
use Rattle.accounts.specs.Ledgers.{Ledger, KeepsWithin}
use Rattle.job_core.specs.Admitted.{AdmittedJob}
use Rattle.desk_journal.specs.declared.journaled_desk.OpenJob.{OpenJob}
use Rattle.desk_recorder.specs.declared.recorder.ChangeRecorder.{ChangeRecorder}
use Rattle.tenant_desks.specs.Tenancies.{Tenancy}
use Rattle.tenant_recorder.specs.Recorders.{AreRecorded, HaveForgotten, IsNewRecorder}
use Rattle.tenant_recorder.specs.TenantCredits.{AreCredited}
use Rattle.tenant_recorder.specs.TenantRestarts.{RestartsEach}
use Rattle.tenant_recorder.specs.TenantsRecorded.{RecordedRunner}
use Rattle.job_server.specs.TenantRecorded.{AreFresh, AreRestarted}

module _ {Q : Type 0} (taken : Q → List ℕ) where
  -- a recorder for each queue that has taken nothing
  pub fresh_of : (queues : List Q) (recorders : List (ChangeRecorder Q)) → AllZip IsNewRecorder queues recorders → All (λ q. taken q ≡ []) queues → AreFresh taken recorders
  fresh_of [] [] made none = tt
  fresh_of [] (r ∷ rs) made none = absurd made
  fresh_of (q ∷ queues) [] made none = absurd made
  fresh_of (q ∷ queues) (r ∷ recorders) made none = (
    ap taken made.0.same ∙ none zero q (omega arith),
    made.0.goes_on,
    made.0.noted,
    fresh_of queues recorders made.1 (λ k d lt. none (suc k) d (omega (arith, lt))),
  )

  fresh_noted : (recorders : List (ChangeRecorder Q)) → AreFresh taken recorders → (place : ℕ) (r : ChangeRecorder Q) → slice_get recorders place ≡ Some r → r.has_changed ≡ true
  fresh_noted [] fresh place r at = cc
  fresh_noted (x ∷ recorders) fresh zero r at =
      let same : x ≡ r = cc in
      subst (λ (y : ChangeRecorder Q). y.has_changed ≡ true) same fresh.2
  fresh_noted (x ∷ recorders) fresh (suc place) r at = fresh_noted recorders fresh.3 place r at

  clash : (X : Type 0) (b : Bool) → b ≡ true → b ≡ false → X
  clash X b set unset = let is : true ≡ false = sym set ∙ unset in absurd cc

  -- desks with such recorders have nothing to forget that isn't noted
  fresh_forgotten : (recorders : List (ChangeRecorder Q)) (keep : KeepLimits) (desks : List Ledger) → AreFresh taken recorders → length recorders ≡ length desks → HaveForgotten keep desks recorders
  fresh_forgotten recorders keep desks fresh paired = record {
    paired = paired;
    each = λ place desk r at_d at_r none. clash (KeepsWithin keep desk desk) r.has_changed (fresh_noted recorders fresh place r at_r) none;
  }

-- the journals of the recorders are those of their queues
pub own_of : {Q J : Type 0} (journal_of : Q → J) (queues : List Q) (recorders : List (ChangeRecorder Q)) → AllZip IsNewRecorder queues recorders → map (λ (r : ChangeRecorder Q). journal_of r.queue) recorders ≡ map journal_of queues
own_of journal_of [] [] made = refl
own_of journal_of [] (r ∷ rs) made = absurd made
own_of journal_of (q ∷ queues) [] made = absurd made
own_of {Q} {J} journal_of (q ∷ queues) (r ∷ recorders) made =
    ap₂ (λ (j : J) (js : List J). j ∷ js) (ap journal_of made.0.same) (own_of journal_of queues recorders made.1)

pub made_count : {Q : Type 0} (queues : List Q) (recorders : List (ChangeRecorder Q)) → AllZip IsNewRecorder queues recorders → length recorders ≡ length queues
made_count [] [] made = refl
made_count [] (r ∷ rs) made = absurd made
made_count (q ∷ queues) [] made = absurd made
made_count (q ∷ queues) (r ∷ recorders) made = ap suc (made_count queues recorders made.1)

-- the same of a handler that was made of the queues, if there was memory
abbrev pub IsMade : {R Q : Type 0} → List Q → R → KeepLimits → RecordedRunner R Q → Type 0
IsMade queues runner keep m = (m.runner ≡ runner) × (m.keep ≡ keep) × AllZip IsNewRecorder queues m.recorders

pub made_own : {R Q J E : Type 0} (queues : List Q) (runner : R) (keep : KeepLimits) (journal_of : Q → J) (journals : List J) (made : Result (RecordedRunner R Q) E) → IfOk made (IsMade queues runner keep) → map journal_of queues ≡ journals
    → IfOk made (λ m. map (λ (r : ChangeRecorder Q). journal_of r.queue) m.recorders ≡ journals)
made_own queues runner keep journal_of journals (Ok m) is own = own_of journal_of queues m.recorders is.2 ∙ own
made_own queues runner keep journal_of journals (Err e) is own = tt

pub made_as_many : {R Q E : Type 0} (queues : List Q) (runner : R) (keep : KeepLimits) (count : ℕ) (made : Result (RecordedRunner R Q) E) → IfOk made (IsMade queues runner keep) → length queues ≡ count → IfOk made (λ m. length m.recorders ≡ count)
made_as_many queues runner keep count (Ok m) is all = made_count queues m.recorders is.2 ∙ all
made_as_many queues runner keep count (Err e) is all = tt

pub made_fresh : {R Q E : Type 0} (queues : List Q) (runner : R) (keep : KeepLimits) (taken : Q → List ℕ) (made : Result (RecordedRunner R Q) E) → IfOk made (IsMade queues runner keep) → All (λ q. taken q ≡ []) queues → IfOk made (λ m. AreFresh taken m.recorders)
made_fresh queues runner keep taken (Ok m) is none = fresh_of taken queues m.recorders is.2 none
made_fresh queues runner keep taken (Err e) is none = tt

-- recovered desks, whose open jobs a new handler has started again, and at which it has granted each tenant its first credit
pub tenants_restarted : {R Q J : Type 0} (starts : R → ℕ → AdmittedJob → Result (Unit {0}) ℕ → R → Type 0) (taken : Q → List ℕ) (failed : Q → Type 0) (journal_of : Q → J) (journals : List J) (recovered : Tenancy)
    (tenants : List (List ℕ × Option ℕ)) (held : List (List OpenJob)) (runner : R) (keep : KeepLimits)
    (desks : Tenancy) (said : List (List ℕ × Option ℕ)) (jobs : List (List OpenJob)) (handler mid : RecordedRunner R Q) (after : Tenancy) (left : RecordedRunner R Q)
    → desks ≡ recovered → said ≡ tenants → jobs ≡ held → handler.runner ≡ runner → handler.keep ≡ keep
    → map (λ (r : ChangeRecorder Q). journal_of r.queue) handler.recorders ≡ journals → AreFresh taken handler.recorders → length handler.recorders ≡ length desks.desks
    → ((ds : List Ledger) → length ds ≡ length desks.desks → RestartsEach starts ds handler.runner jobs ds mid.runner) → mid.keep ≡ handler.keep → mid.recorders ≡ handler.recorders
    → AreCredited said desks.desks after.desks → AreRecorded taken failed mid.recorders left.recorders desks.desks after.desks
    → (HaveForgotten mid.keep desks.desks mid.recorders → HaveForgotten left.keep after.desks left.recorders) → left.runner ≡ mid.runner → left.keep ≡ mid.keep → after.names ≡ desks.names
    → AreRestarted starts taken failed journal_of journals recovered tenants held runner keep (after, left)
tenants_restarted {R} {Q} starts taken failed journal_of journals recovered tenants held runner keep desks said jobs handler mid after left are_desks are_said are_held is_runner is_keep own fresh paired
    started mid_keep mid_recorders credited recorded forgotten same_runner same_keep same_names = record {
      fresh = handler.recorders;
      none = fresh;
      own = own;
      paired = paired ∙ ap (λ (t : Tenancy). length t.desks) are_desks;
      granted = after.desks;
      credited = subst (λ (t : Tenancy). AreCredited tenants t.desks after.desks) are_desks (subst (λ (ts : List (List ℕ × Option ℕ)). AreCredited ts desks.desks after.desks) are_said credited);
      started = subst (λ (r : R). RestartsEach starts after.desks r held after.desks left.runner) is_runner
          (subst (λ (js : List (List OpenJob)). RestartsEach starts after.desks handler.runner js after.desks left.runner) are_held
          (subst (λ (r : R). RestartsEach starts after.desks handler.runner jobs after.desks r) (sym same_runner) (started after.desks recorded.desks)));
      recorded = subst (λ (t : Tenancy). AreRecorded taken failed handler.recorders left.recorders t.desks after.desks) are_desks
          (subst (λ (rs : List (ChangeRecorder Q)). AreRecorded taken failed rs left.recorders desks.desks after.desks) mid_recorders recorded);
      names = same_names ∙ ap (λ (t : Tenancy). t.names) are_desks;
      kept = same_keep ∙ mid_keep ∙ is_keep;
      in_step = forgotten (subst (λ (k : KeepLimits). HaveForgotten k desks.desks mid.recorders) (sym mid_keep)
          (subst (λ (rs : List (ChangeRecorder Q)). HaveForgotten handler.keep desks.desks rs) (sym mid_recorders) (fresh_forgotten taken handler.recorders handler.keep desks.desks fresh paired)));
    }
