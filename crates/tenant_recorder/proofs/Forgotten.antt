-- Desks that have nothing more to forget.
use Rattle.std.proofs.Common.{◌≡◌, ◌≢◌, ◌⊎◌, ℕ, zero, suc, Bool, List, [], ◌∷◌, length, slice_get, slice_set, Some, false, true, refl, sym, ap, subst, ◌∙◌, inl, inr}
use Rattle.std.specs.List.{AllZip}
use Rattle.std.proofs.lemmas.List.{length-set}
use Rattle.accounts.specs.declared.keep_limits.KeepLimits.{KeepLimits}
use Rattle.accounts.proofs.Forgets.{forgets_none}
use Rattle.accounts.specs.Ledgers.{Ledger, KeepsWithin}
use Rattle.desk_recorder.specs.declared.recorder.ChangeRecorder.{ChangeRecorder}
use Rattle.tenant_desks.proofs.ChangedDesks.{set_at}
use Rattle.tenant_recorder.specs.Recorders.{EachRecorder, HaveForgotten, IsNewRecorder, IsRecordedPlainly}
use Rattle.tenant_recorder.proofs.EachPlace.{there}

-- ---- what was forgotten is forgotten

pub keeps_again : (keep : KeepLimits) (old new : Ledger) → KeepsWithin keep old new → KeepsWithin keep new new
keeps_again keep old new keeps =
    let within = keeps.1.within in (
      0,
      record {
        forgets = record { jobs = forgets_none new.jobs; grants = λ q. refl; accounts = λ q. refl };
        within = record { last = within.last; small = within.small; needed = inl refl };
        same = λ none. refl;
      },
    )

-- ---- of all desks

clash : (X : Type 0) (b : Bool) → b ≡ true → b ≡ false → X
clash X b noted unnoted = let is : true ≡ false = sym noted ∙ unnoted in absurd cc

module _ {Q : Type 0} where
  -- a new recorder has noted that its desk may have changed
  new_noted : (queues : List Q) (recorders : List (ChangeRecorder Q)) → AllZip IsNewRecorder queues recorders → (place : ℕ) (r : ChangeRecorder Q) → slice_get recorders place ≡ Some r → r.has_changed ≡ true
  new_noted [] [] made place r at = cc
  new_noted [] (q ∷ qs) made place r at = absurd made
  new_noted (q ∷ queues) [] made place r at = absurd made
  new_noted (q ∷ queues) (x ∷ recorders) made zero r at =
      let same : x ≡ r = cc in
      subst (λ (y : ChangeRecorder Q). y.has_changed ≡ true) same made.0.noted
  new_noted (q ∷ queues) (x ∷ recorders) made (suc place) r at = new_noted queues recorders made.1 place r at

  new_length : (queues : List Q) (recorders : List (ChangeRecorder Q)) → AllZip IsNewRecorder queues recorders → length recorders ≡ length queues
  new_length [] [] made = refl
  new_length [] (q ∷ qs) made = absurd made
  new_length (q ∷ queues) [] made = absurd made
  new_length (q ∷ queues) (x ∷ recorders) made = ap suc (new_length queues recorders made.1)

  pub forgotten_anew : (queues : List Q) (recorders : List (ChangeRecorder Q)) (keep : KeepLimits) (desks : List Ledger) → AllZip IsNewRecorder queues recorders → length desks ≡ length queues
      → HaveForgotten keep desks recorders
  forgotten_anew queues recorders keep desks made count = record {
    paired = new_length queues recorders made ∙ sym count;
    each = λ place desk recorder at_d at_r none. clash (KeepsWithin keep desk desk) recorder.has_changed (new_noted queues recorders made place recorder at_r) none;
  }

  -- changes that are noted leave it so
  pub forgotten_noted : (taken : Q → List ℕ) (failed : Q → Type 0) (keep : KeepLimits) (ps qs : List (ChangeRecorder Q)) (ds es : List Ledger) → EachRecorder (IsRecordedPlainly taken failed) ps qs ds es
      → HaveForgotten keep ds ps → HaveForgotten keep es qs
  forgotten_noted taken failed keep ps qs ds es noted had = record {
    paired = noted.recorders ∙ had.paired ∙ sym noted.desks;
    each = λ place e q at_e at_q none.
        let p = there qs ps place q (sym noted.recorders) at_q in
        let d = there es ds place e (sym noted.desks) at_e in
        let was = (noted.each place p.0 q d.0 e p.1 at_q d.1 at_e).unchanged none in
        subst (λ (x : Ledger). KeepsWithin keep x x) (sym was.1) (had.each place d.0 p.0 d.1 p.1 was.0);
  }

  -- so does a desk that has forgotten
  pub forgotten_at : (keep : KeepLimits) (ps : List (ChangeRecorder Q)) (ds : List Ledger) (place : ℕ) (q : ChangeRecorder Q) (e : Ledger) → KeepsWithin keep e e
      → HaveForgotten keep ds ps → HaveForgotten keep (slice_set ds place e) (slice_set ps place q)
  forgotten_at keep ps ds place q e forgot had = record {
    paired = length-set ps place q ∙ had.paired ∙ sym (length-set ds place e);
    each = λ i d r at_d at_r none. by i d r none (set_at ds place e i d at_d) (set_at ps place q i r at_r);
  }
    where
      by : (i : ℕ) (d : Ledger) (r : ChangeRecorder Q) → r.has_changed ≡ false → ((i ≡ place) × (e ≡ d)) ⊎ ((i ≢ place) × (slice_get ds i ≡ Some d))
          → ((i ≡ place) × (q ≡ r)) ⊎ ((i ≢ place) × (slice_get ps i ≡ Some r)) → KeepsWithin keep d d
      by i d r none (inl t) u = subst (λ (x : Ledger). KeepsWithin keep x x) t.1 forgot
      by i d r none (inr t) (inl u) = absurd (t.0 u.0)
      by i d r none (inr t) (inr u) = had.each i d r t.1 u.1 none
