-- Recorders and desks, place by place.
use Rattle.std.proofs.Common.{◌≡◌, ◌≢◌, ◌⊎◌, ℕ, zero, suc, List, [], ◌∷◌, ◌++◌, length, slice_get, slice_set, Some, refl, sym, subst, ◌∙◌, inl, inr, arith}
use Rattle.std.proofs.lemmas.List.{length-set}
use Rattle.accounts.specs.Ledgers.{Ledger}
use Rattle.sessions.specs.declared.job_key.KeyedJob.{KeyedJob}
use Rattle.desk_recorder.specs.Recording.{IsRecorded}
use Rattle.desk_recorder.specs.declared.recorder.ChangeRecorder.{ChangeRecorder}
use Rattle.desk_recorder.proofs.Composed.{more_both, records_nothing, records_then}
use Rattle.tenant_desks.proofs.ChangedDesks.{set_at}
use Rattle.tenant_recorder.specs.Recorders.{AreRecorded, EachRecorder, IsRecordedPlainly, TakesRecords, TakesSome}

-- another list of this length has something at the same place
pub there : {X Y : Type 0} (xs : List X) (ys : List Y) (i : ℕ) (x : X) → length ys ≡ length xs → slice_get xs i ≡ Some x → (y : Y) × (slice_get ys i ≡ Some y)
there [] ys i x same at = cc
there (z ∷ xs) [] i x same at = absurd (omega (arith, same))
there (z ∷ xs) (y ∷ ys) zero x same at = (y, refl)
there (z ∷ xs) (y ∷ ys) (suc i) x same at = there xs ys i x (omega (arith, same)) at

-- one thing stands at a place
pub one_there : {X : Type 0} (xs : List X) (i : ℕ) (x y : X) → slice_get xs i ≡ Some x → slice_get xs i ≡ Some y → x ≡ y
one_there xs i x y first second =
    let same : Some x ≡ Some y = sym first ∙ second in cc

module _ {Q : Type 0} where
  pub each_then : (P S T : ChangeRecorder Q → ChangeRecorder Q → Ledger → Ledger → Type 0) (ps qs rs : List (ChangeRecorder Q)) (ds ms es : List Ledger)
      → ((p q r : ChangeRecorder Q) (d m e : Ledger) → P p q d m → S q r m e → T p r d e)
      → EachRecorder P ps qs ds ms → EachRecorder S qs rs ms es → EachRecorder T ps rs ds es
  each_then P S T ps qs rs ds ms es compose first second = record {
    recorders = second.recorders ∙ first.recorders;
    desks = second.desks ∙ first.desks;
    each = λ place p r d e at_p at_r at_d at_e.
        let q = there ps qs place p first.recorders at_p in
        let m = there ds ms place d first.desks at_d in
        compose p q.0 r d m.0 e (first.each place p q.0 d m.0 at_p q.1 at_d m.1) (second.each place q.0 r m.0 e q.1 at_r m.1 at_e);
  }

  pub each_as : (P S : ChangeRecorder Q → ChangeRecorder Q → Ledger → Ledger → Type 0) (ps qs : List (ChangeRecorder Q)) (ds es : List Ledger)
      → ((p q : ChangeRecorder Q) (d e : Ledger) → P p q d e → S p q d e) → EachRecorder P ps qs ds es → EachRecorder S ps qs ds es
  each_as P S ps qs ds es as_so was = record {
    recorders = was.recorders;
    desks = was.desks;
    each = λ place p q d e at_p at_q at_d at_e. as_so p q d e (was.each place p q d e at_p at_q at_d at_e);
  }

  -- nothing changes
  both_same : (P : ChangeRecorder Q → ChangeRecorder Q → Ledger → Ledger → Type 0) (p q : ChangeRecorder Q) (d e : Ledger) → p ≡ q → d ≡ e → P p p d d → P p q d e
  both_same P p q d e same_p same_d none =
      let T : ChangeRecorder Q × Ledger → Type 0 = λ x. P p x.0 d x.1 in
      subst T (λ k. (same_p k, same_d k)) none

  pub each_same : (P : ChangeRecorder Q → ChangeRecorder Q → Ledger → Ledger → Type 0) (ps : List (ChangeRecorder Q)) (ds : List Ledger)
      → ((p : ChangeRecorder Q) (d : Ledger) → P p p d d) → EachRecorder P ps ps ds ds
  each_same P ps ds none = record {
    recorders = refl;
    desks = refl;
    each = λ place p q d e at_p at_q at_d at_e.
        both_same P p q d e (one_there ps place p q at_p at_q) (one_there ds place d e at_d at_e) (none p d);
  }

  -- something changes at one place
  pub each_at : (P : ChangeRecorder Q → ChangeRecorder Q → Ledger → Ledger → Type 0) (ps : List (ChangeRecorder Q)) (ds : List Ledger) (place : ℕ) (p q : ChangeRecorder Q) (d e : Ledger)
      → ((r : ChangeRecorder Q) (m : Ledger) → P r r m m) → slice_get ps place ≡ Some p → slice_get ds place ≡ Some d → P p q d e
      → EachRecorder P ps (slice_set ps place q) ds (slice_set ds place e)
  each_at P ps ds place p q d e none at_p at_d one = record {
    recorders = length-set ps place q;
    desks = length-set ds place e;
    each = λ i r s m n at_r at_s at_m at_n. by i r s m n at_r at_m (set_at ps place q i s at_s) (set_at ds place e i n at_n);
  }
    where
      here : (i : ℕ) (r s : ChangeRecorder Q) (m n : Ledger) → p ≡ r → q ≡ s → d ≡ m → e ≡ n → P r s m n
      here i r s m n is_r is_s is_m is_n =
          let T : ChangeRecorder Q × ChangeRecorder Q × Ledger × Ledger → Type 0 = λ x. P x.0 x.1 x.2 x.3 in
          subst T (λ k. (is_r k, is_s k, is_m k, is_n k)) one

      by : (i : ℕ) (r s : ChangeRecorder Q) (m n : Ledger) → slice_get ps i ≡ Some r → slice_get ds i ≡ Some m
          → ((i ≡ place) × (q ≡ s)) ⊎ ((i ≢ place) × (slice_get ps i ≡ Some s)) → ((i ≡ place) × (e ≡ n)) ⊎ ((i ≢ place) × (slice_get ds i ≡ Some n)) → P r s m n
      by i r s m n at_r at_m (inl t) (inl u) =
          here i r s m n (one_there ps place p r at_p (subst (λ (j : ℕ). slice_get ps j ≡ Some r) t.0 at_r)) t.1
          (one_there ds place d m at_d (subst (λ (j : ℕ). slice_get ds j ≡ Some m) t.0 at_m)) u.1
      by i r s m n at_r at_m (inl t) (inr u) = absurd (u.0 t.0)
      by i r s m n at_r at_m (inr t) (inl u) = absurd (t.0 u.0)
      by i r s m n at_r at_m (inr t) (inr u) = both_same P r s m n (one_there ps i r s at_r t.1) (one_there ds i m n at_m u.1) (none r m)

module _ {Q : Type 0} (taken : Q → List ℕ) (failed : Q → Type 0) where
  pub takes_of : (p q : ChangeRecorder Q) (d e : Ledger) (ks : List KeyedJob) → IsRecorded taken failed p q d e ks → TakesRecords taken failed p q d e ks
  takes_of p q d e ks records = record { going = records.going; told = records.told; records = records.records }

  pub takes_both : (p q r : ChangeRecorder Q) (d m e : Ledger) (ks ls : List KeyedJob) → TakesRecords taken failed p q d m ks → TakesRecords taken failed q r m e ls → TakesRecords taken failed p r d e (ks ++ ls)
  takes_both p q r d m e ks ls first second = record {
    going = λ on. first.going (second.going on);
    told = λ had. second.told (first.told had);
    records = λ on. more_both taken failed p.queue q.queue r.queue d m e ks ls (first.records (second.going on)) (second.records on);
  }

  pub takes_nothing : (p : ChangeRecorder Q) (d : Ledger) → TakesRecords taken failed p p d d []
  takes_nothing p d = takes_of p p d d [] (records_nothing taken failed p d d refl)

  -- the same with whichever keyed jobs there were
  takes_some_then : (p q r : ChangeRecorder Q) (d m e : Ledger) → TakesSome taken failed p q d m → TakesSome taken failed q r m e → TakesSome taken failed p r d e
  takes_some_then p q r d m e first second = (first.0 ++ second.0, takes_both p q r d m e first.0 second.0 first.1 second.1)

  takes_none : (p : ChangeRecorder Q) (d : Ledger) → TakesSome taken failed p p d d
  takes_none p d = ([], takes_nothing p d)

  -- ---- of all desks

  pub noted_then : (ps qs rs : List (ChangeRecorder Q)) (ds ms es : List Ledger) → EachRecorder (IsRecordedPlainly taken failed) ps qs ds ms → EachRecorder (IsRecordedPlainly taken failed) qs rs ms es
      → EachRecorder (IsRecordedPlainly taken failed) ps rs ds es
  noted_then ps qs rs ds ms es = each_then (IsRecordedPlainly taken failed) (IsRecordedPlainly taken failed) (IsRecordedPlainly taken failed) ps qs rs ds ms es (records_then taken failed)

  pub noted_nothing : (ps : List (ChangeRecorder Q)) (ds : List Ledger) → EachRecorder (IsRecordedPlainly taken failed) ps ps ds ds
  noted_nothing ps ds = each_same (IsRecordedPlainly taken failed) ps ds (λ p d. records_nothing taken failed p d d refl)

  pub noted_at : (ps : List (ChangeRecorder Q)) (ds : List Ledger) (place : ℕ) (p q : ChangeRecorder Q) (d e : Ledger) → slice_get ps place ≡ Some p → slice_get ds place ≡ Some d
      → IsRecorded taken failed p q d e [] → EachRecorder (IsRecordedPlainly taken failed) ps (slice_set ps place q) ds (slice_set ds place e)
  noted_at ps ds place p q d e = each_at (IsRecordedPlainly taken failed) ps ds place p q d e (λ r m. records_nothing taken failed r m m refl)

  pub are_recorded : (ps qs : List (ChangeRecorder Q)) (ds es : List Ledger) → EachRecorder (IsRecordedPlainly taken failed) ps qs ds es → AreRecorded taken failed ps qs ds es
  are_recorded ps qs ds es = each_as (IsRecordedPlainly taken failed) (TakesSome taken failed) ps qs ds es (λ p q d e records. ([], takes_of p q d e [] records))

  pub recorded_then : (ps qs rs : List (ChangeRecorder Q)) (ds ms es : List Ledger) → AreRecorded taken failed ps qs ds ms → AreRecorded taken failed qs rs ms es → AreRecorded taken failed ps rs ds es
  recorded_then ps qs rs ds ms es = each_then (TakesSome taken failed) (TakesSome taken failed) (TakesSome taken failed) ps qs rs ds ms es takes_some_then

  pub recorded_nothing : (ps : List (ChangeRecorder Q)) (ds : List Ledger) → AreRecorded taken failed ps ps ds ds
  recorded_nothing ps ds = each_same (TakesSome taken failed) ps ds takes_none

  pub recorded_at : (ps : List (ChangeRecorder Q)) (ds : List Ledger) (place : ℕ) (p q : ChangeRecorder Q) (d e : Ledger) → slice_get ps place ≡ Some p → slice_get ds place ≡ Some d
      → TakesSome taken failed p q d e → AreRecorded taken failed ps (slice_set ps place q) ds (slice_set ds place e)
  recorded_at ps ds place p q d e = each_at (TakesSome taken failed) ps ds place p q d e takes_none
