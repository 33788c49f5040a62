-- The key of a job that one of many desks took.
use Rattle.std.proofs.Common.{◌≡◌, ◌≢◌, ◌⊎◌, ℕ, Bool, true, false, nat_eq, if◌then◌else◌, List, [], length, slice_get, slice_set, Option, None, Some, Result, refl, sym, ap, subst, ◌∙◌, inl, inr, arith}
use Rattle.std.proofs.lemmas.Bool.Decides.{nat_tests}
use Rattle.credit_book.specs.declared.book.Report.{Report}
use Rattle.accounts.specs.Ledgers.{Ledger}
use Rattle.sessions.specs.declared.job_key.KeyedJob.{KeyedJob}
use Rattle.desk_recorder.specs.Recording.{keyed_taken}
use Rattle.desk_recorder.specs.declared.recorder.ChangeRecorder.{ChangeRecorder}
use Rattle.desk_recorder.proofs.Composed.{keyed_ahead, keyed_none}
use Rattle.tenant_desks.specs.Answering.{PassesEnds}
use Rattle.shared_desk.specs.declared.door.Door.{Door}
use Rattle.tenant_desks.specs.AtDoors.{count_of_jobs}
use Rattle.tenant_desks.specs.Routing.{place_behind}
use Rattle.tenant_desks.proofs.ChangedDesks.{set_at}
use Rattle.tenant_desks.proofs.KeyedDoors.{ends_taken}
use Rattle.tenant_recorder.specs.Recorders.{EachRecorder, IsRecordedPlainly, TakesKeyed, TakesRecords, key_at}
use Rattle.tenant_recorder.proofs.EachPlace.{one_there, takes_both, takes_nothing, takes_of}

-- ---- the key for each desk

pub key_here : (door : Door) (key : Option (List ℕ)) (place : ℕ) → place_behind door ≡ place → key_at door key place ≡ key
key_here door key place is =
    let same : nat_eq (place_behind door) place ≡ true = grind (arith, nat_tests, is) in
    ap (λ (b : Bool). if b then key else None) same

pub key_elsewhere : (door : Door) (key : Option (List ℕ)) (place : ℕ) → (place_behind door ≡ place → ⊥) → key_at door key place ≡ None
key_elsewhere door key place apart =
    let other : nat_eq (place_behind door) place ≡ false = grind (arith, nat_tests, apart) in
    ap (λ (b : Bool). if b then key else None) other

-- whichever key there was, a desk that took no job has none
no_job : (door : Door) (key : Option (List ℕ)) (place : ℕ) (d e : Ledger) → length e.jobs ≡ length d.jobs → keyed_taken (key_at door key place) d e ≡ []
no_job door key place d e same = keyed_none (key_at door key place) d e same

module _ {Q : Type 0} (taken : Q → List ℕ) (failed : Q → Type 0) (door : Door) (key : Option (List ℕ)) where
  -- where a desk took no job, its recorder has no key more
  kept_none : (place : ℕ) (p q : ChangeRecorder Q) (d e : Ledger) → length e.jobs ≡ length d.jobs → TakesRecords taken failed p q d e [] → TakesRecords taken failed p q d e (keyed_taken (key_at door key place) d e)
  kept_none place p q d e same takes = subst (λ (ks : List KeyedJob). TakesRecords taken failed p q d e ks) (sym (no_job door key place d e same)) takes

  -- nothing is taken where nothing changes
  pub keyed_nowhere : (ps : List (ChangeRecorder Q)) (ds : List Ledger) → TakesKeyed taken failed door key ps ps ds ds
  keyed_nowhere ps ds place p q d e at_p at_q at_d at_e =
      let T : ChangeRecorder Q × Ledger → Type 0 = λ x. TakesRecords taken failed p x.0 d x.1 (keyed_taken (key_at door key place) d x.1) in
      subst T (λ k. (one_there ps place p q at_p at_q k, one_there ds place d e at_d at_e k)) (kept_none place p p d d refl (takes_nothing taken failed p d))

  module _ {R : Type 0} (takes : R → Option (ℕ × Result Report ℕ) → R → Type 0) (ps ms : List (ChangeRecorder Q)) (ds ns : List Ledger) (r s : R)
      (first : EachRecorder (IsRecordedPlainly taken failed) ps ms ds ns) (passed : PassesEnds takes ds r ns s) where
    -- ends that are passed change no number of jobs
    count : (place : ℕ) (d n : Ledger) → slice_get ds place ≡ Some d → slice_get ns place ≡ Some n → length n.jobs ≡ length d.jobs
    count place d n at_d at_n = sym (ap count_of_jobs at_n) ∙ (ends_taken takes ds r ns passed.last place passed.taken ∙ ap count_of_jobs at_d)

    -- no desk answers
    pub keyed_none_answers : TakesKeyed taken failed door key ps ms ds ns
    keyed_none_answers place p q d e at_p at_q at_d at_e =
        kept_none place p q d e (count place d e at_d at_e) (takes_of taken failed p q d e [] (first.each place p q d e at_p at_q at_d at_e))

    -- one desk answers
    pub keyed_one_answers : (own : Option (List ℕ)) (at : ℕ) (m q : ChangeRecorder Q) (n e : Ledger) → slice_get ms at ≡ Some m → slice_get ns at ≡ Some n → key_at door key at ≡ own
        → TakesRecords taken failed m q n e (keyed_taken own n e) → TakesKeyed taken failed door key ps (slice_set ms at q) ds (slice_set ns at e)
    keyed_one_answers own at m q n e at_m at_n is_own second place p x d y at_p at_x at_d at_y = by (set_at ms at q place x at_x) (set_at ns at e place y at_y)
      where
        here : place ≡ at → q ≡ x → e ≡ y → TakesRecords taken failed p x d y (keyed_taken (key_at door key place) d y)
        here is is_q is_e =
            let there_p = subst (λ (i : ℕ). slice_get ps i ≡ Some p) is at_p in
            let there_d = subst (λ (i : ℕ). slice_get ds i ≡ Some d) is at_d in
            let all = takes_both taken failed p m q d n e [] (keyed_taken own n e) (takes_of taken failed p m d n [] (first.each at p m d n there_p at_m there_d at_n)) second in
            let ks : keyed_taken (key_at door key place) d e ≡ keyed_taken own n e = ap (λ (i : ℕ). keyed_taken (key_at door key i) d e) is ∙ (ap (λ (o : Option (List ℕ)). keyed_taken o d e) is_own ∙ keyed_ahead own d n e (count at d n there_d at_n)) in
            let T : ChangeRecorder Q × Ledger → Type 0 = λ z. TakesRecords taken failed p z.0 d z.1 (keyed_taken (key_at door key place) d z.1) in
            subst T (λ k. (is_q k, is_e k)) (subst (λ (l : List KeyedJob). TakesRecords taken failed p q d e l) (sym ks) all)

        by : ((place ≡ at) × (q ≡ x)) ⊎ ((place ≢ at) × (slice_get ms place ≡ Some x)) → ((place ≡ at) × (e ≡ y)) ⊎ ((place ≢ at) × (slice_get ns place ≡ Some y)) → TakesRecords taken failed p x d y (keyed_taken (key_at door key place) d y)
        by (inl t) (inl u) = here t.0 t.1 u.1
        by (inl t) (inr u) = absurd (u.0 t.0)
        by (inr t) (inl u) = absurd (t.0 u.0)
        by (inr t) (inr u) = keyed_none_answers place p x d y at_p t.1 at_d u.1

-- the key that the desk at a place is handed
pub handed_here : (door : Door) (key own : Option (List ℕ)) (place : ℕ) → place ≡ place_behind door → own ≡ key → key_at door key place ≡ own
handed_here door key own place is same = key_here door key place (sym is) ∙ sym same

pub handed_none : (door : Door) (key own : Option (List ℕ)) (place : ℕ) → (place ≡ place_behind door → ⊥) → own ≡ None → key_at door key place ≡ own
handed_none door key own place apart none = key_elsewhere door key place (λ same. apart (sym same)) ∙ sym none
