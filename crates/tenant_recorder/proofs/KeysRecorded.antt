-- The keys that a door remembers are those that its desk's records lead to.
use Rattle.std.proofs.Common.{◌≡◌, ℕ, Bool, true, false, nat_eq, nat_lt, if◌then◌else◌, List, [], ◌++◌, length, slice_get, slice_set, Option, None, Some, Result, refl, sym, ap, subst, ◌∙◌, arith}
use Rattle.std.specs.Prelude.{option_map, unwrap_or}
use Rattle.std.proofs.lemmas.Bool.Decides.{nat_tests}
use Rattle.credit_book.specs.declared.book.Report.{Report}
use Rattle.credit_book.specs.declared.board.Progress.{Progress}
use Rattle.job_core.specs.Admitted.{AdmittedJob}
use Rattle.accounts.specs.Ledgers.{Ledger}
use Rattle.sessions.specs.JobKeys.{job_among, noted}
use Rattle.sessions.specs.declared.door_forms.DoorForm.TheVariants.{Keyed}
use Rattle.sessions.specs.declared.job_key.KeyedJob.{KeyedJob}
use Rattle.shared_desk.specs.declared.door.Door.{Door}
use Rattle.shared_desk.specs.Histories.{HistoryEntry, Query, Replays, none_yet, one_more}
use Rattle.desk_recorder.specs.Histories.{IsDeskHistory, RecordsLead}
use Rattle.desk_recorder.specs.Recording.{keyed_taken, last_keyed, noted_each}
use Rattle.desk_recorder.specs.declared.recorder.ChangeRecorder.{ChangeRecorder}
use Rattle.desk_recorder.proofs.Composed.{leads_on, noted_then, unkeyed}
use Rattle.tenant_desks.specs.AtDoors.{AnswersOrTells, BehindDoors, count_of_jobs, jobs_behind, keys_behind, keys_left, new_key, submit_frame, told_by_door, unless_known, with_key, without_keys}
use Rattle.tenant_desks.specs.Routing.{place_behind}
use Rattle.tenant_desks.specs.Tenancies.{Tenancy}
use Rattle.tenant_desks.proofs.KeyedDoors.{set_apart, set_here}
use Rattle.tenant_recorder.specs.Recorders.{AreRecorded, TakesRecords, key_at}
use Rattle.tenant_recorder.specs.TenantsRecorded.{RecordedRunner, door_answers_recorded, tenant_answers_recorded}
use Rattle.tenant_recorder.proofs.EachPlace.{one_there, takes_both, takes_nothing, there}
use Rattle.tenant_recorder.proofs.KeyedAt.{key_elsewhere, key_here}

-- ---- one answer

-- of a submit by a key that the door doesn't know
module _ (key : List ℕ) (door : Door) (place : ℕ) (all : List (List KeyedJob)) (own : List KeyedJob) (ds es : List Ledger) (d e : Ledger)
    (at : slice_get all place ≡ Some own) (at_d : slice_get ds place ≡ Some d) (at_e : slice_get es place ≡ Some e) where
  abbrev left : List (List KeyedJob)
  left = keys_left (Some key) all door (jobs_behind ds door) (jobs_behind es door)

  abbrev kept_so : Option (List ℕ) → Option (List KeyedJob)
  kept_so k = Some (noted_each own (keyed_taken k d e))

  grown : (b : Bool) → place_behind door ≡ place → keys_behind all door ≡ own → slice_get (if b then with_key all door (length e.jobs) key else all) place ≡ Some (noted_each own (if b then last_keyed (Some key) e else []))
  grown true here remembered =
      ap (λ (i : ℕ). slice_get (slice_set all i (noted (keys_behind all door) (length e.jobs) key)) place) here
      ∙ (set_here all place own (noted (keys_behind all door) (length e.jobs) key) at ∙ ap (λ (ks : List KeyedJob). Some (noted ks (length e.jobs) key)) remembered)
  grown false here remembered = at

  at_own : place_behind door ≡ place → slice_get left place ≡ kept_so (Some key)
  at_own here =
      let before : jobs_behind ds door ≡ length d.jobs = ap count_of_jobs (ap (slice_get ds) here ∙ at_d) in
      let after : jobs_behind es door ≡ length e.jobs = ap count_of_jobs (ap (slice_get es) here ∙ at_e) in
      let remembered : keys_behind all door ≡ own = ap (λ (o : Option (List KeyedJob)). unwrap_or o []) (ap (slice_get all) here ∙ at) in
      ap (λ (n : ℕ). slice_get (keys_left (Some key) all door n (jobs_behind es door)) place) before
      ∙ (ap (λ (n : ℕ). slice_get (keys_left (Some key) all door (length d.jobs) n) place) after ∙ grown (nat_lt (length d.jobs) (length e.jobs)) here remembered)

  by_growth : (b : Bool) → (place_behind door ≡ place → ⊥) → slice_get (if b then with_key all door (jobs_behind es door) key else all) place ≡ Some own
  by_growth true apart = set_apart all (place_behind door) place (noted (keys_behind all door) (jobs_behind es door) key) apart ∙ at
  by_growth false apart = at

  elsewhere : (place_behind door ≡ place → ⊥) → slice_get left place ≡ kept_so None
  elsewhere apart = by_growth (nat_lt (jobs_behind ds door) (jobs_behind es door)) apart ∙ ap (λ (ks : List KeyedJob). Some (noted_each own ks)) (sym (unkeyed d e))

  by_place : (b : Bool) → nat_eq (place_behind door) place ≡ b → slice_get left place ≡ kept_so (key_at door (Some key) place)
  by_place true eq = let here : place_behind door ≡ place = grind (arith, nat_tests) in at_own here ∙ ap kept_so (sym (key_here door (Some key) place here))
  by_place false eq = let apart : place_behind door ≡ place → ⊥ = grind (arith, nat_tests) in elsewhere apart ∙ ap kept_so (sym (key_elsewhere door (Some key) place apart))

-- what is remembered at a place behind an answer
keys_step : (key : Option (List ℕ)) (door : Door) (place : ℕ) (all : List (List KeyedJob)) (own : List KeyedJob) (ds es : List Ledger) (d e : Ledger) → slice_get all place ≡ Some own → slice_get ds place ≡ Some d → slice_get es place ≡ Some e
    → slice_get (keys_left key all door (jobs_behind ds door) (jobs_behind es door)) place ≡ Some (noted_each own (keyed_taken (key_at door key place) d e))
keys_step None door place all own ds es d e at at_d at_e = at ∙ ap (λ (ks : List KeyedJob). Some (noted_each own ks)) (sym (none_at (nat_eq (place_behind door) place)))
  where
    none_at : (b : Bool) → keyed_taken (if b then None else None) d e ≡ []
    none_at true = unkeyed d e
    none_at false = unkeyed d e
keys_step (Some key) door place all own ds es d e at at_d at_e = by_place key door place all own ds es d e at at_d at_e (nat_eq (place_behind door) place) refl

-- ---- a history

module _ {R Q : Type 0} (starts : R → ℕ → AdmittedJob → Result (Unit {0}) ℕ → R → Type 0) (looks : R → ℕ → Progress → R → Type 0)
    (takes : R → Option (ℕ × Result Report ℕ) → R → Type 0) (taken : Q → List ℕ) (failed : Q → Type 0) where
  abbrev State : Type 0
  State = Tenancy × BehindDoors (RecordedRunner R Q)

  -- the desks' recorders take what changes them, whatever is told
  recorded_of : (told : Option (List ℕ)) (s t : State) (query : Query) (reply : List ℕ) → AnswersOrTells (tenant_answers_recorded starts looks takes taken failed) told (without_keys s) query reply (without_keys t)
      → AreRecorded taken failed s.1.handler.recorders t.1.handler.recorders s.0.desks t.0.desks
  recorded_of None s t query reply (asked, own, answer) = answer.1
  recorded_of (Some frame) s t query reply ((told, (asked, own, answer)), is) = answer.1

  module _ (s : State) (place : ℕ) (p : ChangeRecorder Q) (d : Ledger) (keys : List KeyedJob) (at_p : slice_get s.1.handler.recorders place ≡ Some p) (at_d : slice_get s.0.desks place ≡ Some d) (at_keys : slice_get s.1.keys place ≡ Some keys) where
    -- what was recorded since the start, with these keyed jobs, which the door remembers
    abbrev Kept : State → ChangeRecorder Q → Ledger → Type 0
    Kept t q e = (ks : List KeyedJob) × (slice_get t.1.keys place ≡ Some (noted_each keys ks)) × TakesRecords taken failed p q d e ks

    at_start : (t : State) (q : ChangeRecorder Q) (e : Ledger) → t ≡ s → slice_get t.1.handler.recorders place ≡ Some q → slice_get t.0.desks place ≡ Some e → Kept t q e
    at_start t q e is at_q at_e =
        let same_q : p ≡ q = one_there s.1.handler.recorders place p q at_p (subst (λ (x : State). slice_get x.1.handler.recorders place ≡ Some q) is at_q) in
        let same_e : d ≡ e = one_there s.0.desks place d e at_d (subst (λ (x : State). slice_get x.0.desks place ≡ Some e) is at_e) in
        let T : ChangeRecorder Q × Ledger → Type 0 = λ x. TakesRecords taken failed p x.0 d x.1 [] in
        ([], subst (λ (x : State). slice_get x.1.keys place ≡ Some keys) (sym is) at_keys, subst T (λ k. (same_q k, same_e k)) (takes_nothing taken failed p d))

    pub kept : (answers : List HistoryEntry) (t : State) (q : ChangeRecorder Q) (e : Ledger) → Replays (door_answers_recorded starts looks takes taken failed) (λ x. x ≡ s) answers t
        → slice_get t.1.handler.recorders place ≡ Some q → slice_get t.0.desks place ≡ Some e → Kept t q e
    kept answers t q e (none_yet u begins) at_q at_e = at_start u q e begins at_q at_e
    kept answers t q e (one_more earlier u entry v before answered) at_q at_e =
        let door = entry.query.passage.door in
        let each = recorded_of _ u v entry.query entry.reply answered.0 in
        let m = there v.1.handler.recorders u.1.handler.recorders place q (sym each.recorders) at_q in
        let n = there v.0.desks u.0.desks place e (sym each.desks) at_e in
        let was = kept earlier u m.0 n.0 before m.1 n.1 in
        let one = answered.2 place m.0 q n.0 e m.1 at_q n.1 at_e in
        let more = keys_step _ door place u.1.keys (noted_each keys was.0) u.0.desks v.0.desks n.0 e was.1 n.1 at_e in (
          was.0 ++ keyed_taken _ n.0 e,
          ap (λ (ks : List (List KeyedJob)). slice_get ks place) answered.1 ∙ (more ∙ ap (λ (ks : List KeyedJob). Some ks) (sym (noted_then keys was.0 _))),
          takes_both taken failed p m.0 q d n.0 e was.0 _ was.2 one,
        )

  pub keys_recorded : (answers : List HistoryEntry) (s t : State) (place : ℕ) (p q : ChangeRecorder Q) (d e : Ledger) (keys : List KeyedJob) (history : List (List ℕ)) → Replays (door_answers_recorded starts looks takes taken failed) (λ x. x ≡ s) answers t
      → slice_get s.1.handler.recorders place ≡ Some p → slice_get t.1.handler.recorders place ≡ Some q → slice_get s.0.desks place ≡ Some d → slice_get t.0.desks place ≡ Some e → slice_get s.1.keys place ≡ Some keys
      → IsDeskHistory history d keys → q.is_stopped ≡ false → (later : List KeyedJob) × (slice_get t.1.keys place ≡ Some later) × RecordsLead taken p.queue q.queue history e later
  keys_recorded answers s t place p q d e keys history replays at_p at_q at_d at_e at_keys led on =
      let k = kept s place p d keys at_p at_d at_keys answers t q e replays at_q at_e in
      (noted_each keys k.0, k.1, leads_on taken failed p.queue q.queue history keys k.0 d e led (k.2.records on))

  -- a key that is remembered
  pub told_again : (s t : State) (query : Query) (reply key : List ℕ) (job : ℕ) → door_answers_recorded starts looks takes taken failed s query reply t → query.beyond ≡ Some (Keyed (Some key)) → job_among (keys_behind s.1.keys query.passage.door) key ≡ Some job
      → (reply ≡ submit_frame job) × (t.1.keys ≡ s.1.keys)
  told_again s t query reply key job answer is among =
      let door = query.passage.door in
      let keys = keys_behind s.1.keys door in
      let a = subst (λ (o : Option (List ℕ)). AnswersOrTells (tenant_answers_recorded starts looks takes taken failed) o (without_keys s) query reply (without_keys t))
      (ap (told_by_door keys t.0.desks door) is ∙ ap (option_map submit_frame) among) answer.0 in
      let same = answer.1 ∙ ap (λ (o : Option (List ℕ)). keys_left o s.1.keys door (jobs_behind s.0.desks door) (jobs_behind t.0.desks door))
      (ap (new_key keys) is ∙ ap (λ (o : Option ℕ). unless_known o key) among) in
      (a.1, same)
