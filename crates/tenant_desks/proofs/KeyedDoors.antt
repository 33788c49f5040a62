-- A history's keyed jobs: each door has those that it took last.
use Rattle.std.proofs.Common.{◌≡◌, ◌≢◌, ◌⊎◌, ◌+◌, ◌-◌, ◌<◌, ◌≤◌, ℕ, zero, suc, Bool, true, false, List, [], ◌∷◌, ◌++◌, length, drop, replicate, slice_get, slice_set, nat_eq, nat_lt, if◌then◌else◌, Option, Some, None, Result, Ok, Err, inl, inr, refl, sym, ap, subst, ◌∙◌, arith, length-append}
use Rattle.std.specs.Prelude.{option_map, unwrap_or}
use Rattle.std.proofs.lemmas.Bool.Decides.{nat_tests}
use Rattle.std.proofs.lemmas.List.{length-set, length-drop, drop-drop, drop-append-le}
use Rattle.credit_book.specs.declared.book.Report.{Report}
use Rattle.credit_book.specs.declared.board.Progress.{Progress}
use Rattle.job_core.specs.Admitted.{AdmittedJob}
use Rattle.accounts.specs.Faults.{submit_code, submit_program, submit_slot}
use Rattle.accounts.specs.declared.keep_limits.KeepLimits.{KeepLimits}
use Rattle.accounts.specs.Ledgers.{Finishes, Ledger}
use Rattle.sessions.specs.Grammar.{Asked, JobText, grant, account, submit, status, result}
use Rattle.sessions.specs.Replies.{frame_of, frame_or_refusal, refusal_data, reply_data, submit_data}
use Rattle.sessions.specs.declared.reply.Reply.{Reply}
use Rattle.sessions.specs.declared.reply.Reply.TheVariants as reply
use Rattle.sessions.specs.declared.door_forms.DoorForm.{DoorForm}
use Rattle.sessions.specs.declared.door_forms.DoorForm.TheVariants.{Jobs, Keyed, Server}
use Rattle.sessions.specs.declared.job_key.KeyedJob.{KeyedJob}
use Rattle.streams.specs.Answering.{Replies, Settles}
use Rattle.streams.specs.Passing.{Notes}
use Rattle.shared_desk.specs.declared.door.Door.{Door}
use Rattle.shared_desk.specs.declared.passage.Passage.{Passage}
use Rattle.shared_desk.specs.Histories as plain
use Rattle.shared_desk.specs.Histories.{HistoryEntry, Query}
use Rattle.tenant_desks.specs.AtDoors.{AnswersOrTells, AsksNothing, BehindDoors, count_of_jobs, jobs_behind, keys_behind, keys_left, new_key, plainly, submit_frame, told_by_door, unless_known, with_key, without_keys}
use Rattle.tenant_desks.specs.Answering.{AnswersWhere, BeginsAtDoors, DeskAnswer, EndsTaken, KeptRunner, NotesAtPlace, door_answers, named_answers, tenant_answers}
use Rattle.tenant_desks.specs.Answering as answering
use Rattle.sessions.specs.JobKeys.{job_among, latest}
use Rattle.tenant_desks.specs.KeyedHistories.{AreKeyed, AsksByKey, IsGivenNone, IsOtherRequest, none_yet, one_taken, none_taken, one_again, other}
use Rattle.tenant_desks.specs.OwnNamed.{IsOwnNamed, name_behind, own_name, own_named, named, no_memory, no_request}
use Rattle.tenant_desks.specs.Routing.{desk_for, desk_of_submit, place_behind, tenant_place}
use Rattle.tenant_desks.specs.Tenancies.{Tenancy}

-- ---- lists

drop_no_more : (n k m : ℕ) (jobs : List KeyedJob) (x : KeyedJob) → n ≤ length jobs → n + k ≡ m → drop k (drop n jobs ++ x ∷ []) ≡ drop m (jobs ++ x ∷ [])
drop_no_more n k m jobs x le is =
    ap (drop k) (sym (drop-append-le n jobs (x ∷ []) le)) ∙ drop-drop k n (jobs ++ x ∷ []) ∙ ap (λ (i : ℕ). drop i (jobs ++ x ∷ [])) is

-- the last of the last and one more are the last of all with it
latest_more : (jobs : List KeyedJob) (x : KeyedJob) → latest (latest jobs ++ x ∷ []) ≡ latest (jobs ++ x ∷ [])
latest_more jobs x =
    let a = length-drop (length jobs - 1000) jobs in
    let b = length-append (latest jobs) (x ∷ []) in
    let c = length-append jobs (x ∷ []) in
    drop_no_more (length jobs - 1000) (length (latest jobs ++ x ∷ []) - 1000) (length (jobs ++ x ∷ []) - 1000) jobs x (omega arith) (omega (arith, a, b, c))

pub set_here : {X : Type 0} (xs : List X) (i : ℕ) (x y : X) → slice_get xs i ≡ Some x → slice_get (slice_set xs i y) i ≡ Some y
set_here [] i x y there = absurd cc
set_here (z ∷ xs) zero x y there = refl
set_here (z ∷ xs) (suc i) x y there = set_here xs i x y there

pub set_apart : {X : Type 0} (xs : List X) (i j : ℕ) (y : X) → i ≢ j → slice_get (slice_set xs i y) j ≡ slice_get xs j
set_apart [] i j y apart = refl
set_apart (z ∷ xs) zero zero y apart = absurd (apart refl)
set_apart (z ∷ xs) zero (suc j) y apart = refl
set_apart (z ∷ xs) (suc i) zero y apart = refl
set_apart (z ∷ xs) (suc i) (suc j) y apart = set_apart xs i j y (λ same. apart (ap suc same))

get_replicate : {X : Type 0} (n i : ℕ) (x : X) → i < n → slice_get (replicate n x) i ≡ Some x
get_replicate zero i x lt = absurd (omega (arith, lt))
get_replicate (suc n) zero x lt = refl
get_replicate (suc n) (suc i) x lt = get_replicate n i x (omega (arith, lt))

-- ---- how many jobs each desk has taken

count_same : (desks : List Ledger) (i : ℕ) (before after : Ledger) (j : ℕ) → slice_get desks i ≡ Some before → length after.jobs ≡ length before.jobs → count_of_jobs (slice_get (slice_set desks i after) j) ≡ count_of_jobs (slice_get desks j)
count_same [] i before after j was same = absurd cc
count_same (d ∷ desks) zero before after zero was same = let is : d ≡ before = cc in same ∙ ap (λ (l : Ledger). length l.jobs) (sym is)
count_same (d ∷ desks) zero before after (suc j) was same = refl
count_same (d ∷ desks) (suc i) before after zero was same = refl
count_same (d ∷ desks) (suc i) before after (suc j) was same = count_same desks i before after j was same

finished : (old : Ledger) (number : ℕ) (outcome : Result Report ℕ) (new : Ledger) → Finishes old number outcome new → length new.jobs ≡ length old.jobs
finished old number outcome new f = ap length f.jobs.jobs ∙ length-set old.jobs (number - 1) _

noted_count : (old : Ledger) (number : ℕ) (outcome : Result Report ℕ) (new : Ledger) → Notes old number outcome new → length new.jobs ≡ length old.jobs
noted_count old number outcome new (inl f) = finished old number outcome new f
noted_count old number outcome new (inr n) = ap (λ (l : Ledger). length l.jobs) n.1

at_place : (old : List Ledger) (number : ℕ) (outcome : Result Report ℕ) (new : List Ledger) (j : ℕ) → NotesAtPlace old number outcome new → count_of_jobs (slice_get new j) ≡ count_of_jobs (slice_get old j)
at_place old number outcome new j n = elim n.noted [
  | inl c ↦ ap (λ (ds : List Ledger). count_of_jobs (slice_get ds j)) c.is ∙ count_same old n.place c.before c.after j c.was (noted_count c.before n.own outcome c.after c.changed)
  | inr t ↦ ap (λ (ds : List Ledger). count_of_jobs (slice_get ds j)) t.1
]

pub ends_taken : {R : Type 0} (takes : R → Option (ℕ × Result Report ℕ) → R → Type 0) (ds : List Ledger) (r : R) (es : List Ledger) (s : R) (j : ℕ) → EndsTaken takes ds r es s → count_of_jobs (slice_get es j) ≡ count_of_jobs (slice_get ds j)
ends_taken takes ds r es s j answering.none_yet = refl
ends_taken takes ds r es s j (answering.one_more ds1 r1 number outcome s1 es1 before step noted) =
    at_place ds1 number outcome es1 j noted ∙ ends_taken takes ds r ds1 r1 j before

settled_count : (desk : Ledger) (number : ℕ) (outcome : Result (Unit {0}) ℕ) (after : Ledger) → Settles desk number outcome after → length after.jobs ≡ length desk.jobs
settled_count desk number (Ok started) after is = ap (λ (l : Ledger). length l.jobs) is
settled_count desk number (Err code) after is = finished desk number (Err code) after is

pushed_count : {X : Type 0} (xs : List X) (x : X) → length (xs ++ x ∷ []) ≡ length xs + 1
pushed_count xs x = length-append xs (x ∷ [])

-- ---- one desk's answer: a job is taken, and its number is told, or none is

-- by what is told
abbrev IsDone : Result Asked ℕ → Reply → ℕ → ℕ → Type 0
IsDone query told before after =
    ((name : List ℕ) × (job : JobText) × (query ≡ Ok (submit name job)) × (after ≡ before + 1) × (reply_data told ≡ submit_data after))
    ⊎ ((after ≡ before) × (IsOtherRequest query ⊎ ((code : ℕ) × (program : Option ℕ) × (slot : Option ℕ) × (reply_data told ≡ refusal_data code program slot))))

module _ {R : Type 0} (starts : R → ℕ → AdmittedJob → Result (Unit {0}) ℕ → R → Type 0) (looks : R → ℕ → Progress → R → Type 0) where
  done_by : (desk : Ledger) (runner : R) (query : Result Asked ℕ) (told : Reply) (after : Ledger) (left : R) → Replies starts looks desk runner query (reply_data told) after left → IsDone query told (length desk.jobs) (length after.jobs)
  unfolding Replies
  done_by desk runner (Err code) told after left is = inr (ap (λ (l : Ledger). length l.jobs) is.1, inr (code, None, None, is.0))
  done_by desk runner (Ok (grant name amount)) told after left is = elim is.0 [
    | inl more ↦ inr (ap length more.more.jobs, inl (grant name amount, refl, λ n job clash. cc))
    | inr none ↦ inr (ap (λ (l : Ledger). length l.jobs) none.same, inl (grant name amount, refl, λ n job clash. cc))
  ]
  done_by desk runner (Ok (account name)) told after left is = inr (ap (λ (l : Ledger). length l.jobs) is.1, inl (account name, refl, λ n job clash. cc))
  done_by desk runner (Ok (submit name order)) told after left is = elim is.2 [
    | inl taken ↦
        let more = ap length taken.takes.jobs.jobs ∙ pushed_count desk.jobs taken.takes.entry in
        let same = settled_count taken.mid (length taken.mid.jobs) taken.outcome after taken.settles in
        inl (name, order, refl, same ∙ more, taken.tells ∙ ap submit_data (sym same))
    | inr none ↦ inr (ap (λ (l : Ledger). length l.jobs) none.same, inr (submit_code none.fault, submit_program none.fault, submit_slot none.fault, none.tells))
  ]
  done_by desk runner (Ok (status number)) told after left is = inr (ap (λ (l : Ledger). length l.jobs) is.3, inl (status number, refl, λ n job clash. cc))
  done_by desk runner (Ok (result number)) told after left is = inr (ap (λ (l : Ledger). length l.jobs) is.1, inl (result number, refl, λ n job clash. cc))

-- by the reply's frame
abbrev IsReplied : Result Asked ℕ → List ℕ → ℕ → ℕ → Type 0
IsReplied query reply before after =
    ((after ≡ before + 1) × (reply ≡ submit_frame after)) ⊎ ((after ≡ before) × IsGivenNone query reply)

submit_framed : (told : Reply) (n : ℕ) (bytes : List ℕ) → reply_data told ≡ submit_data n → bytes ≡ frame_of told → bytes ≡ submit_frame n
unfolding frame_of
submit_framed told n bytes is frame = frame ∙ ap frame_or_refusal is

refusal_framed : (told : Reply) (code : ℕ) (program slot : Option ℕ) (bytes : List ℕ) → reply_data told ≡ refusal_data code program slot → bytes ≡ frame_of told → bytes ≡ frame_or_refusal (refusal_data code program slot)
unfolding frame_of
refusal_framed told code program slot bytes is frame = frame ∙ ap frame_or_refusal is

-- a submit goes to the door's own desk alone
own_place : (names : List (List ℕ)) (door : Door) (name : List ℕ) (place : ℕ) → desk_of_submit names door name ≡ Ok place → place ≡ place_behind door
own_place names door name place is = by_test (nat_eq (tenant_place names name) (place_behind door)) refl
  where
    by_test : (b : Bool) → nat_eq (tenant_place names name) (place_behind door) ≡ b → place ≡ place_behind door
    by_test true here =
        let goes : if◌then◌else◌ {A = Result ℕ ℕ} true (Ok (tenant_place names name)) (Err 74) ≡ Ok place = subst (λ (b : Bool). if◌then◌else◌ {A = Result ℕ ℕ} b (Ok (tenant_place names name)) (Err 74) ≡ Ok place) here is in
        let same : tenant_place names name ≡ place = cc in
        let eq : tenant_place names name ≡ place_behind door = grind (arith, nat_tests) in
        sym same ∙ eq
    by_test false here =
        let goes : if◌then◌else◌ {A = Result ℕ ℕ} false (Ok (tenant_place names name)) (Err 74) ≡ Ok place = subst (λ (b : Bool). if◌then◌else◌ {A = Result ℕ ℕ} b (Ok (tenant_place names name)) (Err 74) ≡ Ok place) here is in
        absurd cc

module _ {R : Type 0} (starts : R → ℕ → AdmittedJob → Result (Unit {0}) ℕ → R → Type 0) (looks : R → ℕ → Progress → R → Type 0) (takes : R → Option (ℕ × Result Report ℕ) → R → Type 0) where
  where_done : (names : List (List ℕ)) (passage : Passage) (keep : KeepLimits) (to : Result ℕ ℕ) (query : Result Asked ℕ) (mid : List Ledger) (rest : R) (bytes : List ℕ) (after : List Ledger) (left : R)
      → to ≡ desk_for names passage query → AnswersWhere starts looks keep to query mid rest bytes after left
      → IsReplied query bytes (count_of_jobs (slice_get mid (place_behind passage.door))) (count_of_jobs (slice_get after (place_behind passage.door)))
  where_done names passage keep (Err code) query mid rest bytes after left to is =
      inr (ap (λ (ds : List Ledger). count_of_jobs (slice_get ds (place_behind passage.door))) is.1, inr (code, None, None, refusal_framed (reply.Refused code None None) code None None bytes refl is.0))
  where_done names passage keep (Ok place) query mid rest bytes after left to c = by_done (done_by _ _ c.before _ query c.changed.told c.changed.mid _ c.changed.replies)
    where
      at : ℕ
      at = place_behind passage.door

      kept : length c.after.jobs ≡ length c.changed.mid.jobs
      kept = c.changed.keeps.1.forgets.jobs.count

      by_done : IsDone query c.changed.told (length c.before.jobs) (length c.changed.mid.jobs) → IsReplied query bytes (count_of_jobs (slice_get mid at)) (count_of_jobs (slice_get after at))
      by_done (inl (name, job, is, more, tells)) =
          let here : place ≡ at = own_place names passage.door name place (sym (ap (desk_for names passage) is) ∙ sym to) in
          let now : slice_get after at ≡ Some c.after = ap (λ (ds : List Ledger). slice_get ds at) c.is ∙ ap (λ (i : ℕ). slice_get (slice_set mid i c.after) at) here ∙ set_here mid at c.before c.after (ap (slice_get mid) (sym here) ∙ c.was) in
          let was : slice_get mid at ≡ Some c.before = ap (slice_get mid) (sym here) ∙ c.was in
          let count : count_of_jobs (slice_get after at) ≡ length c.changed.mid.jobs = ap count_of_jobs now ∙ kept in
          inl (
            count ∙ more ∙ ap (λ (n : ℕ). n + 1) (sym (ap count_of_jobs was)),
            submit_framed c.changed.told (length c.changed.mid.jobs) bytes tells c.changed.frame ∙ ap submit_frame (sym count),
          )
      by_done (inr (same, none)) = inr (
        ap (λ (ds : List Ledger). count_of_jobs (slice_get ds at)) c.is ∙ count_same mid place c.before c.after at c.was (kept ∙ same),
        elim none [
          | inl o ↦ inl o
          | inr r ↦ inr (r.0, r.1, r.2, refusal_framed c.changed.told r.0 r.1 r.2 bytes r.3 c.changed.frame)
        ],
      )

  named_done : (s : Tenancy × KeptRunner R) (query : Query) (bytes : List ℕ) (t : Tenancy × KeptRunner R) → named_answers starts looks takes s query bytes t
      → IsReplied query.asked bytes (jobs_behind s.0.desks query.passage.door) (jobs_behind t.0.desks query.passage.door)
  named_done s query bytes t (d, names_same, keep_same) =
      subst (λ (n : ℕ). IsReplied query.asked bytes n (jobs_behind t.0.desks query.passage.door)) (ends_taken takes s.0.desks s.1.runner d.mid d.passed.last (place_behind query.passage.door) d.passed.taken)
      (where_done s.0.names query.passage s.1.keep (desk_for s.0.names query.passage query.asked) query.asked d.mid d.rest bytes t.0.desks t.1.runner refl d.answered)

  -- what was asked without a name
  came_done : (names : List (List ℕ)) (door : Door) (came query : Result Asked ℕ) (bytes : List ℕ) (before after : ℕ) → IsOwnNamed names door came query → IsReplied query bytes before after → IsReplied came bytes before after
  came_done names door came query bytes before after own (inl more) = inl more
  came_done names door came query bytes before after own (inr (same, inr refusal)) = inr (same, inr refusal)
  came_done names door came query bytes before after own (inr (same, inl (asked, is, apart))) = inr (same, inl (other_came came query own is))
    where
      other_came : (x y : Result Asked ℕ) → IsOwnNamed names door x y → y ≡ Ok asked → IsOtherRequest x
      other_came x y (no_request code) eq = absurd cc
      other_came x y (no_memory a unnamed) eq = absurd cc
      other_came x y (named a) eq =
          let same_asked : own_named (name_behind names door) a ≡ asked = cc in
          (a, refl, λ name job clash. apart (own_name (name_behind names door) name) job (sym same_asked ∙ ap (own_named (name_behind names door)) clash))

  tenant_done : (s : Tenancy × KeptRunner R) (query : Query) (bytes : List ℕ) (t : Tenancy × KeptRunner R) → tenant_answers starts looks takes s query bytes t
      → IsReplied query.asked bytes (jobs_behind s.0.desks query.passage.door) (jobs_behind t.0.desks query.passage.door)
  tenant_done s query bytes t (asked, own, answer) =
      came_done s.0.names query.passage.door query.asked asked bytes _ _ own (named_done s (record { passage = query.passage; asked = asked; beyond = None }) bytes t answer)

  -- ---- the keyed jobs of a history

  module _ (names : List (List ℕ)) (firsts : List Ledger) (keep : KeepLimits) (place : ℕ) (there : place < length firsts) where
    -- the door at the place has the last of them
    record IsKeyedTo (history : List HistoryEntry) (s : Tenancy × BehindDoors (KeptRunner R)) : Type 0 where
      pub jobs : List KeyedJob
      pub are : AreKeyed place history jobs
      pub at : slice_get s.1.keys place ≡ Some (latest jobs)

    module _ (history : List HistoryEntry) (s : Tenancy × BehindDoors (KeptRunner R)) (e : HistoryEntry) (t : Tenancy × BehindDoors (KeptRunner R)) (k : IsKeyedTo history s) where
      abbrev door : Door
      door = e.query.passage.door

      -- nothing there has a key
      unkeyed : ((key : List ℕ) → AsksByKey place key e.query → ⊥) → slice_get t.1.keys place ≡ slice_get s.1.keys place → IsKeyedTo (history ++ e ∷ []) t
      unkeyed none same = record { jobs = k.jobs; are = other history k.jobs e k.are none; at = same ∙ k.at }

      unless_key : (beyond : Option DoorForm) → e.query.beyond ≡ beyond → ((key : List ℕ) → beyond ≢ Some (Keyed (Some key))) → (key : List ℕ) → AsksByKey place key e.query → ⊥
      unless_key beyond is apart key asks = apart key (sym is ∙ asks.1)

      keys_here : place_behind door ≡ place → keys_behind s.1.keys door ≡ latest k.jobs
      keys_here here = ap (λ (o : Option (List KeyedJob)). unwrap_or o []) (ap (slice_get s.1.keys) here ∙ k.at)

      kept_at : t.1.keys ≡ s.1.keys → slice_get t.1.keys place ≡ slice_get s.1.keys place
      kept_at same = ap (λ (ks : List (List KeyedJob)). slice_get ks place) same

      -- the number is told again
      again : (key : List ℕ) (job : ℕ) → e.query.beyond ≡ Some (Keyed (Some key)) → job_among (keys_behind s.1.keys door) key ≡ Some job → e.reply ≡ submit_frame job → t.1.keys ≡ s.1.keys → IsKeyedTo (history ++ e ∷ []) t
      again key job is known tells same = by_place (nat_eq (place_behind door) place) refl
        where
          by_place : (b : Bool) → nat_eq (place_behind door) place ≡ b → IsKeyedTo (history ++ e ∷ []) t
          by_place true eq =
              let here : place_behind door ≡ place = grind (arith, nat_tests) in
              record {
                jobs = k.jobs;
                are = one_again history k.jobs e key job k.are (here, is) (subst (λ (l : List KeyedJob). job_among l key ≡ Some job) (keys_here here) known) tells;
                at = kept_at same ∙ k.at;
              }
          by_place false eq =
              let apart : place_behind door ≢ place = grind (arith, nat_tests) in
              unkeyed (λ key2 asks. apart asks.0) (kept_at same)

      -- a new key
      fresh : (key : List ℕ) → e.query.beyond ≡ Some (Keyed (Some key)) → job_among (keys_behind s.1.keys door) key ≡ None → IsReplied e.query.asked e.reply (jobs_behind s.0.desks door) (jobs_behind t.0.desks door)
          → t.1.keys ≡ keys_left (Some key) s.1.keys door (jobs_behind s.0.desks door) (jobs_behind t.0.desks door) → IsKeyedTo (history ++ e ∷ []) t
      fresh key is unknown (inl (more, tells)) kept = by_place (nat_eq (place_behind door) place) refl
        where
          rose : nat_lt (jobs_behind s.0.desks door) (jobs_behind t.0.desks door) ≡ true
          rose = grind (arith, nat_tests)

          now : t.1.keys ≡ with_key s.1.keys door (jobs_behind t.0.desks door) key
          now = kept ∙ ap (λ (b : Bool). if◌then◌else◌ {A = List (List KeyedJob)} b (with_key s.1.keys door (jobs_behind t.0.desks door) key) s.1.keys) rose

          row : KeyedJob
          row = record { job = jobs_behind t.0.desks door; key = key }

          by_place : (b : Bool) → nat_eq (place_behind door) place ≡ b → IsKeyedTo (history ++ e ∷ []) t
          by_place true eq =
              let here : place_behind door ≡ place = grind (arith, nat_tests) in
              record {
                jobs = k.jobs ++ row ∷ [];
                are = one_taken history k.jobs e key (jobs_behind t.0.desks door) k.are (here, is) (subst (λ (l : List KeyedJob). job_among l key ≡ None) (keys_here here) unknown) tells;
                at = ap (λ (ks : List (List KeyedJob)). slice_get ks place) now
                    ∙ ap (λ (i : ℕ). slice_get (slice_set s.1.keys i (latest (keys_behind s.1.keys door ++ row ∷ []))) place) here
                    ∙ set_here s.1.keys place (latest k.jobs) (latest (keys_behind s.1.keys door ++ row ∷ [])) k.at
                    ∙ ap (λ (l : List KeyedJob). Some (latest (l ++ row ∷ []))) (keys_here here) ∙ ap Some (latest_more k.jobs row);
              }
          by_place false eq =
              let apart : place_behind door ≢ place = grind (arith, nat_tests) in
              unkeyed (λ key2 asks. apart asks.0)
              (ap (λ (ks : List (List KeyedJob)). slice_get ks place) now ∙ set_apart s.1.keys (place_behind door) place (latest (keys_behind s.1.keys door ++ row ∷ [])) apart)
      fresh key is unknown (inr (same, none)) kept = by_place (nat_eq (place_behind door) place) refl
        where
          rests : nat_lt (jobs_behind s.0.desks door) (jobs_behind t.0.desks door) ≡ false
          rests = grind (arith, nat_tests)

          now : t.1.keys ≡ s.1.keys
          now = kept ∙ ap (λ (b : Bool). if◌then◌else◌ {A = List (List KeyedJob)} b (with_key s.1.keys door (jobs_behind t.0.desks door) key) s.1.keys) rests

          by_place : (b : Bool) → nat_eq (place_behind door) place ≡ b → IsKeyedTo (history ++ e ∷ []) t
          by_place true eq =
              let here : place_behind door ≡ place = grind (arith, nat_tests) in
              record {
                jobs = k.jobs;
                are = none_taken history k.jobs e key k.are (here, is) (subst (λ (l : List KeyedJob). job_among l key ≡ None) (keys_here here) unknown) none;
                at = kept_at now ∙ k.at;
              }
          by_place false eq =
              let apart : place_behind door ≢ place = grind (arith, nat_tests) in
              unkeyed (λ key2 asks. apart asks.0) (kept_at now)

      by_known : (key : List ℕ) (known : Option ℕ) → e.query.beyond ≡ Some (Keyed (Some key)) → job_among (keys_behind s.1.keys door) key ≡ known
          → AnswersOrTells (tenant_answers starts looks takes) (option_map submit_frame (job_among (keys_behind s.1.keys door) key)) (without_keys s) e.query e.reply (without_keys t)
          → t.1.keys ≡ keys_left (unless_known (job_among (keys_behind s.1.keys door) key) key) s.1.keys door (jobs_behind s.0.desks door) (jobs_behind t.0.desks door) → IsKeyedTo (history ++ e ∷ []) t
      by_known key None is among answer kept =
          let a = subst (λ (o : Option ℕ). AnswersOrTells (tenant_answers starts looks takes) (option_map submit_frame o) (without_keys s) e.query e.reply (without_keys t)) among answer in
          fresh key is among (tenant_done (without_keys s) (plainly e.query) e.reply (without_keys t) a)
          (kept ∙ ap (λ (o : Option ℕ). keys_left (unless_known o key) s.1.keys door (jobs_behind s.0.desks door) (jobs_behind t.0.desks door)) among)
      by_known key (Some job) is among answer kept =
          let a = subst (λ (o : Option ℕ). AnswersOrTells (tenant_answers starts looks takes) (option_map submit_frame o) (without_keys s) e.query e.reply (without_keys t)) among answer in
          again key job is among a.1 (kept ∙ ap (λ (o : Option ℕ). keys_left (unless_known o key) s.1.keys door (jobs_behind s.0.desks door) (jobs_behind t.0.desks door)) among)

      by_form : (beyond : Option DoorForm) → e.query.beyond ≡ beyond
          → AnswersOrTells (tenant_answers starts looks takes) (told_by_door (keys_behind s.1.keys door) t.0.desks door beyond) (without_keys s) e.query e.reply (without_keys t)
          → t.1.keys ≡ keys_left (new_key (keys_behind s.1.keys door) beyond) s.1.keys door (jobs_behind s.0.desks door) (jobs_behind t.0.desks door) → IsKeyedTo (history ++ e ∷ []) t
      by_form None is answer kept = unkeyed (unless_key None is (λ key clash. cc)) (kept_at kept)
      by_form (Some (Jobs from)) is answer kept = unkeyed (unless_key (Some (Jobs from)) is (λ key clash. cc)) (kept_at kept)
      by_form (Some (Keyed None)) is answer kept = unkeyed (unless_key (Some (Keyed None)) is (λ key clash. cc)) (kept_at kept)
      by_form (Some (Server stops)) is answer kept = unkeyed (unless_key (Some (Server stops)) is (λ key clash. cc)) (kept_at kept)
      by_form (Some (Keyed (Some key))) is answer kept = by_known key (job_among (keys_behind s.1.keys door) key) is refl answer kept

    keyed_to : (history : List HistoryEntry) (s : Tenancy × BehindDoors (KeptRunner R)) → plain.Replays (door_answers starts looks takes) (BeginsAtDoors names firsts keep) history s → IsKeyedTo history s
    keyed_to _ s (plain.none_yet x begun) = record { jobs = []; are = none_yet; at = ap (λ (ks : List (List KeyedJob)). slice_get ks place) begun.2 ∙ get_replicate (length firsts) place [] there }
    keyed_to _ s (plain.one_more history x e u before answer) = by_form history x e u (keyed_to history x before) e.query.beyond refl answer.0 answer.1

    pub one_each : (history : List HistoryEntry) (s : Tenancy × BehindDoors (KeptRunner R)) → plain.Replays (door_answers starts looks takes) (BeginsAtDoors names firsts keep) history s
        → (jobs : List KeyedJob) × AreKeyed place history jobs × (slice_get s.1.keys place ≡ Some (latest jobs))
    one_each history s replays = let k = keyed_to history s replays in (k.jobs, k.are, k.at)

  -- a key that is remembered
  pub told_again : (s t : Tenancy × BehindDoors (KeptRunner R)) (query : Query) (bytes : List ℕ) (key : List ℕ) (job : ℕ) → door_answers starts looks takes s query bytes t → query.beyond ≡ Some (Keyed (Some key))
      → job_among (keys_behind s.1.keys query.passage.door) key ≡ Some job
      → (bytes ≡ submit_frame job) × (t.1.keys ≡ s.1.keys) × AsksNothing (tenant_answers starts looks takes) query.passage (without_keys s) (without_keys t)
  told_again s t query bytes key job answer is among =
      let door = query.passage.door in
      let keys = keys_behind s.1.keys door in
      let a = subst (λ (o : Option (List ℕ)). AnswersOrTells (tenant_answers starts looks takes) o (without_keys s) query bytes (without_keys t))
      (ap (told_by_door keys t.0.desks door) is ∙ ap (option_map submit_frame) among) answer.0 in
      let kept = answer.1 ∙ ap (λ (o : Option (List ℕ)). keys_left o s.1.keys door (jobs_behind s.0.desks door) (jobs_behind t.0.desks door))
      (ap (new_key keys) is ∙ ap (λ (o : Option ℕ). unless_known o key) among) in
      (a.1, kept, a.0)
