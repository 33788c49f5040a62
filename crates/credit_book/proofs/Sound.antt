-- What is true of the table that a legal history leaves: no credit is lost, and each live task holds some.
use Rattle.std.proofs.Common.{◌≡◌, ◌≢◌, ℕ, zero, suc, ◌+◌, ◌-◌, ◌<◌, ◌≤◌, Bool, true, false, true≢false, List, [], ◌∷◌, ◌++◌, length, get_or, set, refl, sym, ap, ◌∙◌, subst, arith, length-append, length-set, eqb, eq-eqb, ne_eqb}
use Rattle.std.proofs.Math.Seq.{get_or-append_seam}
use Rattle.std.specs.List.{sum_by}
use Rattle.std.proofs.lemmas.List.Sums.{sum_by-set, sum_by_push, sum_by-cons}
use Rattle.credit_book.specs.declared.event.Event.{Event}
use Rattle.credit_book.specs.declared.event.Event.TheVariants.{Open, Spawn, Park, Claim, End}
use Rattle.credit_book.specs.declared.event.Stage.{Stage}
use Rattle.credit_book.specs.declared.event.Stage.TheVariants.{Fresh, Parked, Claimed, Ended}
use Rattle.credit_book.specs.declared.event.Standing.{Standing}
use Rattle.credit_book.specs.declared.event.TaskEnd.{TaskEnd}
use Rattle.credit_book.specs.History.{TaskTable, standing_at, task_at, no_tasks, is_fresh, may_work, is_alive, May, after, new_task, table_from, table_of, IsLegalFrom, IsHistoryOf, held_in, spent_in, returned_in, IsComplete, without_first}

-- a live task holds credit, and one that has ended holds none
abbrev pub Holds : Standing → Type 0
Holds s = (is_alive s.stage ≡ true → 1 ≤ s.held) × (is_alive s.stage ≡ false → s.held ≡ 0)

abbrev pub Blank : TaskEnd → Type 0
Blank e = (e.spent ≡ 0) × (e.rest ≡ 0)

abbrev pub bit : Bool → ℕ
bit true = 1
bit false = 0

-- how often k stands in the list
abbrev pub times : ℕ → List ℕ → ℕ
times k [] = 0
times k (n ∷ ns) = bit (eqb n k) + times k ns

abbrev pub parked : Stage → ℕ
parked Fresh = 0
parked Parked = 1
parked Claimed = 0
parked Ended = 0

pub record IsSound (issued : ℕ) (t : TaskTable) : Type 0 where
  pub some : 0 < length t.standings
  pub paired : length t.tasks ≡ length t.standings
  pub conserved : held_in t + returned_in t + spent_in t ≡ issued
  pub holding : (k : ℕ) → Holds (standing_at t k)
  pub blank : (k : ℕ) → is_alive (standing_at t k).stage ≡ true → Blank (task_at t k)
  pub queued : (k : ℕ) → times k t.queue ≡ parked (standing_at t k).stage
  pub counted : sum_by (λ s. parked s.stage) t.standings ≡ length t.queue
  pub worth : (k : ℕ) → k < length t.standings → 1 ≤ (standing_at t k).held + (task_at t k).spent + (task_at t k).rest

pub at_set : {A : Type 0} (P : A → Type 0) (xs : List A) (n k : ℕ) (y d : A) → n < length xs → (k ≡ n → P y) → (k ≢ n → P (get_or xs k d)) → P (get_or (set xs n y) k d)
at_set P [] n k y d lt same other = absurd (omega arith)
at_set P (x ∷ xs) zero zero y d lt same other = same refl
at_set P (x ∷ xs) zero (suc k) y d lt same other = other (λ e. omega arith)
at_set P (x ∷ xs) (suc n) zero y d lt same other = other (λ e. omega arith)
at_set P (x ∷ xs) (suc n) (suc k) y d lt same other =
    at_set P xs n k y d (omega arith) (λ e. same (ap suc e)) (λ ne. other (λ e. ne (omega arith)))

pub at_push : {A : Type 0} (P : A → Type 0) (xs : List A) (k : ℕ) (y d : A) → P (get_or xs k d) → (k ≡ length xs → P y) → P (get_or (xs ++ y ∷ []) k d)
at_push P [] zero y d old new = new refl
at_push P [] (suc k) y d old new = old
at_push P (x ∷ xs) zero y d old new = old
at_push P (x ∷ xs) (suc k) y d old new = at_push P xs k y d old (λ e. new (ap suc e))

pub at_end : {A : Type 0} (P : A → Type 0) (xs : List A) (k : ℕ) (y d : A) → k < length xs + 1 → (k < length xs → P (get_or xs k d)) → (k ≡ length xs → P y) → P (get_or (xs ++ y ∷ []) k d)
at_end P [] zero y d lt old new = new refl
at_end P [] (suc k) y d lt old new = absurd (omega arith)
at_end P (x ∷ xs) zero y d lt old new = old (omega arith)
at_end P (x ∷ xs) (suc k) y d lt old new = at_end P xs k y d (omega arith) (λ h. old (omega arith)) (λ e. new (ap suc e))

off : false ≡ true → ⊥
off e = true≢false (sym e)

pub alive_from-work : (s : Stage) → may_work s ≡ true → is_alive s ≡ true
alive_from-work Fresh e = refl
alive_from-work Parked e = absurd (off e)
alive_from-work Claimed e = refl
alive_from-work Ended e = absurd (off e)

pub alive_from-fresh : (s : Stage) → is_fresh s ≡ true → is_alive s ≡ true
alive_from-fresh Fresh e = refl
alive_from-fresh Parked e = absurd (off e)
alive_from-fresh Claimed e = absurd (off e)
alive_from-fresh Ended e = absurd (off e)

-- a task that is alive is in the table
pub within : (ss : List Standing) (n : ℕ) → is_alive (get_or ss n (record { held = 0; stage = Ended })).stage ≡ true → n < length ss
within [] n e = absurd (off e)
within (s ∷ ss) zero e = omega arith
within (s ∷ ss) (suc n) e = let h = within ss n e in omega arith

abbrev gone : Standing
gone = record { held = 0; stage = Ended }

abbrev none : TaskEnd
none = record { number = 0; program = 0; arg = 0; given = 0; spent = 0; rest = 0; r0 = 0; ran = false }

times-push : (k n : ℕ) (ns : List ℕ) → times k (ns ++ n ∷ []) ≡ times k ns + bit (eqb n k)
times-push k n [] = omega arith
times-push k n (m ∷ ns) = let h = times-push k n ns in omega arith

parked_alive : (s : Stage) → parked s ≡ 1 → is_alive s ≡ true
parked_alive Fresh e = absurd (omega arith)
parked_alive Parked e = refl
parked_alive Claimed e = absurd (omega arith)
parked_alive Ended e = absurd (omega arith)

parked_le : (s : Stage) → parked s ≤ 1
parked_le Fresh = omega arith
parked_le Parked = omega arith
parked_le Claimed = omega arith
parked_le Ended = omega arith

fresh_out : (s : Stage) → is_fresh s ≡ true → parked s ≡ 0
fresh_out Fresh e = refl
fresh_out Parked e = absurd (off e)
fresh_out Claimed e = absurd (off e)
fresh_out Ended e = absurd (off e)

work_out : (s : Stage) → may_work s ≡ true → parked s ≡ 0
work_out Fresh e = refl
work_out Parked e = absurd (off e)
work_out Claimed e = refl
work_out Ended e = absurd (off e)

-- a live task changes its stage, and stays alive
moved : (issued : ℕ) (t : TaskTable) (n : ℕ) (stage : Stage) (queue : List ℕ) → IsSound issued t → is_alive (standing_at t n).stage ≡ true → is_alive stage ≡ true
    → ((k : ℕ) → k ≡ n → times k queue ≡ parked stage) → ((k : ℕ) → k ≢ n → times k queue ≡ times k t.queue) → length queue + parked (standing_at t n).stage ≡ length t.queue + parked stage
    → IsSound issued (record { standings = set t.standings n (record { held = (standing_at t n).held; stage = stage }); tasks = t.tasks; queue = queue })
moved issued t n stage queue sound live lives here there size =
    let s : Standing = record { held = (standing_at t n).held; stage = stage } in
    let lt = within t.standings n live in
    let sums = sum_by-set (λ (s : Standing). s.held) t.standings n s gone lt in record {
      some = let h = sound.some in omega (arith, length-set t.standings n s);
      paired = sound.paired ∙ sym (length-set t.standings n s);
      conserved = let c = sound.conserved in omega arith;
      holding = λ k. at_set Holds t.standings n k s gone lt (λ _. ((λ _. (sound.holding n).0 live), (λ e. absurd (true≢false (sym lives ∙ e))))) (λ _. sound.holding k);
      blank = λ k. at_set (λ (u : Standing). is_alive u.stage ≡ true → Blank (task_at t k)) t.standings n k s gone lt
          (λ e _. sound.blank k (subst (λ (j : ℕ). is_alive (standing_at t j).stage ≡ true) (sym e) live)) (λ _. sound.blank k);
      queued = λ k. at_set (λ (u : Standing). times k queue ≡ parked u.stage) t.standings n k s gone lt (here k) (λ ne. there k ne ∙ sound.queued k);
      counted = let c = sound.counted in let q = sum_by-set (λ (s : Standing). parked s.stage) t.standings n s gone lt in omega arith;
      worth = λ k lt'. at_set (λ (u : Standing). 1 ≤ u.held + (task_at t k).spent + (task_at t k).rest) t.standings n k s gone lt
          (λ e. subst (λ (j : ℕ). 1 ≤ (standing_at t n).held + (task_at t j).spent + (task_at t j).rest) (sym e) (sound.worth n lt))
          (λ _. sound.worth k (omega (arith, length-set t.standings n s)));
    }

ended : (issued : ℕ) (t : TaskTable) (n used r0 : ℕ) (ran : Bool) → IsSound issued t → may_work (standing_at t n).stage ≡ true → used ≤ (standing_at t n).held
    → IsSound issued (record {
      standings = set t.standings n gone;
      tasks = set t.tasks n (record (task_at t n) { spent = used; rest = (standing_at t n).held - used; r0 = r0; ran = ran });
      queue = t.queue;
    })
ended issued t n used r0 ran sound works le =
    let live = alive_from-work (standing_at t n).stage works in
    let lt = within t.standings n live in
    let lt' : n < length t.tasks = let p = sound.paired in omega arith in
    let task : TaskEnd = record (task_at t n) { spent = used; rest = (standing_at t n).held - used; r0 = r0; ran = ran } in
    let old = sound.blank n live in
    let held = sum_by-set (λ (s : Standing). s.held) t.standings n gone gone lt in
    let spent = sum_by-set (λ (e : TaskEnd). e.spent) t.tasks n task none lt' in
    let rest = sum_by-set (λ (e : TaskEnd). e.rest) t.tasks n task none lt' in record {
      some = let h = sound.some in omega (arith, length-set t.standings n gone);
      paired = length-set t.tasks n task ∙ (sound.paired ∙ sym (length-set t.standings n gone));
      conserved = let c = sound.conserved in let a = old.0 in let b = old.1 in omega arith;
      holding = λ k. at_set Holds t.standings n k gone gone lt (λ _. ((λ e. absurd (off e)), (λ _. refl))) (λ _. sound.holding k);
      blank = λ k. at_set (λ (u : Standing). is_alive u.stage ≡ true → Blank (get_or (set t.tasks n task) k none)) t.standings n k gone gone lt
          (λ _ e. absurd (off e)) (λ ne e. at_set Blank t.tasks n k task none lt' (λ same. absurd (ne same)) (λ _. sound.blank k e));
      queued = λ k. at_set (λ (u : Standing). times k t.queue ≡ parked u.stage) t.standings n k gone gone lt
          (λ e. sound.queued k ∙ (ap (λ (j : ℕ). parked (standing_at t j).stage) e ∙ work_out (standing_at t n).stage works)) (λ _. sound.queued k);
      counted = let c = sound.counted in let w = work_out (standing_at t n).stage works in let q = sum_by-set (λ (s : Standing). parked s.stage) t.standings n gone gone lt in omega arith;
      worth = λ k lt''. at_set (λ (u : Standing). 1 ≤ u.held + (get_or (set t.tasks n task) k none).spent + (get_or (set t.tasks n task) k none).rest) t.standings n k gone gone lt
          (λ e. at_set (λ (x : TaskEnd). 1 ≤ 0 + x.spent + x.rest) t.tasks n k task none lt' (λ _. let w = (sound.holding n).0 live in omega arith) (λ ne. absurd (ne e)))
          (λ ne. at_set (λ (x : TaskEnd). 1 ≤ (standing_at t k).held + x.spent + x.rest) t.tasks n k task none lt' (λ e. absurd (ne e)) (λ _. sound.worth k (omega (arith, length-set t.standings n gone))));
    }

spawned : (issued : ℕ) (t : TaskTable) (n program share arg : ℕ) → IsSound issued t → may_work (standing_at t n).stage ≡ true → 1 ≤ share → share < (standing_at t n).held
    → IsSound issued (record {
      standings = set t.standings n (record { held = (standing_at t n).held - share; stage = (standing_at t n).stage }) ++ record { held = share; stage = Fresh } ∷ [];
      tasks = t.tasks ++ new_task (length t.standings) program arg share ∷ [];
      queue = t.queue;
    })
spawned issued t n program share arg sound works one less =
    let live = alive_from-work (standing_at t n).stage works in
    let lt = within t.standings n live in
    let s : Standing = record { held = (standing_at t n).held - share; stage = (standing_at t n).stage } in
    let c' : Standing = record { held = share; stage = Fresh } in
    let ss = set t.standings n s in
    let task = new_task (length t.standings) program arg share in
    let ts = t.tasks ++ task ∷ [] in
    let len : length ss ≡ length t.standings = length-set t.standings n s in
    let held = sum_by-set (λ (s : Standing). s.held) t.standings n s gone lt in
    let held' = sum_by_push (λ (s : Standing). s.held) ss c' in
    let spent = sum_by_push (λ (e : TaskEnd). e.spent) t.tasks task in
    let rest = sum_by_push (λ (e : TaskEnd). e.rest) t.tasks task in
    let kept : (k : ℕ) → is_alive (standing_at t k).stage ≡ true → Blank (get_or ts k none) = λ k e. at_push Blank t.tasks k task none (sound.blank k e) (λ _. (refl, refl)) in record {
      some = let h = sound.some in omega (arith, len, length-append ss (c' ∷ []));
      paired = let p = sound.paired in omega (arith, len, length-append ss (c' ∷ []), length-append t.tasks (task ∷ []));
      conserved = let k = sound.conserved in omega arith;
      holding = λ k. at_push Holds ss k c' gone
          (at_set Holds t.standings n k s gone lt (λ _. ((λ _. omega arith), (λ e. absurd (true≢false (sym live ∙ e))))) (λ _. sound.holding k))
          (λ _. ((λ _. one), (λ e. absurd (true≢false e))));
      blank = λ k. at_push (λ (u : Standing). is_alive u.stage ≡ true → Blank (get_or ts k none)) ss k c' gone
          (at_set (λ (u : Standing). is_alive u.stage ≡ true → Blank (get_or ts k none)) t.standings n k s gone lt
          (λ e _. kept k (subst (λ (j : ℕ). is_alive (standing_at t j).stage ≡ true) (sym e) live)) (λ _. kept k))
          (λ e _. let at : k ≡ length t.tasks = let p = sound.paired in omega arith in
          subst Blank (sym (ap (λ (j : ℕ). get_or ts j none) at ∙ get_or-append_seam t.tasks task [] none)) (refl, refl));
      queued = λ k. at_push (λ (u : Standing). times k t.queue ≡ parked u.stage) ss k c' gone
          (at_set (λ (u : Standing). times k t.queue ≡ parked u.stage) t.standings n k s gone lt
          (λ e. sound.queued k ∙ ap (λ (j : ℕ). parked (standing_at t j).stage) e) (λ _. sound.queued k))
          (λ e. sound.queued k ∙ past t.standings k (omega arith));
      counted =
          let c = sound.counted in
          let q = sum_by-set (λ (s : Standing). parked s.stage) t.standings n s gone lt in
          let q' = sum_by_push (λ (s : Standing). parked s.stage) ss c' in omega arith;
      worth = λ k lt'. at_end (λ (u : Standing). 1 ≤ u.held + (get_or ts k none).spent + (get_or ts k none).rest) ss k c' gone (omega (arith, length-append ss (c' ∷ [])))
          (λ h. at_end (λ (x : TaskEnd). 1 ≤ (get_or ss k gone).held + x.spent + x.rest) t.tasks k task none (let p = sound.paired in omega arith)
          (λ h'. at_set (λ (u : Standing). 1 ≤ u.held + (task_at t k).spent + (task_at t k).rest) t.standings n k s gone lt (λ _. omega arith) (λ _. sound.worth k (omega arith)))
          (λ e. absurd (let p = sound.paired in omega arith)))
          (λ _. omega arith);
    }
  where
    past : (ss : List Standing) (k : ℕ) → length ss ≤ k → parked (get_or ss k gone).stage ≡ 0
    past [] k le = refl
    past (s ∷ ss) zero le = absurd (omega arith)
    past (s ∷ ss) (suc k) le = past ss k (omega arith)

eqb_self : (n : ℕ) → bit (eqb n n) ≡ 1
eqb_self n = ap bit (eq-eqb n n refl)

eqb_other : (n k : ℕ) → k ≢ n → bit (eqb n k) ≡ 0
eqb_other n k ne = ap bit (ne_eqb n k (λ e. ne (sym e)))

pub sound-after : (issued : ℕ) (t : TaskTable) (e : Event) → IsSound issued t → May t e → IsSound issued (after t e)
sound-after issued t (Open job credit) sound may = absurd (let h = sound.some in omega (arith, ap length may.0))
sound-after issued t (Spawn parent child program share arg base len) sound may =
    subst (λ (j : ℕ). IsSound issued (after t (Spawn parent j program share arg base len))) (sym may.1) (spawned issued t parent program share arg sound may.0 may.2 may.3)
sound-after issued t (Park n) sound may =
    moved issued t n Parked (t.queue ++ n ∷ []) sound (alive_from-fresh (standing_at t n).stage may) refl
    (λ k e. let out : times k t.queue ≡ 0 = sound.queued k ∙ (ap (λ (j : ℕ). parked (standing_at t j).stage) e ∙ fresh_out (standing_at t n).stage may) in
    let one : bit (eqb n k) ≡ 1 = ap (λ (j : ℕ). bit (eqb n j)) e ∙ eqb_self n in
    omega (arith, times-push k n t.queue))
    (λ k ne. omega (arith, times-push k n t.queue, eqb_other n k ne))
    (let w = fresh_out (standing_at t n).stage may in omega (arith, length-append t.queue (n ∷ [])))
sound-after issued t (Claim n) sound may =
    let is : (k : ℕ) → times k t.queue ≡ bit (eqb n k) + times k may.0 = λ k. ap (times k) may.1 in
    let rest : (k : ℕ) → times k (without_first t.queue) ≡ times k may.0 = λ k. ap (λ (q : List ℕ). times k (without_first q)) may.1 in
    let here : times n may.0 + 1 ≡ parked (standing_at t n).stage = let a = is n in let b = sound.queued n in let c = eqb_self n in omega arith in
    let bit = parked_le (standing_at t n).stage in
    moved issued t n Claimed (without_first t.queue) sound (parked_alive (standing_at t n).stage (omega arith)) refl
    (λ k e. rest k ∙ (ap (λ (j : ℕ). times j may.0) e ∙ omega arith))
    (λ k ne. rest k ∙ (let a = is k in let b = eqb_other n k ne in omega arith))
    (let a = ap length may.1 in let b : length (without_first t.queue) ≡ length may.0 = ap (λ (q : List ℕ). length (without_first q)) may.1 in omega arith)
sound-after issued t (End n used r0 ran base bytes) sound may = ended issued t n used r0 ran sound may.0 may.1

sound_from : (issued : ℕ) (t : TaskTable) (es : List Event) → IsSound issued t → IsLegalFrom t es → IsSound issued (table_from t es)
sound_from issued t [] sound legal = sound
sound_from issued t (e ∷ es) sound legal = sound_from issued (after t e) es (sound-after issued t e sound legal.0) legal.1

opening : (job issued : ℕ) → 1 ≤ issued → IsSound issued (after no_tasks (Open job issued))
opening job issued le = record {
  some = omega arith;
  paired = refl;
  conserved = omega arith;
  holding = first;
  blank = none_spent;
  queued = none_parked;
  counted = refl;
  worth = first_worth;
}
  where
    first : (k : ℕ) → Holds (standing_at (after no_tasks (Open job issued)) k)
    first zero = ((λ _. le), (λ e. absurd (true≢false e)))
    first (suc k) = ((λ e. absurd (off e)), (λ _. refl))

    none_spent : (k : ℕ) → is_alive (standing_at (after no_tasks (Open job issued)) k).stage ≡ true → Blank (task_at (after no_tasks (Open job issued)) k)
    none_spent zero e = (refl, refl)
    none_spent (suc k) e = (refl, refl)

    first_worth : (k : ℕ) → k < 1 → 1 ≤ (standing_at (after no_tasks (Open job issued)) k).held + (task_at (after no_tasks (Open job issued)) k).spent + (task_at (after no_tasks (Open job issued)) k).rest
    first_worth zero lt = omega arith
    first_worth (suc k) lt = absurd (omega arith)

    none_parked : (k : ℕ) → 0 ≡ parked (standing_at (after no_tasks (Open job issued)) k).stage
    none_parked zero = refl
    none_parked (suc k) = refl

-- the table of a legal history is sound
pub sound_of : (job issued : ℕ) (es : List Event) → IsHistoryOf job issued es → IsSound issued (table_of es) × (1 ≤ issued) × (issued ≤ 2147483647)
sound_of job issued es h =
    let legal : IsLegalFrom no_tasks (Open job issued ∷ h.1.0) = subst (IsLegalFrom no_tasks) h.1.1 h.0 in (
      subst (λ (l : List Event). IsSound issued (table_of l)) (sym h.1.1) (sound_from issued (after no_tasks (Open job issued)) h.1.0 (opening job issued legal.0.1) legal.1),
      legal.0.1,
      legal.0.2,
    )

pub get_or_le-sum : (ss : List Standing) (k : ℕ) → (get_or ss k gone).held ≤ sum_by (λ s. s.held) ss
get_or_le-sum [] k = omega arith
get_or_le-sum (s ∷ ss) zero = let c = sum_by-cons (λ (s : Standing). s.held) s ss in omega arith
get_or_le-sum (s ∷ ss) (suc k) = let h = get_or_le-sum ss k in let c = sum_by-cons (λ (s : Standing). s.held) s ss in omega arith

sum-zero : (ss : List Standing) → ((k : ℕ) → (get_or ss k gone).held ≡ 0) → sum_by (λ s. s.held) ss ≡ 0
sum-zero [] zeros = refl
sum-zero (s ∷ ss) zeros = let h = sum-zero ss (λ k. zeros (suc k)) in let a = zeros 0 in let c = sum_by-cons (λ (s : Standing). s.held) s ss in omega arith

-- no task is alive exactly where no credit is held
pub complete_from-held : (issued : ℕ) (t : TaskTable) → IsSound issued t → held_in t ≡ 0 → IsComplete t
complete_from-held issued t sound none n live =
    let h = (sound.holding n).0 live in let le = get_or_le-sum t.standings n in absurd (omega arith)

pub held_from-complete : (issued : ℕ) (t : TaskTable) → IsSound issued t → IsComplete t → held_in t ≡ 0
held_from-complete issued t sound all = sum-zero t.standings (λ k. each k (is_alive (standing_at t k).stage) refl)
  where
    each : (k : ℕ) (b : Bool) → is_alive (standing_at t k).stage ≡ b → (standing_at t k).held ≡ 0
    each k true e = absurd (all k e)
    each k false e = (sound.holding k).1 e

-- there are no more tasks than credits
pub tasks_le-issued : (issued : ℕ) (t : TaskTable) → IsSound issued t → length t.standings ≤ issued
tasks_le-issued issued t sound = let c = sound.conserved in let h = each t.standings t.tasks sound.paired sound.worth in omega arith
  where
    each : (ss : List Standing) (ts : List TaskEnd) → length ts ≡ length ss → ((k : ℕ) → k < length ss → 1 ≤ (get_or ss k gone).held + (get_or ts k none).spent + (get_or ts k none).rest)
        → length ss ≤ sum_by (λ s. s.held) ss + sum_by (λ e. e.rest) ts + sum_by (λ e. e.spent) ts
    each [] ts same worth = omega arith
    each (s ∷ ss) [] same worth = absurd (omega arith)
    each (s ∷ ss) (e ∷ ts) same worth =
        let h = each ss ts (omega arith) (λ k lt. worth (suc k) (omega arith)) in
        let w = worth 0 (omega arith) in
        let a = sum_by-cons (λ (s : Standing). s.held) s ss in
        let b = sum_by-cons (λ (e : TaskEnd). e.rest) e ts in
        let c = sum_by-cons (λ (e : TaskEnd). e.spent) e ts in omega arith

-- where a task isn't parked, fewer are parked than there are
pub parked_lt : (issued : ℕ) (t : TaskTable) (n : ℕ) → IsSound issued t → is_fresh (standing_at t n).stage ≡ true → length t.queue < length t.standings
parked_lt issued t n sound fresh =
    let c = sound.counted in
    let h = fewer t.standings n (within t.standings n (alive_from-fresh (standing_at t n).stage fresh)) (fresh_out (standing_at t n).stage fresh) in omega arith
  where
    most : (ss : List Standing) → sum_by (λ s. parked s.stage) ss ≤ length ss
    most [] = omega arith
    most (s ∷ ss) = let h = most ss in let p = parked_le s.stage in let c = sum_by-cons (λ (s : Standing). parked s.stage) s ss in omega arith

    fewer : (ss : List Standing) (n : ℕ) → n < length ss → parked (get_or ss n gone).stage ≡ 0 → sum_by (λ s. parked s.stage) ss < length ss
    fewer [] n lt out = absurd (omega arith)
    fewer (s ∷ ss) zero lt out = let h = most ss in let c = sum_by-cons (λ (s : Standing). parked s.stage) s ss in omega arith
    fewer (s ∷ ss) (suc n) lt out = let h = fewer ss n (omega arith) out in let p = parked_le s.stage in let c = sum_by-cons (λ (s : Standing). parked s.stage) s ss in omega arith

-- the first of the queue is alive
pub first_alive : (issued : ℕ) (t : TaskTable) (n : ℕ) (others : List ℕ) → IsSound issued t → t.queue ≡ n ∷ others → is_alive (standing_at t n).stage ≡ true
first_alive issued t n others sound is =
    parked_alive (standing_at t n).stage (let a = ap (times n) is in let b = sound.queued n in let c = eqb_self n in let d = parked_le (standing_at t n).stage in omega arith)
