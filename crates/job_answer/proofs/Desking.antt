-- What lies under a job's lock agrees after each event.
use Rattle.std.proofs.Common.{◌≡◌, ◌≢◌, ◌⊎◌, inl, inr, ℕ, zero, suc, ◌<◌, ◌≤◌, ◌+◌, ◌-◌, List, [], ◌∷◌, ◌++◌, get_or, length, length-append, length-set, set, drop, take, replicate, slice_get, refl, sym, ◌∙◌, arith, ap, subst, Bool, true, false, ◌==◌, Option, Some}
use Rattle.std.specs.Prelude.{cond}
use Rattle.std.specs.List.{count_by}
use Rattle.std.proofs.lemmas.List.Sums.{sum_by-append, sum_by-cons}
use Rattle.std.proofs.lemmas.Option.{get_or_from_slice_get, slice_get_within}
use Rattle.std.proofs.lemmas.Bool.Decides.{nat_tests}
use Rattle.machine_model.specs.Memory.{written}
use Rattle.machine_model.proofs.Places.{by_number}
use Rattle.credit_book.specs.declared.event.Event.{Event}
use Rattle.credit_book.specs.declared.event.Event.TheVariants.{Spawn, Park, Claim, End}
use Rattle.credit_book.specs.declared.event.Stage.{Stage}
use Rattle.credit_book.specs.declared.event.Stage.TheVariants.{Fresh, Parked, Claimed}
use Rattle.credit_book.specs.declared.event.Standing.{Standing}
use Rattle.credit_book.specs.declared.event.TaskEnd.{TaskEnd}
use Rattle.credit_book.specs.History.{TaskTable, is_alive, after, table_of, May, standing_at, task_at, new_task, IsComplete}
use Rattle.credit_book.specs.Buffers.{left_by, buffer_of}
use Rattle.credit_book.proofs.Sound.{at_set, alive_from-work, alive_from-fresh, within}
use Rattle.credit_book.proofs.Histories.{table_of-push}
use Rattle.credit_book.proofs.BufferLemmas.{buffer_from-push}
use Rattle.task_register.specs.declared.seats.TaskStart.{TaskStart}
use Rattle.task_register.specs.declared.seats.TaskResult.{TaskResult}
use Rattle.task_register.specs.declared.seats.RegisterState.{RegisterState}
use Rattle.task_register.specs.Rule.{children_in, with_start, with_end}
use Rattle.task_register.proofs.Steps.{born_longer}
use Rattle.job_answer.specs.Gathered.{numbers_to, laid_from}
use Rattle.job_answer.specs.Agreement.{ended_standing, alive_at, ReportsStart, EndsSo, Balances, shares, AgreesWith, RegisterAgrees}
use Rattle.job_answer.proofs.Balancing.{no_end, balance_moved, balance_ended, balance_older, balance_newest}
use Rattle.job_answer.proofs.Keyed.{one_if, zero_if, times_below, times_above}
use mathlib.Core.Logic.{dite}
use native.Mathlib.Decide.{dec_lt}

abbrev as_one : Bool → ℕ
as_one b = cond b 1 0

nothing : {X : Type 0} (i : ℕ) (x : X) → slice_get [] i ≡ Some x → ⊥
nothing i x e = cc

one_some : {X : Type 0} (o : Option X) (a b : X) → o ≡ Some a → o ≡ Some b → a ≡ b
one_some o a b x y = cc

some_one : {X : Type 0} (a b : X) → Some a ≡ Some b → a ≡ b
some_one a b e = cc

-- ---- lists

longer : {X : Type 0} (xs : List X) (x y : X) (n : ℕ) → slice_get xs n ≡ Some y → slice_get (xs ++ x ∷ []) n ≡ Some y
longer [] x y n e = absurd (nothing n y e)
longer (z ∷ zs) x y zero e = e
longer (z ∷ zs) x y (suc n) e = longer zs x y n e

last_is : {X : Type 0} (xs : List X) (x : X) → slice_get (xs ++ x ∷ []) (length xs) ≡ Some x
last_is [] x = refl
last_is (z ∷ zs) x = last_is zs x

end_cases : {X : Type 0} (l : List X) (a c : X) (k : ℕ) → slice_get (l ++ a ∷ []) k ≡ Some c → (slice_get l k ≡ Some c)
    ⊎ ((k ≡ length l) × (a ≡ c))
end_cases [] a c zero e = inr (refl, some_one a c e)
end_cases [] a c (suc k) e = absurd (nothing k c e)
end_cases (z ∷ zs) a c zero e = inl e
end_cases (z ∷ zs) a c (suc k) e =
    elim (end_cases zs a c k e) [
      | inl was ↦ inl was
      | inr is ↦ inr (ap suc is.0, is.1)
    ]

set_here : {X : Type 0} (xs : List X) (i : ℕ) (x : X) → i < length xs → slice_get (set xs i x) i ≡ Some x
set_here [] i x lt = absurd (omega (arith, lt))
set_here (z ∷ zs) zero x lt = refl
set_here (z ∷ zs) (suc i) x lt = set_here zs i x (omega (arith, lt))

set_else : {X : Type 0} (xs : List X) (i k : ℕ) (x y : X) → k ≢ i → slice_get xs k ≡ Some y →
    slice_get (set xs i x) k ≡ Some y
set_else [] i k x y differs is = is
set_else (z ∷ zs) zero zero x y differs is = absurd (differs refl)
set_else (z ∷ zs) zero (suc k) x y differs is = is
set_else (z ∷ zs) (suc i) zero x y differs is = is
set_else (z ∷ zs) (suc i) (suc k) x y differs is = set_else zs i k x y (λ e. differs (ap suc e)) is

-- ---- who is alive

keep_set : (ss : List Standing) (p : ℕ) (s : Standing) → p < length ss →
    is_alive s.stage ≡ is_alive (get_or ss p ended_standing).stage → (n : ℕ) →
    alive_at (set ss p s) n ≡ alive_at ss n
keep_set ss p s lt same n =
    at_set (λ (x : Standing). as_one (is_alive x.stage) ≡ alive_at ss n) ss p n s ended_standing lt
    (λ e. ap as_one (same ∙ ap (λ k. is_alive (get_or ss k ended_standing).stage) (sym e))) (λ ne. refl)

end_set : (ss : List Standing) (m : ℕ) → m < length ss → is_alive (get_or ss m ended_standing).stage ≡ true → (n : ℕ) →
    as_one (m == n) + alive_at (set ss m ended_standing) n ≡ alive_at ss n
end_set ss m lt alive n =
    at_set (λ (x : Standing). as_one (m == n) + as_one (is_alive x.stage)
    ≡ alive_at ss n) ss m n ended_standing ended_standing lt
    (λ e. let one = one_if m n (sym e) in let here : alive_at ss n ≡ 1 = ap (λ k. alive_at ss k) e ∙ ap as_one alive in
    omega (arith, one, here))
    (λ ne. let other = zero_if m n (λ e. ne (sym e)) in omega (arith, other))

suc_same : (a b : ℕ) → as_one (suc a == suc b) ≡ as_one (a == b)
suc_same a b = by_test (a == b) refl
  where
    by_test : (t : Bool) → (a == b) ≡ t → as_one (suc a == suc b) ≡ as_one (a == b)
    by_test true t = let e : a ≡ b = grind (arith, nat_tests) in one_if (suc a) (suc b) (ap suc e) ∙ sym (one_if a b e)
    by_test false t =
        let ne : a ≢ b =
        λ e. let one = one_if a b e in let none : as_one (a == b) ≡ 0 = ap as_one t in omega (arith, one, none) in
        zero_if (suc a) (suc b) (λ e. ne (omega (arith, e))) ∙ sym (zero_if a b ne)

push_alive : (ss : List Standing) (s : Standing) → is_alive s.stage ≡ true → (n : ℕ) →
    alive_at (ss ++ s ∷ []) n ≡ alive_at ss n + as_one (length ss == n)
push_alive [] s alive zero = ap as_one alive
push_alive [] s alive (suc n) = let other = zero_if 0 (suc n) (λ e. omega (arith, e)) in omega (arith, other)
push_alive (x ∷ xs) s alive zero = let other = zero_if (suc (length xs)) 0 (λ e. omega (arith, e)) in
    omega (arith, other)
push_alive (x ∷ xs) s alive (suc n) =
    push_alive xs s alive n ∙ ap (λ k. alive_at xs n + k) (sym (suc_same (length xs) n))

-- ---- a spawn

tells_new : (n program arg share : ℕ) (b : TaskStart) → b.program ≡ program → b.arg ≡ arg → b.share ≡ share →
    ReportsStart n b (new_task n program arg share)
tells_new n program arg share b p a s = record { number = refl; program = sym p; arg = sym a; given = sym s }

module _ (known : RegisterState) (t : TaskTable) (agrees : AgreesWith known t) where
  counts_more : (n : ℕ) (b : TaskStart) → count_by (λ (k : ℕ). k == n) (numbers_to (length (known.starts ++ b ∷ [])))
      ≡ count_by (λ (k : ℕ). k == n) (numbers_to (length known.starts)) + as_one (length known.starts == n)
  counts_more n b =
      let long : length (known.starts ++ b ∷ []) ≡ suc (length known.starts) =
      length-append known.starts (b ∷ []) ∙ omega arith in
      ap (λ m. count_by (λ (k : ℕ). k == n) (numbers_to m)) long
      ∙ sum_by-append (λ k. as_one (k == n)) (numbers_to (length known.starts)) (length known.starts ∷ [])
      ∙ omega (arith, sum_by-cons (λ k. as_one (k == n)) (length known.starts) [])

  pub agrees_spawn : (parent child program share arg base len : ℕ) (b : TaskStart) →
      May t (Spawn parent child program share arg base len) →
      b.parent ≡ parent → b.program ≡ program → b.share ≡ share → b.arg ≡ arg →
      AgreesWith (with_start known b) (after t (Spawn parent child program share arg base len))
  agrees_spawn parent child program share arg base len b may by p s a =
      let inside : parent < length t.standings =
      within t.standings parent (alive_from-work (standing_at t parent).stage may.0) in
      let number : child ≡ length known.starts = may.1 ∙ agrees.paired in
      let left : Standing =
      record { held = (standing_at t parent).held - share; stage = (standing_at t parent).stage } in
      let new : Standing = record { held = share; stage = Fresh } in
      let births_long : length (known.starts ++ b ∷ []) ≡ suc (length known.starts) =
      length-append known.starts (b ∷ []) ∙ omega arith in
      record {
        long = length-append t.tasks (new_task child program arg share ∷ [])
            ∙ (let l = agrees.long in omega (arith, l, births_long));
        paired = length-append (set t.standings parent left) (new ∷ [])
            ∙ (let l = agrees.paired in let m = length-set t.standings parent left in omega (arith, l, m, births_long));
        told = λ n c there. elim (end_cases known.starts b c n there) [
          | inl was ↦ let old =
              agrees.told n c was in (old.0, longer t.tasks (new_task child program arg share) old.0 n old.1, old.2)
          | inr is ↦
              let at : child ≡ n = number ∙ sym is.0 in
              let place : length t.tasks ≡ n = agrees.long ∙ sym is.0 in
              let here : slice_get (t.tasks ++ new_task child program arg share ∷ []) n ≡ Some
              (new_task n program arg share) =
              ap (slice_get (t.tasks ++ new_task child program arg share ∷ [])) (sym place) ∙ last_is t.tasks
              (new_task child program arg share)
              ∙ ap (λ k. Some (new_task k program arg share)) at in (
                new_task n program arg share,
                here,
                subst (λ x. ReportsStart n x (new_task n program arg share)) is.1
                    (tells_new n program arg share b p a s),
              )
        ];
        ended = λ k o there. let e = agrees.ended k o there in
            record {
              end = e.end;
              there = longer t.tasks (new_task child program arg share) e.end o.own.number e.there;
              spent = e.spent;
              r0 = e.r0;
              ran = e.ran;
            };
        counted = λ n.
            let old = agrees.counted n in
            let more = counts_more n b in
            let pushed = push_alive (set t.standings parent left) new refl n in
            let kept = keep_set t.standings parent left inside refl n in
            let long_set = length-set t.standings parent left in
            let paired = agrees.paired in
            let same : as_one (length (set t.standings parent left) == n) ≡ as_one (length known.starts == n) =
            ap (λ m. as_one (m == n)) (long_set ∙ paired) in
            omega (arith, old, more, pushed, kept, same);
        balanced = λ n c there.
            let paired = agrees.paired in
            let long = agrees.long in
            let alive = alive_from-work (standing_at t parent).stage may.0 in
            let less : b.share < (standing_at t parent).held = (let lt = may.3 in omega (arith, lt, s)) in
            let task : TaskEnd = new_task child program arg share in
            let both : length t.tasks ≡ length t.standings = omega (arith, long, paired) in
            subst (λ k. Balances c.share (shares (children_in n (known.starts ++ b ∷ [])))
            (get_or (set t.standings parent
            (record { held = (standing_at t parent).held - k; stage = (standing_at t parent).stage })
            ++ record { held = k; stage = Fresh } ∷ []) n ended_standing) (get_or (t.tasks ++ task ∷ []) n no_end)) s
            (elim (end_cases known.starts b c n there) [
              | inl was ↦ balance_older t.standings t.tasks both known.starts paired b parent task inside by alive less
                  n c.share
                  (slice_get_within known.starts n c was) (agrees.balanced n c was)
              | inr is ↦ subst
                  (λ x. Balances x.share (shares (children_in n (known.starts ++ b ∷ [])))
                  (get_or (set t.standings parent
                  (record { held = (standing_at t parent).held - b.share; stage = (standing_at t parent).stage })
                  ++ record { held = b.share; stage = Fresh } ∷ []) n ended_standing)
                  (get_or (t.tasks ++ task ∷ []) n no_end)) is.1
                  (balance_newest t.standings t.tasks both known.starts paired b parent task inside by alive less n is.0
                  agrees.older (get_or (t.tasks ++ task ∷ []) n no_end))
            ]);
        older = λ k c there.
            let some : 0 < length known.starts = (let paired = agrees.paired in omega (arith, inside, paired)) in
            elim (end_cases (drop 1 known.starts) b c k (ap (λ l. slice_get l k) (sym (born_longer known.starts b some))
            ∙ there)) [
              | inl was ↦ let lt = agrees.older k c was in omega (arith, lt, births_long)
              | inr is ↦ let same : b.parent ≡ c.parent =
                  ap (λ (x : TaskStart). x.parent) is.1 in let paired =
                  agrees.paired in omega (arith, same, by, inside, paired, births_long)
            ];
      }

  -- ---- parking and claiming

  moved : (n : ℕ) (stage : Stage) → is_alive (standing_at t n).stage ≡ true → is_alive stage ≡ true → (q : List ℕ) →
      AgreesWith known
      (record {
        standings = set t.standings n (record { held = (standing_at t n).held; stage = stage });
        tasks = t.tasks;
        queue = q;
      })
  moved n stage was is q =
      let inside : n < length t.standings = within t.standings n was in
      let s : Standing = record { held = (standing_at t n).held; stage = stage } in
      record {
        long = agrees.long;
        paired = length-set t.standings n s ∙ agrees.paired;
        told = agrees.told;
        ended = agrees.ended;
        counted = λ m. let old = agrees.counted m in let kept = keep_set t.standings n s inside (is ∙ sym was) m in
            omega (arith, old, kept);
        balanced = λ m b there. let long = agrees.long in let paired = agrees.paired in
            balance_moved t.standings t.tasks (omega (arith, long, paired)) n m b.share
            (shares (children_in m known.starts)) stage inside was is (agrees.balanced m b there);
        older = agrees.older;
      }

  pub agrees_park : (n : ℕ) → May t (Park n) → AgreesWith known (after t (Park n))
  agrees_park n may = moved n Parked (alive_from-fresh (standing_at t n).stage may) refl (t.queue ++ n ∷ [])

  pub agrees_claim : (n : ℕ) (q : List ℕ) → is_alive (standing_at t n).stage ≡ true →
      AgreesWith known
      (record {
        standings = set t.standings n (record { held = (standing_at t n).held; stage = Claimed });
        tasks = t.tasks;
        queue = q;
      })
  agrees_claim n q alive = moved n Claimed alive refl q

  -- ---- an end

  pub agrees_end : (o : TaskResult) → May t (End o.own.number o.used o.r0 o.ran o.base o.bytes) →
      AgreesWith (with_end known o) (after t (End o.own.number o.used o.r0 o.ran o.base o.bytes))
  agrees_end o may =
      let n : ℕ = o.own.number in
      let alive = alive_from-work (standing_at t n).stage may.0 in
      let inside : n < length t.standings = within t.standings n alive in
      let long = agrees.long in
      let paired = agrees.paired in
      let new : TaskEnd =
      record (task_at t n) { spent = o.used; rest = (standing_at t n).held - o.used; r0 = o.r0; ran = o.ran } in
      let counted_more : (m : ℕ) → count_by (λ (x : TaskResult). x.own.number == m) (known.over ++ o ∷ [])
      ≡ count_by (λ (x : TaskResult). x.own.number == m) known.over + as_one (n == m) =
      λ m. sum_by-append (λ (x : TaskResult). as_one (x.own.number == m)) known.over (o ∷ [])
      ∙ omega (arith, sum_by-cons (λ (x : TaskResult). as_one (x.own.number == m)) o []) in
      record {
        long = length-set t.tasks n new ∙ long;
        paired = length-set t.standings n ended_standing ∙ paired;
        told = λ m b there. let old = agrees.told m b there in
            by_number (λ k. k ≡ m → (e : TaskEnd) × (slice_get (set t.tasks n new) m ≡ Some e) × ReportsStart m b e) n m
            (λ e.
            let same : task_at t n ≡ old.0 = ap (λ k. task_at t k) e ∙ get_or_from_slice_get t.tasks m old.0 _ old.1 in
            let at : slice_get (set t.tasks n new) m ≡ Some new =
            ap (slice_get (set t.tasks n new)) (sym e) ∙ set_here t.tasks n new
            (omega (arith, inside, long, paired)) in
            let tells = old.2 in (
              new,
              at,
              record {
                number = ap (λ (x : TaskEnd). x.number) same ∙ tells.number;
                program = ap (λ (x : TaskEnd). x.program) same ∙ tells.program;
                arg = ap (λ (x : TaskEnd). x.arg) same ∙ tells.arg;
                given = ap (λ (x : TaskEnd). x.given) same ∙ tells.given;
              },
            ))
            (λ ne e. (old.0, set_else t.tasks n m new old.0 ne old.1, old.2))
            refl;
        ended = λ k p there. elim (end_cases known.over o p k there) [
          | inl was ↦
              let e = agrees.ended k p was in
              let apart : p.own.number ≢ n = λ same. twice k p was same alive in
              record {
                end = e.end;
                there = set_else t.tasks n p.own.number new e.end apart e.there;
                spent = e.spent;
                r0 = e.r0;
                ran = e.ran;
              }
          | inr is ↦ subst (λ x. EndsSo (set t.tasks n new) x) is.1
              (record {
                end = new;
                there = set_here t.tasks n new (omega (arith, inside, long, paired));
                spent = refl;
                r0 = refl;
                ran = refl;
              })
        ];
        counted = λ m.
            let old = agrees.counted m in
            let more = counted_more m in
            let less = end_set t.standings n inside alive m in
            omega (arith, old, more, less);
        balanced = λ m b there.
            balance_ended t.standings t.tasks (omega (arith, long, paired)) n m b.share
            (shares (children_in m known.starts)) o.used new inside alive may.1 refl refl
            (agrees.balanced m b there);
        older = agrees.older;
      }
    where
      some_count : (os : List TaskResult) (k m : ℕ) (p : TaskResult) → slice_get os k ≡ Some p → p.own.number ≡ m →
          1 ≤ count_by (λ (x : TaskResult). x.own.number == m) os
      some_count [] k m p there e = absurd (nothing k p there)
      some_count (x ∷ xs) zero m p there e =
          let same : x ≡ p = some_one x p there in
          let one = one_if x.own.number m (ap (λ (y : TaskResult). y.own.number) same ∙ e) in
          omega (arith, sum_by-cons (λ (y : TaskResult). as_one (y.own.number == m)) x xs, one)
      some_count (x ∷ xs) (suc k) m p there e =
          let ih = some_count xs k m p there e in
          omega (arith, sum_by-cons (λ (y : TaskResult). as_one (y.own.number == m)) x xs, ih)

      at_most_one : (n m : ℕ) → count_by (λ (k : ℕ). k == n) (numbers_to m) ≤ 1
      at_most_one n m = by_bound (dite (dec_lt n m) (λ lt. inl lt) (λ ge. inr ge))
        where
          by_bound : (n < m) ⊎ ((n < m) → ⊥) → count_by (λ (k : ℕ). k == n) (numbers_to m) ≤ 1
          by_bound (inl lt) = let one = times_below n m lt in omega (arith, one)
          by_bound (inr ge) = let none = times_above n m (omega (arith, ge)) in omega (arith, none)

      twice : (k : ℕ) (p : TaskResult) → slice_get known.over k ≡ Some p → p.own.number ≡ o.own.number →
          is_alive (standing_at t o.own.number).stage ≡ true → ⊥
      twice k p was same alive =
          let some = some_count known.over k o.own.number p was same in
          let counted = agrees.counted o.own.number in
          let one : alive_at t.standings o.own.number ≡ 1 = ap as_one alive in
          let most = at_most_one o.own.number (length known.starts) in
          omega (arith, some, counted, one, most)

  -- ---- once no task is alive

  pub over_once : IsComplete t → (n : ℕ) →
      count_by (λ (o : TaskResult). o.own.number == n) known.over ≡ count_by (λ (k : ℕ). k == n)
      (numbers_to (length known.starts))
  over_once complete n = by_stage (is_alive (standing_at t n).stage) refl
    where
      by_stage : (b : Bool) → is_alive (standing_at t n).stage ≡ b →
          count_by (λ (o : TaskResult). o.own.number == n) known.over ≡ count_by (λ (k : ℕ). k == n)
          (numbers_to (length known.starts))
      by_stage true e = absurd (complete n e)
      by_stage false e =
          let counted = agrees.counted n in
          let none : alive_at t.standings n ≡ 0 = ap as_one e in
          omega (arith, counted, none)

-- ---- the buffer

laid_push : (memory : List ℕ) (os : List TaskResult) (o : TaskResult) →
    laid_from memory (os ++ o ∷ []) ≡ take (length (laid_from memory os)) (written (laid_from memory os) o.base o.bytes)
laid_push memory [] o = refl
laid_push memory (x ∷ xs) o = laid_push (take (length memory) (written memory x.base x.bytes)) xs o

-- ---- with the history

module _ (known : RegisterState) (history : List Event) (desk : RegisterAgrees known history) where
  quiet : (e : Event) (known' : RegisterState) → known'.over ≡ known.over →
      ((buffer : List ℕ) → left_by buffer e ≡ buffer) → AgreesWith known' (after (table_of history) e) →
      RegisterAgrees known' (history ++ e ∷ [])
  quiet e known' same still agrees = record {
    table = subst (AgreesWith known') (sym (table_of-push history e)) agrees;
    left = λ size. buffer_from-push (replicate size 0) history e ∙ still (buffer_of size history) ∙ desk.left size
        ∙ ap (laid_from (replicate size 0)) (sym same);
  }

  pub desk_spawn : (parent child program share arg base len : ℕ) (b : TaskStart) →
      May (table_of history) (Spawn parent child program share arg base len) →
      b.parent ≡ parent → b.program ≡ program → b.share ≡ share → b.arg ≡ arg →
      RegisterAgrees (with_start known b) (history ++ Spawn parent child program share arg base len ∷ [])
  desk_spawn parent child program share arg base len b may by p s a =
      quiet (Spawn parent child program share arg base len) (with_start known b) refl (λ buffer. refl)
      (agrees_spawn known (table_of history) desk.table parent child program share arg base len b may by p s a)

  pub desk_park : (n : ℕ) → May (table_of history) (Park n) → RegisterAgrees known (history ++ Park n ∷ [])
  desk_park n may = quiet (Park n) known refl (λ buffer. refl) (agrees_park known (table_of history) desk.table n may)

  pub desk_claim : (n : ℕ) → is_alive (standing_at (table_of history) n).stage ≡ true →
      RegisterAgrees known (history ++ Claim n ∷ [])
  desk_claim n alive =
      quiet (Claim n) known refl (λ buffer. refl) (agrees_claim known (table_of history) desk.table n _ alive)

  pub desk_end : (o : TaskResult) → May (table_of history) (End o.own.number o.used o.r0 o.ran o.base o.bytes) →
      RegisterAgrees (with_end known o) (history ++ End o.own.number o.used o.r0 o.ran o.base o.bytes ∷ [])
  desk_end o may =
      let e : Event = End o.own.number o.used o.r0 o.ran o.base o.bytes in
      record {
        table = subst (AgreesWith (with_end known o)) (sym (table_of-push history e))
            (agrees_end known (table_of history) desk.table o may);
        left = λ size. buffer_from-push (replicate size 0) history e
            ∙ ap (λ (m : List ℕ). take (length m) (written m o.base o.bytes)) (desk.left size)
            ∙ sym (laid_push (replicate size 0) known.over o);
      }

  pub desk_once : IsComplete (table_of history) → (n : ℕ) → count_by (λ (o : TaskResult). o.own.number == n) known.over
      ≡ count_by (λ (k : ℕ). k == n) (numbers_to (length known.starts))
  desk_once complete = over_once known (table_of history) desk.table complete
