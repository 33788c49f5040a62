-- What a task was given is what it holds, or spent and returned, with what its children were given.
use Rattle.std.proofs.Common.{◌≡◌, ◌≢◌, ℕ, suc, ◌<◌, ◌≤◌, ◌+◌, ◌-◌, List, [], ◌∷◌, ◌++◌, drop, get_or, length, length-set, set, slice_get, refl, sym, ◌∙◌, arith, ap, Bool, true, false, true≢false, ◌==◌, Some}
use Rattle.std.specs.Prelude.{cond}
use Rattle.std.specs.List.{filter}
use Rattle.std.proofs.lemmas.List.Sums.{sum_by-append, sum_by-cons}
use Rattle.std.proofs.lemmas.Bool.Decides.{nat_tests}
use Rattle.credit_book.specs.declared.event.Stage.{Stage}
use Rattle.credit_book.specs.declared.event.Stage.TheVariants.{Fresh}
use Rattle.credit_book.specs.declared.event.Standing.{Standing}
use Rattle.credit_book.specs.declared.event.TaskEnd.{TaskEnd}
use Rattle.credit_book.specs.History.{is_alive}
use Rattle.credit_book.proofs.Sound.{at_set, at_end}
use Rattle.task_register.specs.declared.seats.TaskStart.{TaskStart}
use Rattle.task_register.specs.Rule.{children_in}
use Rattle.task_register.proofs.Steps.{children_longer, one_child, no_child}
use Rattle.job_answer.specs.Agreement.{Balances, ended_standing, shares}

off : false ≡ true → ⊥
off e = true≢false (sym e)

abbrev pub no_end : TaskEnd
no_end = record { number = 0; program = 0; arg = 0; given = 0; spent = 0; rest = 0; r0 = 0; ran = false }

-- ---- the shares of children

of_one : (b : TaskStart) (n : ℕ) (t : Bool) → (b.parent == n) ≡ t → shares (filter (λ (x : TaskStart). x.parent == n) (b ∷ [])) ≡ cond t b.share 0
of_one b n true t =
    let e : b.parent ≡ n = grind (arith, nat_tests) in
    ap shares (one_child [] b n (b.parent == n) refl e) ∙ sum_by-cons (λ (x : TaskStart). x.share) b [] ∙ omega arith
of_one b n false t =
    let ne : b.parent ≢ n = λ e. (let x : (b.parent == n) ≡ true = grind (arith, nat_tests) in true≢false (sym x ∙ t)) in
    ap shares (no_child [] b n (b.parent == n) refl ne)

pub shares_longer : (starts : List TaskStart) (b : TaskStart) (n : ℕ) → 0 < length starts →
    shares (children_in n (starts ++ b ∷ [])) ≡ shares (children_in n starts) + cond (b.parent == n) b.share 0
shares_longer starts b n lt =
    ap shares (children_longer starts b n lt)
    ∙ sum_by-append (λ (x : TaskStart). x.share) (children_in n starts) (filter (λ (x : TaskStart). x.parent == n) (b ∷ []))
    ∙ ap (λ k. shares (children_in n starts) + k) (of_one b n (b.parent == n) refl)

pub shares_more : (starts : List TaskStart) (b : TaskStart) (n : ℕ) → 0 < length starts → b.parent ≡ n →
    shares (children_in n (starts ++ b ∷ [])) ≡ shares (children_in n starts) + b.share
shares_more starts b n lt e =
    let t : (b.parent == n) ≡ true = grind (arith, nat_tests) in
    shares_longer starts b n lt ∙ ap (λ x. shares (children_in n starts) + cond x b.share 0) t

pub shares_same : (starts : List TaskStart) (b : TaskStart) (n : ℕ) → 0 < length starts → b.parent ≢ n →
    shares (children_in n (starts ++ b ∷ [])) ≡ shares (children_in n starts)
shares_same starts b n lt ne = by_test (b.parent == n) refl
  where
    by_test : (x : Bool) → (b.parent == n) ≡ x → shares (children_in n (starts ++ b ∷ [])) ≡ shares (children_in n starts)
    by_test true t = let e : b.parent ≡ n = grind (arith, nat_tests) in absurd (ne e)
    by_test false t = shares_longer starts b n lt ∙ ap (λ x. shares (children_in n starts) + cond x b.share 0) t ∙ omega arith

-- nobody is a child of a task that isn't there
nobodys : (n : ℕ) (xs : List TaskStart) → ((k : ℕ) (x : TaskStart) → slice_get xs k ≡ Some x → x.parent < n) → shares (filter (λ (x : TaskStart). x.parent == n) xs) ≡ 0
nobodys n [] below = refl
nobodys n (x ∷ xs) below = by_test (nobodys n xs (λ k y there. below (suc k) y there)) (x.parent == n) refl
  where
    by_test : shares (filter (λ (y : TaskStart). y.parent == n) xs) ≡ 0 → (t : Bool) → (x.parent == n) ≡ t → shares (filter (λ (y : TaskStart). y.parent == n) (x ∷ xs)) ≡ 0
    by_test rest true t = let e : x.parent ≡ n = grind (arith, nat_tests) in let lt = below 0 x refl in absurd (omega (arith, e, lt))
    by_test rest false t =
        let skips : filter (λ (y : TaskStart). y.parent == n) (x ∷ xs) ≡ filter (λ (y : TaskStart). y.parent == n) xs = grind (arith, t) in
        ap shares skips ∙ rest

pub shares_none : (starts : List TaskStart) → ((k : ℕ) (x : TaskStart) → slice_get (drop 1 starts) k ≡ Some x → x.parent < length starts) →
    shares (children_in (length starts) starts) ≡ 0
shares_none starts below = nobodys (length starts) (drop 1 starts) below

-- ---- one event more

module _ (ss : List Standing) (ts : List TaskEnd) (paired : length ts ≡ length ss) where
  -- a task that is alive moves to another stage
  pub balance_moved : (m n given children : ℕ) (stage : Stage) → m < length ss → is_alive (get_or ss m ended_standing).stage ≡ true → is_alive stage ≡ true →
      Balances given children (get_or ss n ended_standing) (get_or ts n no_end) →
      Balances given children (get_or (set ss m (record { held = (get_or ss m ended_standing).held; stage = stage })) n ended_standing) (get_or ts n no_end)
  balance_moved m n given children stage lt was is old =
      at_set (λ (s : Standing). Balances given children s (get_or ts n no_end)) ss m n (record { held = (get_or ss m ended_standing).held; stage = stage }) ended_standing lt
      (λ e. record {
        alive = λ _. ap (λ k. (get_or ss k ended_standing).held + children) (sym e) ∙ old.alive (ap (λ k. is_alive (get_or ss k ended_standing).stage) e ∙ was);
        over = λ o. absurd (true≢false (sym is ∙ o));
      })
      (λ ne. old)

  -- a task is over
  pub balance_ended : (m n given children used : ℕ) (new : TaskEnd) → m < length ss → is_alive (get_or ss m ended_standing).stage ≡ true → used ≤ (get_or ss m ended_standing).held →
      new.spent ≡ used → new.rest ≡ (get_or ss m ended_standing).held - used → Balances given children (get_or ss n ended_standing) (get_or ts n no_end) →
      Balances given children (get_or (set ss m ended_standing) n ended_standing) (get_or (set ts m new) n no_end)
  balance_ended m n given children used new lt was le spent rest old =
      let lt' : m < length ts = omega (arith, lt, paired) in
      at_set (λ (s : Standing). Balances given children s (get_or (set ts m new) n no_end)) ss m n ended_standing ended_standing lt
      (λ e. at_set (λ (x : TaskEnd). Balances given children ended_standing x) ts m n new no_end lt'
      (λ _. record {
        alive = λ a. absurd (off a);
        over = λ _.
            let held = ap (λ k. (get_or ss k ended_standing).held + children) (sym e) ∙ old.alive (ap (λ k. is_alive (get_or ss k ended_standing).stage) e ∙ was) in
            omega (arith, held, le, spent, rest);
      })
      (λ ne. absurd (ne e)))
      (λ ne. at_set (λ (x : TaskEnd). Balances given children (get_or ss n ended_standing) x) ts m n new no_end lt' (λ e. absurd (ne e)) (λ _. old))

  -- a task has a child more
  module _ (starts : List TaskStart) (long : length ss ≡ length starts) (b : TaskStart) (parent : ℕ) (task : TaskEnd) (inside : parent < length ss)
      (by : b.parent ≡ parent) (alive : is_alive (get_or ss parent ended_standing).stage ≡ true) (less : b.share < (get_or ss parent ended_standing).held) where
    abbrev left : Standing
    left = record { held = (get_or ss parent ended_standing).held - b.share; stage = (get_or ss parent ended_standing).stage }

    abbrev new : Standing
    new = record { held = b.share; stage = Fresh }

    pub balance_older : (n given : ℕ) → n < length starts → Balances given (shares (children_in n starts)) (get_or ss n ended_standing) (get_or ts n no_end) →
        Balances given (shares (children_in n (starts ++ b ∷ []))) (get_or (set ss parent left ++ new ∷ []) n ended_standing) (get_or (ts ++ task ∷ []) n no_end)
    balance_older n given lt old =
        let some : 0 < length starts = omega (arith, inside, long) in
        at_end (λ (s : Standing). Balances given (shares (children_in n (starts ++ b ∷ []))) s (get_or (ts ++ task ∷ []) n no_end)) (set ss parent left) n new ended_standing
        (let l = length-set ss parent left in omega (arith, lt, long, l))
        (λ _. at_end (λ (x : TaskEnd). Balances given (shares (children_in n (starts ++ b ∷ []))) (get_or (set ss parent left) n ended_standing) x) ts n task no_end (omega (arith, lt, long, paired))
        (λ _. at_set (λ (s : Standing). Balances given (shares (children_in n (starts ++ b ∷ []))) s (get_or ts n no_end)) ss parent n left ended_standing inside
        (λ e.
        let more = shares_more starts b n some (by ∙ sym e) in
        record {
          alive = λ _.
              let held = ap (λ k. (get_or ss k ended_standing).held + shares (children_in n starts)) (sym e) ∙ old.alive (ap (λ k. is_alive (get_or ss k ended_standing).stage) e ∙ alive) in
              omega (arith, held, more, less);
          over = λ o. absurd (true≢false (sym alive ∙ o));
        })
        (λ ne.
        let same = shares_same starts b n some (λ e. ne (sym e ∙ by)) in
        record {
          alive = λ a. let held = old.alive a in omega (arith, held, same);
          over = λ o. let spent = old.over o in omega (arith, spent, same);
        }))
        (λ e. absurd (omega (arith, e, lt, long, paired))))
        (λ e. absurd (let l = length-set ss parent left in omega (arith, e, lt, long, l)))

    pub balance_newest : (n : ℕ) → n ≡ length starts → ((k : ℕ) (x : TaskStart) → slice_get (drop 1 starts) k ≡ Some x → x.parent < length starts) → (e : TaskEnd) →
        Balances b.share (shares (children_in n (starts ++ b ∷ []))) (get_or (set ss parent left ++ new ∷ []) n ended_standing) e
    balance_newest n at below e =
        let some : 0 < length starts = omega (arith, inside, long) in
        at_end (λ (s : Standing). Balances b.share (shares (children_in n (starts ++ b ∷ []))) s e) (set ss parent left) n new ended_standing
        (let l = length-set ss parent left in omega (arith, at, long, l))
        (λ lt. absurd (let l = length-set ss parent left in omega (arith, lt, at, long, l)))
        (λ _.
        let same = shares_same starts b n some (λ x. omega (arith, x, by, at, inside, long)) in
        let nobody : shares (children_in n starts) ≡ 0 = ap (λ k. shares (children_in k starts)) at ∙ shares_none starts below in
        record { alive = λ _. omega (arith, same, nobody); over = λ o. absurd (true≢false o) })
