-- Tasks that agree from parent to child, taken from the last one back, each folded into its parent.
use Rattle.std.proofs.Common.{◌≡◌, ◌≢◌, ℕ, zero, suc, ◌<◌, ◌≤◌, ◌+◌, List, [], ◌∷◌, ◌++◌, length, map, take, drop, slice_get, refl, sym, ◌∙◌, arith, ap, subst, Bool, true, false, ◌==◌, Option, Some}
use Rattle.std.specs.Prelude.{cond}
use Rattle.std.specs.List.Sorted.{IsPermutation}
use Rattle.std.proofs.lemmas.Option.{slice_get_within, get_or_from_slice_get}
use Rattle.std.proofs.lemmas.List.{append_assoc, append-nil, take_all, drop_all, length-take-le}
use Rattle.std.proofs.Math.Seq.{take-suc, drop-cons, take-length}
use Rattle.std.proofs.lemmas.List.Sums.{sum_by-append, sum_by-cons}
use Rattle.std.proofs.lemmas.List.Sorted.{IsPermutation-refl, IsPermutation-trans, IsPermutation-append_comm, IsPermutation-append_right}
use Rattle.std.proofs.lemmas.Bool.Decides.{nat_tests}
use Rattle.machine_model.specs.Machine.{Program, Birth}
use Rattle.machine_model.specs.JobState.{Task}
use Rattle.machine_model.proofs.Places.{by_number}
use Rattle.task_trees.specs.Solo.{SpawnRequest}
use Rattle.task_trees.specs.Eval.{Finished, Eval, ChildrenCome, SoloThenChildren, child_at, root}
use Rattle.task_trees.specs.Answer.{RootComes}
use Rattle.task_trees.specs.Families.{children_of}
use Rattle.task_trees.proofs.EvalBySolo.{eval_of_solo}
use Rattle.job_answer.specs.SpawnTree.{TaskRun, task_at_start, finished_run, if_taken, taken, IsChildOf, IsSpawnTree, NoneRefused}

-- ---- counting

abbrev as_one : Bool → ℕ
as_one b = cond b 1 0

counted : (number p : ℕ) (ps : List ℕ) → children_of number (ps ++ p ∷ []) ≡ children_of number ps + as_one (p == number)
counted number p ps = sum_by-append (λ q. cond (q == number) 1 0) ps (p ∷ []) ∙ omega (arith, sum_by-cons (λ q. cond (q == number) 1 0) p [])

if_equal : (p number : ℕ) (b : Bool) → (p == number) ≡ b → p ≡ number → as_one b ≡ 1
if_equal p number true t e = refl
if_equal p number false t e = absurd (grind (arith, nat_tests))

if_not : (p number : ℕ) (b : Bool) → (p == number) ≡ b → (p ≡ number → ⊥) → as_one b ≡ 0
if_not p number true t ne = let e : p ≡ number = grind (arith, nat_tests) in absurd (ne e)
if_not p number false t ne = refl

one_more : (number : ℕ) (ps : List ℕ) → children_of number (ps ++ number ∷ []) ≡ suc (children_of number ps)
one_more number ps = let one = if_equal number number (number == number) refl refl in omega (arith, counted number number ps, one)

no_more : (number p : ℕ) (ps : List ℕ) → (p ≡ number → ⊥) → children_of number (ps ++ p ∷ []) ≡ children_of number ps
no_more number p ps ne = let none_more = if_not p number (p == number) refl ne in omega (arith, counted number p ps, none_more)

no_children : (number : ℕ) (ps : List ℕ) → ((n p : ℕ) → slice_get ps n ≡ Some p → p ≡ number → ⊥) → children_of number ps ≡ 0
no_children number [] ne = refl
no_children number (p ∷ ps) ne =
    let first = if_not p number (p == number) refl (ne 0 p refl) in
    let later = no_children number ps (λ n q there. ne (suc n) q there) in
    omega (arith, sum_by-cons (λ q. cond (q == number) 1 0) p ps, first, later)

-- ---- lists

take_next : {X : Type 0} (xs : List X) (k : ℕ) (x : X) → slice_get xs k ≡ Some x → take (suc k) xs ≡ take k xs ++ x ∷ []
take_next xs k x there =
    take-suc xs k x (slice_get_within xs k x there) ∙ ap (λ y. take k xs ++ y ∷ []) (get_or_from_slice_get xs k x x there)

drop_here : {X : Type 0} (xs : List X) (k : ℕ) (x : X) → slice_get xs k ≡ Some x → drop k xs ≡ x ∷ drop (suc k) xs
drop_here xs k x there =
    drop-cons xs k x (slice_get_within xs k x there) ∙ ap (λ y. y ∷ drop (suc k) xs) (get_or_from_slice_get xs k x x there)

nothing : {X : Type 0} (i : ℕ) (x : X) → slice_get [] i ≡ Some x → ⊥
nothing i x e = cc

one_some : {X : Type 0} (o : Option X) (a b : X) → o ≡ Some a → o ≡ Some b → a ≡ b
one_some o a b x y = cc

-- an element of the first so many is one of the list
taken_there : {X : Type 0} (k : ℕ) (xs : List X) (n : ℕ) (x : X) → slice_get (take k xs) n ≡ Some x → slice_get xs n ≡ Some x
taken_there zero xs n x there = absurd (nothing n x there)
taken_there (suc k) [] n x there = absurd (nothing n x there)
taken_there (suc k) (y ∷ ys) zero x there = there
taken_there (suc k) (y ∷ ys) (suc n) x there = taken_there k ys n x there

taken_below : {X : Type 0} (k : ℕ) (xs : List X) (n : ℕ) (x : X) → slice_get (take k xs) n ≡ Some x → n < k
taken_below zero xs n x there = absurd (nothing n x there)
taken_below (suc k) [] n x there = absurd (nothing n x there)
taken_below (suc k) (y ∷ ys) zero x there = omega arith
taken_below (suc k) (y ∷ ys) (suc n) x there = let lt = taken_below k ys n x there in omega (arith, lt)

-- where none is refused all are taken
all_taken : (asked : List SpawnRequest) → ((k : ℕ) (a : SpawnRequest) → slice_get asked k ≡ Some a → a.refused ≡ false) → taken asked ≡ asked
all_taken [] none = refl
all_taken (a ∷ later) none =
    ap (λ b. if_taken b a (taken later)) (none 0 a refl) ∙ ap (λ l. a ∷ l) (all_taken later (λ k x there. none (suc k) x there))

-- ---- what tasks come to, beside what those that were folded into them came to

abbrev collect : (ℕ → List Finished) → ℕ → List TaskRun → List Finished
collect done i [] = []
collect done i (t ∷ ts) = (done i ++ finished_run t ∷ []) ++ collect done (suc i) ts

collect_none : (i : ℕ) (ts : List TaskRun) → collect (λ n. []) i ts ≡ map finished_run ts
collect_none i [] = refl
collect_none i (t ∷ ts) = ap (λ l. finished_run t ∷ l) (collect_none (suc i) ts)

collect_last : (done : ℕ → List Finished) (i : ℕ) (ts : List TaskRun) (t : TaskRun) →
    collect done i (ts ++ t ∷ []) ≡ collect done i ts ++ (done (i + length ts) ++ finished_run t ∷ [])
collect_last done i [] t =
    let at : i + 0 ≡ i = omega arith in
    append-nil (done i ++ finished_run t ∷ []) ∙ ap (λ n. done n ++ finished_run t ∷ []) (sym at)
collect_last done i (u ∷ ts) t =
    let at : suc i + length ts ≡ i + suc (length ts) = omega arith in
    ap (λ l. (done i ++ finished_run u ∷ []) ++ l) (collect_last done (suc i) ts t
    ∙ ap (λ n. collect done (suc i) ts ++ (done n ++ finished_run t ∷ [])) at)
    ∙ sym (append_assoc (done i ++ finished_run u ∷ []) (collect done (suc i) ts) (done (i + suc (length ts)) ++ finished_run t ∷ []))

collect_same : (done done' : ℕ → List Finished) (i : ℕ) (ts : List TaskRun) → ((n : ℕ) → i ≤ n → done n ≡ done' n) →
    collect done i ts ≡ collect done' i ts
collect_same done done' i [] same = refl
collect_same done done' i (t ∷ ts) same =
    ap (λ l. (l ++ finished_run t ∷ []) ++ collect done (suc i) ts) (same i (omega arith))
    ∙ ap (λ l. (done' i ++ finished_run t ∷ []) ++ l) (collect_same done done' (suc i) ts (λ n le. same n (omega (arith, le))))

module _ (done done' : ℕ → List Finished) (p : ℕ) (xs : List Finished) (there : done' p ≡ xs ++ done p)
    (others : (n : ℕ) → n ≢ p → done' n ≡ done n) where
  here_added : (i : ℕ) (t : TaskRun) (ts : List TaskRun) → i ≡ p →
      IsPermutation (((done i ++ finished_run t ∷ []) ++ collect done (suc i) ts) ++ xs) ((done' i ++ finished_run t ∷ []) ++ collect done' (suc i) ts)
  here_added i t ts is =
      let own : List Finished = done i ++ finished_run t ∷ [] in
      let rest : List Finished = collect done (suc i) ts in
      let same : collect done' (suc i) ts ≡ rest =
      collect_same done' done (suc i) ts (λ n le. others n (λ e. let bad : ⊥ = omega (arith, le, e, is) in bad)) in
      let now : done' i ≡ xs ++ done i = ap done' is ∙ there ∙ ap (λ n. xs ++ done n) (sym is) in
      let right : xs ++ (own ++ rest) ≡ (done' i ++ finished_run t ∷ []) ++ collect done' (suc i) ts =
      sym (append_assoc xs own rest)
      ∙ ap (λ l. l ++ rest) (sym (append_assoc xs (done i) (finished_run t ∷ [])))
      ∙ ap (λ l. (l ++ finished_run t ∷ []) ++ rest) (sym now)
      ∙ ap (λ l. (done' i ++ finished_run t ∷ []) ++ l) (sym same) in
      subst (λ l. IsPermutation ((own ++ rest) ++ xs) l) right (IsPermutation-append_comm (own ++ rest) xs)

  added : (i : ℕ) (ts : List TaskRun) → i ≤ p → p < i + length ts → IsPermutation (collect done i ts ++ xs) (collect done' i ts)
  added i [] low high = absurd (omega (arith, low, high))
  added i (t ∷ ts) low high =
      by_number (λ n. n ≤ p → n ≡ i → IsPermutation (collect done i (t ∷ ts) ++ xs) (collect done' i (t ∷ ts))) p i
      (λ le e. here_added i t ts (sym e))
      (λ ne le e.
      let own : List Finished = done i ++ finished_run t ∷ [] in
      let ih = added (suc i) ts (below ne low) (omega (arith, high)) in
      let left : own ++ (collect done (suc i) ts ++ xs) ≡ (own ++ collect done (suc i) ts) ++ xs = sym (append_assoc own (collect done (suc i) ts) xs) in
      let right : own ++ collect done' (suc i) ts ≡ (done' i ++ finished_run t ∷ []) ++ collect done' (suc i) ts =
      ap (λ l. (l ++ finished_run t ∷ []) ++ collect done' (suc i) ts) (sym (others i ne)) in
      subst (λ l. IsPermutation l ((done' i ++ finished_run t ∷ []) ++ collect done' (suc i) ts)) left
      (subst (λ l. IsPermutation (own ++ (collect done (suc i) ts ++ xs)) l) right
      (IsPermutation-append_right own (collect done (suc i) ts ++ xs) (collect done' (suc i) ts) ih)))
      low refl
    where
      below : i ≢ p → i ≤ p → suc i ≤ p
      below ne le = omega (arith, ne, le)

-- ---- the tasks, from the last one back

module _ (programs : List Program) (credit : ℕ) (buffer : List ℕ) (parents : List ℕ) (tasks : List TaskRun)
    (family : IsSpawnTree programs credit buffer parents tasks) (none : NoneRefused tasks) where
  -- how many of the tasks up to number k are children of this one
  abbrev born : ℕ → ℕ → ℕ
  born k i = children_of i (take k parents)

  -- The tasks past number k are folded into their parents: `done` has what came of them.
  record Stage (k : ℕ) (done : ℕ → List Finished) : Type 0 where
    pub comes : (i : ℕ) (t : TaskRun) → i ≤ k → slice_get tasks i ≡ Some t →
        ChildrenCome programs (task_at_start t) (suc (born k i)) (drop (born k i) t.asked) (done i)
    pub order : IsPermutation (map finished_run tasks) (collect done 0 (take (suc k) tasks))

  record Staged (k : ℕ) : Type 0 where
    pub done : ℕ → List Finished
    pub stage : Stage k done

  all_given : (i : ℕ) (t : TaskRun) → slice_get tasks i ≡ Some t → taken t.asked ≡ t.asked
  all_given i t there = all_taken t.asked (λ k a asked. none i k t a there asked)

  -- all children of a task that asked for no more
  over : (t : TaskRun) (n : ℕ) → length t.asked ≡ n → ChildrenCome programs (task_at_start t) (suc n) (drop n t.asked) []
  over t n long =
      subst (λ l. ChildrenCome programs (task_at_start t) (suc n) l []) (sym (drop_all n t.asked (omega (arith, long)))) refl

  all_there : Staged (length parents)
  all_there =
      let whole : take (length parents) parents ≡ parents = take-length parents in
      let every : take (suc (length parents)) tasks ≡ tasks = take_all (suc (length parents)) tasks (omega (arith, family.long)) in
      record {
        done = λ n. [];
        stage = record {
          comes = λ i t le there. over t (born (length parents) i) (ap length (sym (all_given i t there)) ∙ family.all i t there ∙ ap (children_of i) (sym whole));
          order = subst (λ l. IsPermutation (map finished_run tasks) l)
              (sym (collect_none 0 (take (suc (length parents)) tasks) ∙ ap (map finished_run) every))
              (IsPermutation-refl (map finished_run tasks));
        };
      }

  -- a task whose children are all folded into it
  whole_task : (k : ℕ) (done : ℕ → List Finished) (t : TaskRun) → slice_get tasks k ≡ Some t → Stage k done → born k k ≡ 0 →
      Eval programs (task_at_start t) t.birth.bytes (done k ++ finished_run t ∷ [])
  whole_task k done t there stage childless =
      let r = family.ran k t there in
      let come : ChildrenCome programs (task_at_start t) 1 t.asked (done k) =
      subst (λ n. ChildrenCome programs (task_at_start t) (suc n) (drop n t.asked) (done k)) childless (stage.comes k t (omega arith) there) in
      let s : SoloThenChildren programs (task_at_start t) t.birth.bytes (done k ++ finished_run t ∷ []) = record {
        program = r.program;
        there = r.there;
        asked = t.asked;
        r0 = t.r0;
        last = t.last;
        alone = r.alone;
        children = done k;
        come = come;
        is = refl;
      } in
      eval_of_solo programs (task_at_start t) t.birth.bytes (done k ++ finished_run t ∷ []) refl s

  -- none of the tasks up to number k is the child of a later one
  childless : (k i : ℕ) → k ≤ i → born k i ≡ 0
  childless k i le = no_children i (take k parents) (λ n p there is.
      let lt = taken_below k parents n p there in
      let old = family.older n p (taken_there k parents n p there) in
      omega (arith, le, is, lt, old))

  -- a child as its parent asked for it
  as_asked : (q t : TaskRun) (before : ℕ) (child : IsChildOf before q t) → task_at_start t ≡ child_at (task_at_start q) (suc before) child.request
  as_asked q t before child =
      let birth = child.birth in let place = child.place in let base = child.base in cc

  module _ (k : ℕ) (p : ℕ) (t q : TaskRun) (parent : slice_get parents k ≡ Some p) (there : slice_get tasks (suc k) ≡ Some t)
      (above : slice_get tasks p ≡ Some q) (done : ℕ → List Finished) (stage : Stage (suc k) done) where
    abbrev own : List Finished
    own = done (suc k) ++ finished_run t ∷ []

    abbrev next_done : ℕ → List Finished
    next_done n = cond (n == p) (own ++ done n) (done n)

    by_same : (n : ℕ) (b : Bool) → (n == p) ≡ b → n ≡ p → cond b (own ++ done n) (done n) ≡ own ++ done n
    by_same n true t e = refl
    by_same n false t e = absurd (grind (arith, nat_tests))

    by_other : (n : ℕ) (b : Bool) → (n == p) ≡ b → n ≢ p → cond b (own ++ done n) (done n) ≡ done n
    by_other n true t ne = let e : n ≡ p = grind (arith, nat_tests) in absurd (ne e)
    by_other n false t ne = refl

    one_earlier : take (suc k) parents ≡ take k parents ++ p ∷ []
    one_earlier = take_next parents k p parent

    -- the parent, with this child ahead of the later ones
    with_child : ChildrenCome programs (task_at_start q) (suc (born k p)) (drop (born k p) q.asked) (own ++ done p)
    with_child =
        let child = family.each k p t q parent there above in
        let asked_so : slice_get q.asked (born k p) ≡ Some child.request = ap (λ (l : List SpawnRequest). slice_get l (born k p)) (sym (all_given p q above)) ∙ child.asked in
        let older = family.older k p parent in
        let more : born (suc k) p ≡ suc (born k p) = ap (children_of p) one_earlier ∙ one_more p (take k parents) in
        let later : ChildrenCome programs (task_at_start q) (suc (suc (born k p))) (drop (suc (born k p)) q.asked) (done p) =
        subst (λ n. ChildrenCome programs (task_at_start q) (suc n) (drop n q.asked) (done p)) more (stage.comes p q (omega (arith, older)) above) in
        let alone : Eval programs (task_at_start t) t.birth.bytes own = whole_task (suc k) done t there stage (childless (suc k) (suc k) (omega arith)) in
        let asked : Eval programs (child_at (task_at_start q) (suc (born k p)) child.request) t.birth.bytes own =
        subst (λ (u : Task). Eval programs u t.birth.bytes own) (as_asked q t (born k p) child) alone in
        let whole : Eval programs (child_at (task_at_start q) (suc (born k p)) child.request) child.request.birth.bytes own =
        subst (λ (b : Birth). Eval programs (child_at (task_at_start q) (suc (born k p)) child.request) b.bytes own) child.birth asked in
        subst (λ l. ChildrenCome programs (task_at_start q) (suc (born k p)) l (own ++ done p)) (sym (drop_here q.asked (born k p) child.request asked_so))
        (own, done p, none p (born k p) q child.request above asked_so, whole, later, refl)

    next_comes : (i : ℕ) (u : TaskRun) → i ≤ k → slice_get tasks i ≡ Some u →
        ChildrenCome programs (task_at_start u) (suc (born k i)) (drop (born k i) u.asked) (next_done i)
    next_comes i u le here =
        by_number (λ n. n ≡ i → ChildrenCome programs (task_at_start u) (suc (born k i)) (drop (born k i) u.asked) (next_done i)) p i
        (λ e. subst (λ l. ChildrenCome programs (task_at_start u) (suc (born k i)) (drop (born k i) u.asked) l) (sym (by_same i (i == p) refl (sym e)))
        (subst (λ n. slice_get tasks n ≡ Some u → ChildrenCome programs (task_at_start u) (suc (born k n)) (drop (born k n) u.asked) (own ++ done n)) e
        (λ there_p. subst (λ (x : TaskRun). ChildrenCome programs (task_at_start x) (suc (born k p)) (drop (born k p) x.asked) (own ++ done p))
        (one_some (slice_get tasks p) q u above there_p) with_child) here))
        (λ ne e. subst (λ l. ChildrenCome programs (task_at_start u) (suc (born k i)) (drop (born k i) u.asked) l) (sym (by_other i (i == p) refl ne))
        (subst (λ n. ChildrenCome programs (task_at_start u) (suc n) (drop n u.asked) (done i))
        (ap (children_of i) one_earlier ∙ no_more i p (take k parents) (λ x. ne (sym x)))
        (stage.comes i u (omega (arith, le)) here)))
        refl

    next_order : IsPermutation (map finished_run tasks) (collect next_done 0 (take (suc k) tasks))
    next_order =
        let older = family.older k p parent in
        let within = slice_get_within tasks (suc k) t there in
        let long : length (take (suc k) tasks) ≡ suc k = length-take-le (suc k) tasks (omega (arith, within)) in
        let at : 0 + length (take (suc k) tasks) ≡ suc k = omega (arith, long) in
        let last : collect done 0 (take (suc (suc k)) tasks) ≡ collect done 0 (take (suc k) tasks) ++ own =
        ap (collect done 0) (take_next tasks (suc k) t there) ∙ collect_last done 0 (take (suc k) tasks) t
        ∙ ap (λ n. collect done 0 (take (suc k) tasks) ++ (done n ++ finished_run t ∷ [])) at in
        IsPermutation-trans (map finished_run tasks) (collect done 0 (take (suc k) tasks) ++ own) (collect next_done 0 (take (suc k) tasks))
        (subst (λ l. IsPermutation (map finished_run tasks) l) last stage.order)
        (added done next_done p own (by_same p (p == p) refl refl) (λ n ne. by_other n (n == p) refl ne) 0 (take (suc k) tasks)
        (omega arith) (omega (arith, older, long)))

    folded : Staged k
    folded = record { done = next_done; stage = record { comes = next_comes; order = next_order } }

  element : {X : Type 0} (xs : List X) (k : ℕ) → k < length xs → (x : X) × (slice_get xs k ≡ Some x)
  element [] k lt = absurd (omega (arith, lt))
  element (x ∷ xs) zero lt = (x, refl)
  element (x ∷ xs) (suc k) lt = element xs k (omega (arith, lt))

  down : (k : ℕ) → k < length parents → Staged (suc k) → Staged k
  down k lt s =
      let p = element parents k lt in
      let long = family.long in
      let older = family.older k p.0 p.1 in
      let t = element tasks (suc k) (omega (arith, lt, long)) in
      let q = element tasks p.0 (omega (arith, lt, long, older)) in
      folded k p.0 t.0 q.0 p.1 t.1 q.1 s.done s.stage

  staged : (d k : ℕ) → k + d ≡ length parents → Staged k
  staged zero k is = let same : length parents ≡ k = omega (arith, is) in subst (λ n. Staged n) same all_there
  staged (suc d) k is = down k (omega (arith, is)) (staged d (suc k) (omega (arith, is)))

  root_is : (t : TaskRun) → slice_get tasks 0 ≡ Some t → task_at_start t ≡ root credit buffer
  root_is t there =
      let top = family.top t there in
      let birth = top.0 in let place = top.1 in let base = top.2 in cc

  from_root : Staged 0 → (t : TaskRun) → slice_get tasks 0 ≡ Some t →
      (fs : List Finished) × RootComes programs credit buffer fs × IsPermutation (map finished_run tasks) fs
  from_root s t there =
      let fs : List Finished = s.done 0 ++ finished_run t ∷ [] in
      let alone : Eval programs (task_at_start t) t.birth.bytes fs = whole_task 0 s.done t there s.stage (childless 0 0 (omega arith)) in
      let bytes : t.birth.bytes ≡ buffer = ap (λ (b : Birth). b.bytes) (family.top t there).0 in
      let one : collect s.done 0 (take 1 tasks) ≡ fs = ap (collect s.done 0) (take_next tasks 0 t there) ∙ append-nil fs in (
        fs,
        subst (λ (l : List ℕ). Eval programs (root credit buffer) l fs) bytes
            (subst (λ (u : Task). Eval programs u t.birth.bytes fs) (root_is t there) alone),
        subst (λ l. IsPermutation (map finished_run tasks) l) one s.stage.order,
      )

  pub family_comes : (fs : List Finished) × RootComes programs credit buffer fs × IsPermutation (map finished_run tasks) fs
  family_comes =
      let long = family.long in
      let t = element tasks 0 (omega (arith, long)) in
      from_root (staged (length parents) 0 (omega arith)) t.0 t.1
