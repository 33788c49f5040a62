-- No two tasks of a job have one place.
use Rattle.std.proofs.Common.{◌≡◌, ℕ, zero, suc, ◌<◌, ◌≤◌, List, [], ◌∷◌, ◌++◌, get_or, length, length-append, take, slice_get, refl, sym, ◌∙◌, arith, ap, subst, Bool, true, false, nat_lt, ◌==◌, Option, Some, None, option_and_then}
use Rattle.std.proofs.lemmas.Option.{slice_get_within, slice_get-get_or}
use Rattle.std.proofs.lemmas.List.Sums.{sum_by-cons}
use Rattle.std.proofs.lemmas.Bool.Decides.{nat_tests}
use Rattle.std.specs.Prelude.{cond}
use Rattle.machine_model.specs.Machine.{Program}
use Rattle.machine_model.specs.JobState.{JobState, Member, Move, step, run, start}
use Rattle.task_trees.specs.Families.{place_of, children_of, AreParents, HavePlaces}
use Rattle.task_trees.proofs.FamilyLemmas.{if_equal, grown_step, starts}

-- ---- places as lists

no_push : (l : List ℕ) (x : ℕ) → let none_of : List ℕ = [] in none_of ≡ l ++ x ∷ [] → ⊥
no_push l x e = let long = ap length e in let sum = length-append l (x ∷ []) in omega (arith, long, sum)

record Both (l k : List ℕ) (x y : ℕ) : Type 0 where
  pub front : l ≡ k
  pub last : x ≡ y

push_once : (l k : List ℕ) (x y : ℕ) → l ++ x ∷ [] ≡ k ++ y ∷ [] → Both l k x y
push_once [] [] x y e = record { front = refl; last = cc }
push_once [] (b ∷ k) x y e = let none_of : List ℕ = [] in let tails : none_of ≡ k ++ y ∷ [] = cc in absurd (no_push k y tails)
push_once (a ∷ l) [] x y e = let none_of : List ℕ = [] in let tails : none_of ≡ l ++ x ∷ [] = cc in absurd (no_push l x tails)
push_once (a ∷ l) (b ∷ k) x y e =
    let tails : l ++ x ∷ [] ≡ k ++ y ∷ [] = cc in
    let heads : a ≡ b = cc in
    let later = push_once l k x y tails in
    record { front = ap (λ (i : ℕ). i ∷ l) heads ∙ ap (λ (r : List ℕ). b ∷ r) later.front; last = later.last }

one_number : (p q : ℕ) → let here : Option ℕ = Some p in here ≡ Some q → p ≡ q
one_number p q e = cc

none_there : (n p : ℕ) → let ps : List ℕ = [] in slice_get ps n ≡ Some p → ⊥
none_there n p e = cc

-- a later child has a greater number
count_less : (ps : List ℕ) (n k p : ℕ) → n < k → slice_get ps n ≡ Some p → suc (children_of p (take n ps)) ≤ children_of p (take k ps)
count_less [] n k p lt there = absurd (none_there n p there)
count_less (q ∷ ps) n zero p lt there = absurd (omega (arith, lt))
count_less (q ∷ ps) zero (suc k) p lt there =
    let is : q ≡ p = one_number q p there in
    let one = if_equal q p (q == p) refl is in
    let sum = sum_by-cons (λ i. cond (i == p) 1 0) q (take k ps) in
    omega (arith, one, sum)
count_less (q ∷ ps) (suc n) (suc k) p lt there =
    let later = count_less ps n k p (omega (arith, lt)) there in
    let sum = sum_by-cons (λ i. cond (i == p) 1 0) q (take n ps) in
    let other = sum_by-cons (λ i. cond (i == p) 1 0) q (take k ps) in
    omega (arith, later, sum, other)

module _ (parents : List ℕ) (tasks : List Member) (are : AreParents parents tasks) where
  -- what stands before a task's own number among its parent's children
  record Child (n : ℕ) (m : Member) : Type 0 where
    pub parent : ℕ
    pub there : slice_get parents n ≡ Some parent
    pub le : parent ≤ n
    pub member : Member
    pub is_there : slice_get tasks parent ≡ Some member
    pub place : place_of m ≡ place_of member ++ suc (children_of parent (take n parents)) ∷ []

  child : (n : ℕ) (m : Member) → slice_get tasks (suc n) ≡ Some m → Child n m
  child n m e =
      let within = slice_get_within tasks (suc n) m e in
      let long = are.long in
      let there = slice_get-get_or parents n 0 (omega (arith, within, long)) in
      let le = are.older n (get_or parents n 0) there in
      let is_there = slice_get-get_or tasks (get_or parents n 0) m (omega (arith, le, within)) in
      record {
        parent = get_or parents n 0;
        there = there;
        le = le;
        member = get_or tasks (get_or parents n 0) m;
        is_there = is_there;
        place = are.each n (get_or parents n 0) m (get_or tasks (get_or parents n 0) m) there e is_there;
      }

  number_by : (n k p : ℕ) (b c : Bool) → nat_lt n k ≡ b → nat_lt k n ≡ c → slice_get parents n ≡ Some p → slice_get parents k ≡ Some p →
      children_of p (take n parents) ≡ children_of p (take k parents) → n ≡ k
  number_by n k p true c t u a b same =
      let lt : n < k = grind (arith, nat_tests) in let less = count_less parents n k p lt a in absurd (omega (arith, less, same))
  number_by n k p false true t u a b same =
      let lt : k < n = grind (arith, nat_tests) in let less = count_less parents k n p lt b in absurd (omega (arith, less, same))
  number_by n k p false false t u a b same = grind (arith, nat_tests)

  one_place : (bound n k : ℕ) (a b : Member) → n < bound → slice_get tasks n ≡ Some a → slice_get tasks k ≡ Some b → place_of a ≡ place_of b → n ≡ k
  one_place zero n k a b lt e f same = absurd (omega (arith, lt))
  one_place (suc bound) zero zero a b lt e f same = refl
  one_place (suc bound) zero (suc k) a b lt e f same =
      let c = child k b f in absurd (no_push (place_of c.member) (suc (children_of c.parent (take k parents))) (sym (are.top a e) ∙ same ∙ c.place))
  one_place (suc bound) (suc n) zero a b lt e f same =
      let c = child n a e in absurd (no_push (place_of c.member) (suc (children_of c.parent (take n parents))) (sym (are.top b f) ∙ sym same ∙ c.place))
  one_place (suc bound) (suc n) (suc k) a b lt e f same =
      let c = child n a e in let d = child k b f in
      let both = push_once (place_of c.member) (place_of d.member) (suc (children_of c.parent (take n parents)))
      (suc (children_of d.parent (take k parents))) (sym c.place ∙ same ∙ d.place) in
      let le = c.le in
      let parent : c.parent ≡ d.parent = one_place bound c.parent d.parent c.member d.member (omega (arith, le, lt)) c.is_there d.is_there both.front in
      let last = both.last in
      let counts : children_of c.parent (take n parents) ≡ children_of d.parent (take k parents) = omega (arith, last) in
      let there : slice_get parents k ≡ Some c.parent = d.there ∙ ap (λ (i : ℕ). let o : Option ℕ = Some i in o) (sym parent) in
      ap suc (number_by n k c.parent (nat_lt n k) (nat_lt k n) refl refl c.there there
      (counts ∙ ap (λ (i : ℕ). children_of i (take k parents)) (sym parent)))

-- what a chain gives comes from a value in its middle
middle : (o : Option JobState) (f : JobState → Option JobState) (k : JobState) → option_and_then f o ≡ Some k → (mid : JobState) × (o ≡ Some mid) × (f mid ≡ Some k)
middle None f k is = cc
middle (Some mid) f k is = (mid, refl, is)

run_parents : (programs : List Program) (j k : JobState) (moves : List Move) (parents : List ℕ) → run programs j moves ≡ Some k → AreParents parents j.tasks →
    (parents' : List ℕ) × AreParents parents' k.tasks
run_parents programs j k [] parents is are = let e : j ≡ k = cc in (parents, subst (λ (x : JobState). AreParents parents x.tasks) e are)
run_parents programs j k (m ∷ ms) parents is are =
    let through = middle (step programs j m.number m.refuses) (λ mid. run programs mid ms) k is in
    let next = grown_step programs j through.0 m.number m.refuses parents through.1 are in
    run_parents programs through.0 k ms next.0 through.2 next.2

pub run_places : (programs : List Program) (credit : ℕ) (buffer : List ℕ) (moves : List Move) (last : JobState) →
    run programs (start credit buffer) moves ≡ Some last → HavePlaces last
run_places programs credit buffer moves last is =
    let r = run_parents programs (start credit buffer) last moves [] is (starts credit buffer) in
    λ n k a b e f same. one_place r.0 last.tasks r.1 (suc n) n k a b (omega arith) e f same
