-- What a put and a take do to flows.
use Rattle.std.proofs.Common.{◌≡◌, ◌≢◌, ◌==◌, ◌⊎◌, inl, inr, ◌+◌, ◌<◌, ◌≤◌, ℕ, zero, suc, Bool, true, false, List, [], ◌∷◌, ◌++◌, length, set, if◌then◌else◌, refl, sym, ap, subst, ◌∙◌, arith, length-append}
use Rattle.std.proofs.lemmas.Bool.Decides.{nat_tests}
use Rattle.std.specs.Prelude.{slice_index_or}
use Rattle.job_pools.specs.Turns.{WaitingFlow, rest_of_flow, put_behind, TakesNext, waiting_count, IsAbsent, AreFlows}

-- ---- tests

pub is_same : (m n : ℕ) → m ≡ n → (m == n) ≡ true
is_same m n is = grind (arith, nat_tests)

pub is_other : (m n : ℕ) → m ≢ n → (m == n) ≡ false
is_other m n differs = grind (arith, nat_tests)

pub same_is : (m n : ℕ) → (m == n) ≡ true → m ≡ n
same_is m n is = grind (arith, nat_tests)

pub other_is : (m n : ℕ) → (m == n) ≡ false → m ≢ n
other_is m n is = grind (arith, nat_tests)

pub if_true : {A : Type 0} (b : Bool) (x y : A) → b ≡ true → (if b then x else y) ≡ x
if_true b x y e = ap (λ (t : Bool). if t then x else y) e

pub if_false : {A : Type 0} (b : Bool) (x y : A) → b ≡ false → (if b then x else y) ≡ y
if_false b x y e = ap (λ (t : Bool). if t then x else y) e

pub if_cases : {A : Type 0} (P : A → Type 0) (b : Bool) (x y : A) → (b ≡ true → P x) → (b ≡ false → P y) → P (if b then x else y)
if_cases P true x y yes_it no_it = yes_it refl
if_cases P false x y yes_it no_it = no_it refl

-- ---- lists

pub not_nil : {A : Type 0} (x : A) (xs : List A) → x ∷ xs ≢ []
not_nil x xs = λ e. cc

pub snoc_not_nil : {A : Type 0} (xs : List A) (x : A) → xs ++ x ∷ [] ≢ []
snoc_not_nil [] x = not_nil x []
snoc_not_nil (y ∷ ys) x = not_nil y (ys ++ x ∷ [])

module _ {X : Type 0} where
  absent_at : (n : ℕ) (q : List (WaitingFlow X)) (at : ℕ) (d : WaitingFlow X) → IsAbsent n q → at < length q → (slice_index_or q at d).number ≢ n
  absent_at n [] at d absent below = absurd (omega (arith, below))
  absent_at n (f ∷ fs) zero d absent below = absent.0
  absent_at n (f ∷ fs) (suc at) d absent below = absent_at n fs at d absent.1 (omega (arith, below))

  absent_end : (n : ℕ) (q : List (WaitingFlow X)) (f : WaitingFlow X) → IsAbsent n q → f.number ≢ n → IsAbsent n (q ++ f ∷ [])
  absent_end n [] f absent differs = (differs, tt)
  absent_end n (g ∷ gs) f absent differs = (absent.0, absent_end n gs f absent.1 differs)

  -- ---- a put

  pub put_here : (n : ℕ) (x : X) (f : WaitingFlow X) (fs : List (WaitingFlow X)) → f.number ≡ n → put_behind n x (f ∷ fs) ≡ record { number = f.number; waiting = f.waiting ++ x ∷ [] } ∷ fs
  put_here n x f fs is = if_true (f.number == n) (record { number = f.number; waiting = f.waiting ++ x ∷ [] } ∷ fs) (f ∷ put_behind n x fs) (is_same f.number n is)

  pub put_there : (n : ℕ) (x : X) (f : WaitingFlow X) (fs : List (WaitingFlow X)) → f.number ≢ n → put_behind n x (f ∷ fs) ≡ f ∷ put_behind n x fs
  put_there n x f fs differs = if_false (f.number == n) (record { number = f.number; waiting = f.waiting ++ x ∷ [] } ∷ fs) (f ∷ put_behind n x fs) (is_other f.number n differs)

  -- at the place of the flow
  pub put_set : (n : ℕ) (x : X) (q : List (WaitingFlow X)) (at : ℕ) (old : WaitingFlow X) → AreFlows q → at < length q → ((d : WaitingFlow X) → slice_index_or q at d ≡ old) → old.number ≡ n
      → put_behind n x q ≡ set q at (record { number = old.number; waiting = old.waiting ++ x ∷ [] })
  put_set n x [] at old flows below there is = absurd (omega (arith, below))
  put_set n x (f ∷ fs) zero old flows below there is =
      put_here n x f fs (ap (λ (g : WaitingFlow X). g.number) (there f) ∙ is)
      ∙ ap (λ (g : WaitingFlow X). record { number = g.number; waiting = g.waiting ++ x ∷ [] } ∷ fs) (there f)
  put_set n x (f ∷ fs) (suc at) old flows below there is =
      let apart : (slice_index_or fs at f).number ≢ f.number = absent_at f.number fs at f flows.1 (omega (arith, below)) in
      let differs : f.number ≢ n = λ same. apart (ap (λ (g : WaitingFlow X). g.number) (there f) ∙ (is ∙ sym same)) in
      put_there n x f fs differs ∙ ap (λ (l : List (WaitingFlow X)). f ∷ l) (put_set n x fs at old flows.2 (omega (arith, below)) there is)

  -- where nothing of the flow waits
  pub put_end : (n : ℕ) (x : X) (q : List (WaitingFlow X)) → ((at : ℕ) (d : WaitingFlow X) → at < length q → (slice_index_or q at d).number ≢ n)
      → put_behind n x q ≡ q ++ record { number = n; waiting = x ∷ [] } ∷ []
  put_end n x [] none = refl
  put_end n x (f ∷ fs) none =
      put_there n x f fs (none 0 f (omega arith))
      ∙ ap (λ (l : List (WaitingFlow X)). f ∷ l) (put_end n x fs (λ at d below. none (suc at) d (omega (arith, below))))

  absent_put : (m n : ℕ) (x : X) (q : List (WaitingFlow X)) → IsAbsent m q → n ≢ m → IsAbsent m (put_behind n x q)
  absent_put m n x [] all differs = (differs, tt)
  absent_put m n x (f ∷ fs) all differs =
      if_cases (IsAbsent {X = X} m) (f.number == n) (record { number = f.number; waiting = f.waiting ++ x ∷ [] } ∷ fs) (f ∷ put_behind n x fs)
      (λ e. (all.0, all.1)) (λ e. (all.0, absent_put m n x fs all.1 differs))

  pub flows_put : (n : ℕ) (x : X) (q : List (WaitingFlow X)) → AreFlows q → AreFlows (put_behind n x q)
  flows_put n x [] flows = (not_nil x [], tt, tt)
  flows_put n x (f ∷ fs) flows =
      if_cases (AreFlows {X = X}) (f.number == n) (record { number = f.number; waiting = f.waiting ++ x ∷ [] } ∷ fs) (f ∷ put_behind n x fs)
      (λ e. (snoc_not_nil f.waiting x, flows.1, flows.2))
      (λ e. (flows.0, absent_put f.number n x fs flows.1 (λ same. other_is f.number n e (sym same)), flows_put n x fs flows.2))

  pub count_put : (n : ℕ) (x : X) (q : List (WaitingFlow X)) → waiting_count (put_behind n x q) ≡ waiting_count q + 1
  count_put n x [] = refl
  count_put n x (f ∷ fs) =
      if_cases (λ (l : List (WaitingFlow X)). waiting_count l ≡ waiting_count (f ∷ fs) + 1) (f.number == n) (record { number = f.number; waiting = f.waiting ++ x ∷ [] } ∷ fs) (f ∷ put_behind n x fs)
      (λ e. let longer : length (f.waiting ++ x ∷ []) ≡ length f.waiting + 1 = length-append f.waiting (x ∷ []) in omega (arith, longer))
      (λ e. let more : waiting_count (put_behind n x fs) ≡ waiting_count fs + 1 = count_put n x fs in omega (arith, more))

  -- ---- a take

  flows_end : (f : WaitingFlow X) (q : List (WaitingFlow X)) → AreFlows q → f.waiting ≢ [] → IsAbsent f.number q → AreFlows (q ++ f ∷ [])
  flows_end f [] flows full apart = (full, tt, tt)
  flows_end f (g ∷ gs) flows full apart =
      (flows.0, absent_end g.number gs f flows.1 (λ same. apart.0 (sym same)), flows_end f gs flows.2 full apart.1)

  append_nil : (q : List (WaitingFlow X)) → q ++ [] ≡ q
  append_nil [] = refl
  append_nil (f ∷ fs) = ap (λ (l : List (WaitingFlow X)). f ∷ l) (append_nil fs)

  pub flows_left : (n : ℕ) (more : List X) (q : List (WaitingFlow X)) → AreFlows q → IsAbsent n q → AreFlows (q ++ rest_of_flow n more)
  flows_left n [] q flows apart = subst (AreFlows {X = X}) (sym (append_nil q)) flows
  flows_left n (x ∷ xs) q flows apart = flows_end (record { number = n; waiting = x ∷ xs }) q flows (not_nil x xs) apart

  pub count_left : (n : ℕ) (more : List X) (q : List (WaitingFlow X)) → waiting_count (q ++ rest_of_flow n more) ≡ waiting_count q + length more
  count_left n [] [] = refl
  count_left n (x ∷ xs) [] = omega arith
  count_left n more (f ∷ fs) = let rest_is : waiting_count (fs ++ rest_of_flow n more) ≡ waiting_count fs + length more = count_left n more fs in omega (arith, rest_is)

  pub flows_take : (old : List (WaitingFlow X)) (n : ℕ) (x : X) (new : List (WaitingFlow X)) → TakesNext old n x new → AreFlows old → AreFlows new
  flows_take old n x new takes flows =
      let were : AreFlows (record { number = n; waiting = x ∷ takes.0 } ∷ takes.1) = subst (AreFlows {X = X}) takes.2 flows in
      subst (AreFlows {X = X}) (sym takes.3) (flows_left n takes.0 takes.1 were.2 were.1)
