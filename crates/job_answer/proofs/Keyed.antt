-- A list in which each number below a bound is the key of just one element, in the order of the keys.
use Rattle.std.proofs.Common.{◌≡◌, ◌≢◌, ℕ, zero, suc, ◌<◌, ◌≤◌, ◌+◌, List, [], ◌∷◌, ◌++◌, length, map, slice_get, refl, sym, ◌∙◌, arith, ap, subst, Bool, true, false, ◌==◌, Some}
use Rattle.std.specs.Prelude.{cond, All}
use Rattle.std.specs.List.{count_by}
use Rattle.std.specs.List.Sorted.{IsPermutation}
use Rattle.std.proofs.lemmas.List.{map-append}
use Rattle.std.proofs.lemmas.List.Elements.{All-head, All-tail}
use Rattle.std.proofs.lemmas.List.Sums.{sum_by-append, sum_by-cons}
use Rattle.std.proofs.lemmas.List.Sorted.{IsPermutation-refl, IsPermutation-trans, IsPermutation-append_comm, IsPermutation-append_left, IsPermutation-middle}
use Rattle.std.proofs.lemmas.Bool.Decides.{nat_tests}
use Rattle.job_answer.specs.Gathered.{numbers_to}

abbrev as_one : Bool → ℕ
as_one b = cond b 1 0

one_by : (a n : ℕ) (b : Bool) → (a == n) ≡ b → a ≡ n → as_one b ≡ 1
one_by a n true t e = refl
one_by a n false t e = absurd (grind (arith, nat_tests))

pub one_if : (a n : ℕ) → a ≡ n → as_one (a == n) ≡ 1
one_if a n e = one_by a n (a == n) refl e

zero_by : (a n : ℕ) (b : Bool) → (a == n) ≡ b → a ≢ n → as_one b ≡ 0
zero_by a n true t ne = let e : a ≡ n = grind (arith, nat_tests) in absurd (ne e)
zero_by a n false t ne = refl

pub zero_if : (a n : ℕ) → a ≢ n → as_one (a == n) ≡ 0
zero_if a n ne = zero_by a n (a == n) refl ne

nothing : {X : Type 0} (i : ℕ) (x : X) → slice_get [] i ≡ Some x → ⊥
nothing i x e = cc

-- ---- numbers

abbrev times : ℕ → List ℕ → ℕ
times n xs = count_by (λ (k : ℕ). k == n) xs

times_more : (n m : ℕ) → times n (numbers_to (suc m)) ≡ times n (numbers_to m) + as_one (m == n)
times_more n m = sum_by-append (λ k. as_one (k == n)) (numbers_to m) (m ∷ []) ∙ omega (arith, sum_by-cons (λ k. as_one (k == n)) m [])

pub times_above : (n m : ℕ) → m ≤ n → times n (numbers_to m) ≡ 0
times_above n zero le = refl
times_above n (suc m) le =
    let ih = times_above n m (omega (arith, le)) in
    let other = zero_if m n (λ e. omega (arith, le, e)) in
    omega (arith, times_more n m, ih, other)

pub times_below : (n m : ℕ) → n < m → times n (numbers_to m) ≡ 1
times_below n zero lt = absurd (omega (arith, lt))
times_below n (suc m) lt = by_test (λ less. times_below n m less) (m == n) refl
  where
    by_test : (n < m → times n (numbers_to m) ≡ 1) → (b : Bool) → (m == n) ≡ b → times n (numbers_to (suc m)) ≡ 1
    by_test ih true t =
        let e : m ≡ n = grind (arith, nat_tests) in
        let here = one_if m n e in
        let none = times_above n m (omega (arith, e)) in
        omega (arith, times_more n m, here, none)
    by_test ih false t =
        let ne : m ≢ n = λ e. let one = one_if m n e in let none : as_one (m == n) ≡ 0 = ap as_one t in omega (arith, one, none) in
        let other = zero_if m n ne in
        let below = ih (omega (arith, lt, ne)) in
        omega (arith, times_more n m, other, below)

pub get_numbered : {X : Type 0} (f : ℕ → X) (m n : ℕ) → n < m → slice_get (map f (numbers_to m)) n ≡ Some (f n)
get_numbered f zero n lt = absurd (omega (arith, lt))
get_numbered f (suc m) n lt =
    let split : map f (numbers_to (suc m)) ≡ map f (numbers_to m) ++ f m ∷ [] = map-append f (numbers_to m) (m ∷ []) in
    ap (λ l. slice_get l n) split ∙ by_test (λ less. get_numbered f m n less) (n == m) refl
  where
    long_numbered : (k : ℕ) → length (map f (numbers_to k)) ≡ k
    long_numbered zero = refl
    long_numbered (suc k) = ap length (map-append f (numbers_to k) (k ∷ [])) ∙ long_push (map f (numbers_to k)) (f k) ∙ ap suc (long_numbered k)
      where
        long_push : {Y : Type 0} (l : List Y) (y : Y) → length (l ++ y ∷ []) ≡ suc (length l)
        long_push [] y = refl
        long_push (z ∷ zs) y = ap suc (long_push zs y)

    last : {Y : Type 0} (l : List Y) (y : Y) → slice_get (l ++ y ∷ []) (length l) ≡ Some y
    last [] y = refl
    last (z ∷ zs) y = last zs y

    longer : {Y : Type 0} (l : List Y) (y z : Y) (k : ℕ) → slice_get l k ≡ Some z → slice_get (l ++ y ∷ []) k ≡ Some z
    longer [] y z k e = absurd (nothing k z e)
    longer (x ∷ xs) y z zero e = e
    longer (x ∷ xs) y z (suc k) e = longer xs y z k e

    by_test : (n < m → slice_get (map f (numbers_to m)) n ≡ Some (f n)) → (b : Bool) → (n == m) ≡ b → slice_get (map f (numbers_to m) ++ f m ∷ []) n ≡ Some (f n)
    by_test ih true t =
        let e : n ≡ m = grind (arith, nat_tests) in
        let at : n ≡ length (map f (numbers_to m)) = e ∙ sym (long_numbered m) in
        ap (slice_get (map f (numbers_to m) ++ f m ∷ [])) at ∙ last (map f (numbers_to m)) (f m) ∙ ap (λ k. Some (f k)) (sym e)
    by_test ih false t =
        let ne : n ≢ m = λ e. let one = one_if n m e in let none : as_one (n == m) ≡ 0 = ap as_one t in omega (arith, one, none) in
        longer (map f (numbers_to m)) (f m) (f n) n (ih (omega (arith, lt, ne)))

pub long_numbers : (m : ℕ) → length (numbers_to m) ≡ m
long_numbers zero = refl
long_numbers (suc m) = long_push (numbers_to m) m ∙ ap suc (long_numbers m)
  where
    long_push : {Y : Type 0} (l : List Y) (y : Y) → length (l ++ y ∷ []) ≡ suc (length l)
    long_push [] y = refl
    long_push (z ∷ zs) y = ap suc (long_push zs y)

-- ---- keys

abbrev pub Each : {X : Type 0} → (X → Type 0) → List X → Type 0
Each P [] = Unit {0}
Each P (x ∷ xs) = P x × Each P xs

each_left : {X : Type 0} (P : X → Type 0) (xs ys : List X) → Each P (xs ++ ys) → Each P xs
each_left P [] ys e = tt
each_left P (x ∷ xs) ys e = (e.0, each_left P xs ys e.1)

each_right : {X : Type 0} (P : X → Type 0) (xs ys : List X) → Each P (xs ++ ys) → Each P ys
each_right P [] ys e = e
each_right P (x ∷ xs) ys e = each_right P xs ys e.1

each_append : {X : Type 0} (P : X → Type 0) (xs ys : List X) → Each P xs → Each P ys → Each P (xs ++ ys)
each_append P [] ys e f = f
each_append P (x ∷ xs) ys e f = (e.0, each_append P xs ys e.1 f)

pub each_at : {X : Type 0} (P : X → Type 0) (xs : List X) (k : ℕ) (x : X) → Each P xs → slice_get xs k ≡ Some x → P x
each_at P [] k x e there = absurd (nothing k x there)
each_at P (y ∷ ys) zero x e there = subst P (let same : y ≡ x = cc in same) e.0
each_at P (y ∷ ys) (suc k) x e there = each_at P ys k x e.1 there

pub each_of_all : {X : Type 0} (P : X → Type 0) (xs : List X) → All P xs → Each P xs
each_of_all P [] all = tt
each_of_all P (x ∷ xs) all = (All-head P x xs all, each_of_all P xs (All-tail P x xs all))

module _ {X : Type 0} (key : X → ℕ) where
  abbrev pub count : ℕ → List X → ℕ
  count n xs = count_by (λ (x : X). key x == n) xs

  count_cons : (n : ℕ) (x : X) (xs : List X) → count n (x ∷ xs) ≡ as_one (key x == n) + count n xs
  count_cons n x xs = sum_by-cons (λ (y : X). as_one (key y == n)) x xs

  count_append : (n : ℕ) (xs ys : List X) → count n (xs ++ ys) ≡ count n xs + count n ys
  count_append n xs ys = sum_by-append (λ (y : X). as_one (key y == n)) xs ys

  none_of : (n : ℕ) (xs : List X) → count n xs ≡ 0 → Each (λ (x : X). key x ≢ n) xs
  none_of n [] c = tt
  none_of n (x ∷ xs) c =
      let split = count_cons n x xs in (
        (λ e. let one = one_if (key x) n e in let bad : ⊥ = omega (arith, c, split, one) in bad),
        none_of n xs (omega (arith, c, split)),
      )

  abbrev pub find : X → List X → ℕ → X
  find d [] n = d
  find d (x ∷ xs) n = cond (key x == n) x (find d xs n)

  found_by : (d x : X) (xs : List X) (n : ℕ) (b : Bool) → (key x == n) ≡ b → key x ≡ n → cond b x (find d xs n) ≡ x
  found_by d x xs n true t e = refl
  found_by d x xs n false t e = absurd (grind (arith, nat_tests))

  later_by : (d x : X) (xs : List X) (n : ℕ) (b : Bool) → (key x == n) ≡ b → key x ≢ n → cond b x (find d xs n) ≡ find d xs n
  later_by d x xs n true t ne = let e : key x ≡ n = grind (arith, nat_tests) in absurd (ne e)
  later_by d x xs n false t ne = refl

  -- an element of this key is found
  pub found_key : (d : X) (xs : List X) (n : ℕ) → count n xs ≡ 1 → key (find d xs n) ≡ n
  found_key d [] n c = absurd (omega (arith, c))
  found_key d (x ∷ xs) n c = by_test (λ one. found_key d xs n one) (key x == n) refl
    where
      by_test : (count n xs ≡ 1 → key (find d xs n) ≡ n) → (b : Bool) → (key x == n) ≡ b → key (find d (x ∷ xs) n) ≡ n
      by_test ih true t = let e : key x ≡ n = grind (arith, nat_tests) in ap key (found_by d x xs n (key x == n) refl e) ∙ e
      by_test ih false t =
          let ne : key x ≢ n = λ e. let one = one_if (key x) n e in let none : as_one (key x == n) ≡ 0 = ap as_one t in omega (arith, one, none) in
          let other = zero_if (key x) n ne in
          ap key (later_by d x xs n (key x == n) refl ne) ∙ ih (omega (arith, c, count_cons n x xs, other))

  -- each element is the one that is found under its key
  pub found_all : (d : X) (xs : List X) → ((n : ℕ) → count n xs ≤ 1) → Each (λ (x : X). find d xs (key x) ≡ x) xs
  found_all d [] few = tt
  found_all d (x ∷ xs) few =
      let split = count_cons (key x) x xs in
      let at_most = few (key x) in
      let one = one_if (key x) (key x) refl in
      let alone = none_of (key x) xs (omega (arith, split, at_most, one)) in
      let later = found_all d xs (λ n. let s = count_cons n x xs in let f = few n in omega (arith, s, f)) in (
        found_by d x xs (key x) (key x == key x) refl refl,
        both xs alone later,
      )
    where
      both : (ys : List X) → Each (λ (y : X). key y ≢ key x) ys → Each (λ (y : X). find d xs (key y) ≡ y) ys →
          Each (λ (y : X). find d (x ∷ xs) (key y) ≡ y) ys
      both [] a b = tt
      both (y ∷ ys) a b = (later_by d x xs (key y) (key x == key y) refl (λ e. a.0 (sym e)) ∙ b.0, both ys a.1 b.1)

  pub record Split (xs : List X) (n : ℕ) : Type 0 where
    pub before : List X
    pub element : X
    pub after : List X
    pub is : xs ≡ before ++ element ∷ after
    pub keyed : key element ≡ n

  pub split_at : (xs : List X) (n : ℕ) → count n xs ≡ 1 → Split xs n
  split_at [] n c = absurd (omega (arith, c))
  split_at (x ∷ xs) n c = by_test (λ one. split_at xs n one) (key x == n) refl
    where
      by_test : (count n xs ≡ 1 → Split xs n) → (b : Bool) → (key x == n) ≡ b → Split (x ∷ xs) n
      by_test ih true t = record { before = []; element = x; after = xs; is = refl; keyed = (let e : key x ≡ n = grind (arith, nat_tests) in e) }
      by_test ih false t =
          let ne : key x ≢ n = λ e. let one = one_if (key x) n e in let none : as_one (key x == n) ≡ 0 = ap as_one t in omega (arith, one, none) in
          let other = zero_if (key x) n ne in
          let s = ih (omega (arith, c, count_cons n x xs, other)) in
          record { before = x ∷ s.before; element = s.element; after = s.after; is = ap (λ l. x ∷ l) s.is; keyed = s.keyed }

  empty : (xs : List X) → ((n : ℕ) → count n xs ≡ 0) → xs ≡ []
  empty [] none = refl
  empty (x ∷ xs) none =
      let c = none (key x) in
      let one = one_if (key x) (key x) refl in
      absurd (omega (arith, c, count_cons (key x) x xs, one))

  -- the list, in the order of the keys
  pub in_order : (pick : ℕ → X) (m : ℕ) (xs : List X) → ((n : ℕ) → count n xs ≡ times n (numbers_to m)) → Each (λ (x : X). pick (key x) ≡ x) xs →
      IsPermutation xs (map pick (numbers_to m))
  in_order pick zero xs counts picks = subst (λ l. IsPermutation l []) (sym (empty xs counts)) (IsPermutation-refl [])
  in_order pick (suc m) xs counts picks =
      let c = counts m in
      let one = times_below m (suc m) (omega arith) in
      let s = split_at xs m (omega (arith, c, one)) in
      let ys : List X = s.before ++ s.after in
      let whole : Each (λ (x : X). pick (key x) ≡ x) (s.before ++ s.element ∷ s.after) = subst (Each (λ (x : X). pick (key x) ≡ x)) s.is picks in
      let right : Each (λ (x : X). pick (key x) ≡ x) (s.element ∷ s.after) = each_right (λ (x : X). pick (key x) ≡ x) s.before (s.element ∷ s.after) whole in
      let rest : Each (λ (x : X). pick (key x) ≡ x) ys =
      each_append (λ (x : X). pick (key x) ≡ x) s.before s.after (each_left (λ (x : X). pick (key x) ≡ x) s.before (s.element ∷ s.after) whole) right.1 in
      let fewer : (n : ℕ) → count n ys ≡ times n (numbers_to m) =
      λ n. let a = counts n in let b = times_more n m in
      let split : count n xs ≡ count n s.before + count n (s.element ∷ s.after) = ap (count n) s.is ∙ count_append n s.before (s.element ∷ s.after) in
      let cons = count_cons n s.element s.after in
      let both = count_append n s.before s.after in
      let same : as_one (key s.element == n) ≡ as_one (m == n) = ap (λ k. as_one (k == n)) s.keyed in
      omega (arith, a, b, split, cons, both, same) in
      let ih = in_order pick m ys fewer rest in
      let last : pick m ≡ s.element = ap pick (sym s.keyed) ∙ right.0 in
      let target : map pick (numbers_to m) ++ s.element ∷ [] ≡ map pick (numbers_to (suc m)) =
      ap (λ x. map pick (numbers_to m) ++ x ∷ []) (sym last) ∙ sym (map-append pick (numbers_to m) (m ∷ [])) in
      let first : IsPermutation xs (s.element ∷ ys) = subst (λ l. IsPermutation l (s.element ∷ ys)) (sym s.is) (IsPermutation-middle s.before s.element s.after) in
      let turned : IsPermutation (s.element ∷ ys) (ys ++ s.element ∷ []) = IsPermutation-append_comm (s.element ∷ []) ys in
      let moved : IsPermutation (ys ++ s.element ∷ []) (map pick (numbers_to m) ++ s.element ∷ []) =
      IsPermutation-append_left (s.element ∷ []) ys (map pick (numbers_to m)) ih in
      subst (λ l. IsPermutation xs l) target
      (IsPermutation-trans xs (s.element ∷ ys) (map pick (numbers_to m) ++ s.element ∷ []) first
      (IsPermutation-trans (s.element ∷ ys) (ys ++ s.element ∷ []) (map pick (numbers_to m) ++ s.element ∷ []) turned moved))
