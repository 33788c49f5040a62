-- Places of a list that is longer by one, changed at one place, or changed at its front.
use Rattle.std.proofs.Common.{◌≡◌, ◌≢◌, ◌⊎◌, ◌+◌, ◌<◌, ◌≤◌, ℕ, zero, suc, List, [], ◌∷◌, ◌++◌, length, replicate, slice_get, slice_set, Some, None, refl, ap, inl, inr, arith}

some_same : {X : Type 0} (x y : X) → Some x ≡ Some y → x ≡ y
some_same x y same = cc

pub length_pushed : {X : Type 0} (xs : List X) (x : X) → length (xs ++ x ∷ []) ≡ length xs + 1
length_pushed [] x = refl
length_pushed (y ∷ xs) x = let later = length_pushed xs x in omega (arith, later)

pub get_before : {X : Type 0} (xs ys : List X) (i : ℕ) (y : X) → slice_get xs i ≡ Some y → slice_get (xs ++ ys) i ≡ Some y
get_before [] ys i y at = cc
get_before (x ∷ xs) ys zero y at = at
get_before (x ∷ xs) ys (suc i) y at = get_before xs ys i y at

pub get_set : {X : Type 0} (xs : List X) (i : ℕ) (x : X) (j : ℕ) (y : X) → slice_get (slice_set xs i x) j ≡ Some y → ((j ≡ i) × (x ≡ y)) ⊎ ((j ≢ i) × (slice_get xs j ≡ Some y))
get_set [] i x j y at = cc
get_set (z ∷ xs) zero x zero y at = inl (refl, some_same x y at)
get_set (z ∷ xs) zero x (suc j) y at = inr ((λ same. absurd (omega (arith, same))), at)
get_set (z ∷ xs) (suc i) x zero y at = inr ((λ same. absurd (omega (arith, same))), at)
get_set (z ∷ xs) (suc i) x (suc j) y at = later (get_set xs i x j y at)
  where
    later : ((j ≡ i) × (x ≡ y)) ⊎ ((j ≢ i) × (slice_get xs j ≡ Some y)) → ((suc j ≡ suc i) × (x ≡ y)) ⊎ ((suc j ≢ suc i) × (slice_get xs j ≡ Some y))
    later (inl t) = inl (ap suc t.0, t.1)
    later (inr t) = inr ((λ same. t.0 (omega (arith, same))), t.1)

pub get_joined : {X : Type 0} (xs ys : List X) (i : ℕ) (y : X) → slice_get (xs ++ ys) i ≡ Some y → ((i < length xs) × (slice_get xs i ≡ Some y)) ⊎ ((j : ℕ) × (i ≡ length xs + j) × (slice_get ys j ≡ Some y))
get_joined [] ys i y at = inr (i, omega arith, at)
get_joined (x ∷ xs) ys zero y at = inl (omega arith, at)
get_joined (x ∷ xs) ys (suc i) y at = later (get_joined xs ys i y at)
  where
    later : ((i < length xs) × (slice_get xs i ≡ Some y)) ⊎ ((j : ℕ) × (i ≡ length xs + j) × (slice_get ys j ≡ Some y)) → ((suc i < length (x ∷ xs)) × (slice_get xs i ≡ Some y)) ⊎ ((j : ℕ) × (suc i ≡ length (x ∷ xs) + j) × (slice_get ys j ≡ Some y))
    later (inl t) = inl (let lt = t.0 in omega (arith, lt), t.1)
    later (inr t) = inr (t.0, let is = t.1 in omega (arith, is), t.2)

pub get_behind : {X : Type 0} (xs ys : List X) (n i : ℕ) → i ≡ length xs + n → slice_get (xs ++ ys) i ≡ slice_get ys n
get_behind [] ys n i is = ap (slice_get ys) (omega (arith, is))
get_behind (x ∷ xs) ys n zero is = absurd (omega (arith, is))
get_behind (x ∷ xs) ys n (suc i) is = get_behind xs ys n i (omega (arith, is))

pub get_same : {X : Type 0} (k : ℕ) (x : X) (i : ℕ) (y : X) → slice_get (replicate k x) i ≡ Some y → (i < k) × (x ≡ y)
get_same zero x i y at = cc
get_same (suc k) x zero y at = (omega arith, some_same x y at)
get_same (suc k) x (suc i) y at = let later = get_same k x i y at in (let lt = later.0 in omega (arith, lt), later.1)

pub length_same : {X : Type 0} (k : ℕ) (x : X) → length (replicate k x) ≡ k
length_same zero x = refl
length_same (suc k) x = let later = length_same k x in omega (arith, later)

pub length_joined : {X : Type 0} (xs ys : List X) → length (xs ++ ys) ≡ length xs + length ys
length_joined [] ys = omega arith
length_joined (x ∷ xs) ys = let later = length_joined xs ys in omega (arith, later)

-- each place of a list within its length has an element, and none past it has
pub get_within : {X : Type 0} (xs : List X) (i : ℕ) → i < length xs → (x : X) × (slice_get xs i ≡ Some x)
get_within [] i lt = absurd (omega (arith, lt))
get_within (x ∷ xs) zero lt = (x, refl)
get_within (x ∷ xs) (suc i) lt = get_within xs i (omega (arith, lt))

pub get_past : {X : Type 0} (xs : List X) (i : ℕ) → length xs ≤ i → slice_get xs i ≡ None
get_past [] i le = refl
get_past (x ∷ xs) zero le = absurd (omega (arith, le))
get_past (x ∷ xs) (suc i) le = get_past xs i (omega (arith, le))

pub within_get : {X : Type 0} (xs : List X) (i : ℕ) (x : X) → slice_get xs i ≡ Some x → i < length xs
within_get [] i x at = cc
within_get (y ∷ xs) zero x at = omega arith
within_get (y ∷ xs) (suc i) x at = let later = within_get xs i x at in omega (arith, later)

-- ---- a list by its last element

pub last_same : {X : Type 0} (xs ys : List X) (x y : X) → xs ++ x ∷ [] ≡ ys ++ y ∷ [] → (xs ≡ ys) × (x ≡ y)
last_same [] [] x y same = (refl, cc)
last_same [] (b ∷ []) x y same = cc
last_same [] (b ∷ c ∷ ys) x y same = cc
last_same (a ∷ []) [] x y same = cc
last_same (a ∷ c ∷ xs) [] x y same = cc
last_same (a ∷ xs) (b ∷ ys) x y same =
    let first : a ≡ b = cc in
    let tails : xs ++ x ∷ [] ≡ ys ++ y ∷ [] = cc in
    let later = last_same xs ys x y tails in
    let rest : xs ≡ ys = later.0 in
    (cc, later.1)

-- a list that isn't empty has a last element
pub last_of : {X : Type 0} (x : X) (xs : List X) → (front : List X) × (last : X) × (x ∷ xs ≡ front ++ last ∷ [])
last_of x [] = ([], x, refl)
last_of x (y ∷ xs) = let later = last_of y xs in (x ∷ later.0, later.1, ap (λ l. x ∷ l) later.2)

pub none_pushed : {X : Type 0} (xs ys : List X) (x : X) → [] ≡ xs ++ x ∷ ys → ⊥
none_pushed [] ys x same = cc
none_pushed (y ∷ xs) ys x same = cc

pub joined_again : {X : Type 0} (xs : List X) (x : X) (ys zs : List X) → (xs ++ x ∷ ys) ++ zs ≡ xs ++ x ∷ (ys ++ zs)
joined_again [] x ys zs = refl
joined_again (y ∷ xs) x ys zs = ap (λ l. y ∷ l) (joined_again xs x ys zs)
