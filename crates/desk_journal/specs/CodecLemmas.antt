-- What stands behind a value's bytes is told by all bytes alone.
use Rattle.std.proofs.Common.{◌≡◌, ◌≤◌, ◌<◌, ◌^◌, ◌+◌, ℕ, List, [], ◌∷◌, ◌++◌, drop, take, length, refl, sym, ap, subst, ◌∙◌, arith, append_assoc, lit≤}
use Rattle.std.proofs.lemmas.List.{length-append, drop_at}
use Rattle.std.proofs.lemmas.Nat.{from_le_bytes-to_le_bytes_8}
use Rattle.std.specs.Int.{w64, to_le_bytes, from_le_bytes}
use Rattle.desk_journal.specs.Encodings.{bytes_of_all, counted_bytes, list_bytes}

abbrev pub OneRest : {X : Type 0} → (X → List ℕ) → Type 0
OneRest {X} bytes = (v w : X) (r s : List ℕ) → length (bytes v ++ r) < 2 ^ 64 → bytes v ++ r ≡ bytes w ++ s → r ≡ s

-- ---- numbers at the front

-- one number at the front of the same bytes
pub same_count : (m n : ℕ) (r s : List ℕ) → m < 2 ^ 64 → n < 2 ^ 64 → to_le_bytes w64 m ++ r ≡ to_le_bytes w64 n ++ s → (m ≡ n) × (r ≡ s)
same_count m n r s small_m small_n same =
    let number : m ≡ n = sym (from_le_bytes-to_le_bytes_8 m small_m) ∙ (ap (λ l. from_le_bytes w64 (take 8 l)) same ∙ from_le_bytes-to_le_bytes_8 n small_n) in
    (number, ap (drop 8) same)

-- ---- bytes behind their number

pub counted_there : (bytes : List ℕ) → 1 ≤ length (counted_bytes bytes)
counted_there bytes = omega (arith, length-append (to_le_bytes w64 (length bytes)) bytes)

counted_length : (bytes more : List ℕ) → length (counted_bytes bytes ++ more) ≡ 8 + length bytes + length more
counted_length bytes more = omega (arith, length-append (counted_bytes bytes) more, length-append (to_le_bytes w64 (length bytes)) bytes)

pub counted_rest : (v w r s : List ℕ) → length (counted_bytes v ++ r) < 2 ^ 64 → counted_bytes v ++ r ≡ counted_bytes w ++ s → r ≡ s
counted_rest v w r s small same =
    let whole = ap length same in
    let split : to_le_bytes w64 (length v) ++ (v ++ r) ≡ to_le_bytes w64 (length w) ++ (w ++ s) = sym (append_assoc (to_le_bytes w64 (length v)) v r) ∙ (same ∙ append_assoc (to_le_bytes w64 (length w)) w s) in
    let t = same_count (length v) (length w) (v ++ r) (w ++ s) (omega (arith, small, counted_length v r)) (omega (arith, small, whole, counted_length v r, counted_length w s)) split in
    sym (drop_at v r (length v) refl) ∙ (ap (drop (length v)) t.1 ∙ drop_at w s (length v) (sym t.0))

-- ---- lists

-- a list has no more values than bytes
pub count_within : {X : Type 0} (bytes : X → List ℕ) → ((v : X) → 1 ≤ length (bytes v)) → (xs : List X) → length xs ≤ length (bytes_of_all bytes xs)
count_within bytes there [] = lit≤ tt
count_within bytes there (x ∷ xs) = let one = there x in let more = count_within bytes there xs in omega (arith, one, more, length-append (bytes x) (bytes_of_all bytes xs))

pub list_there : {X : Type 0} (bytes : X → List ℕ) (xs : List X) → 1 ≤ length (list_bytes bytes xs)
list_there bytes xs = omega (arith, length-append (to_le_bytes w64 (length xs)) (bytes_of_all bytes xs))

-- behind as many values stands the same
all_rest : {X : Type 0} (bytes : X → List ℕ) → OneRest bytes → (vs ws : List X) (r s : List ℕ) → length vs ≡ length ws → length (bytes_of_all bytes vs ++ r) < 2 ^ 64 → bytes_of_all bytes vs ++ r ≡ bytes_of_all bytes ws ++ s → r ≡ s
all_rest bytes one_rest [] [] r s count small same = same
all_rest bytes one_rest [] (w ∷ ws) r s count small same = absurd (omega (arith, count))
all_rest bytes one_rest (v ∷ vs) [] r s count small same = absurd (omega (arith, count))
all_rest bytes one_rest (v ∷ vs) (w ∷ ws) r s count small same =
    let at = append_assoc (bytes v) (bytes_of_all bytes vs) r in
    let first : bytes_of_all bytes vs ++ r ≡ bytes_of_all bytes ws ++ s = one_rest v w (bytes_of_all bytes vs ++ r) (bytes_of_all bytes ws ++ s) (subst (λ l. length l < 2 ^ 64) at small) (sym at ∙ (same ∙ append_assoc (bytes w) (bytes_of_all bytes ws) s)) in
    all_rest bytes one_rest vs ws r s (omega (arith, count)) (omega (arith, small, ap length at, length-append (bytes v) (bytes_of_all bytes vs ++ r))) first

list_length : {X : Type 0} (bytes : X → List ℕ) (xs : List X) (more : List ℕ) → length (list_bytes bytes xs ++ more) ≡ 8 + length (bytes_of_all bytes xs ++ more)
list_length bytes xs more = omega (arith, length-append (list_bytes bytes xs) more, length-append (to_le_bytes w64 (length xs)) (bytes_of_all bytes xs), length-append (bytes_of_all bytes xs) more)

pub list_rest : {X : Type 0} (bytes : X → List ℕ) → ((v : X) → 1 ≤ length (bytes v)) → OneRest bytes → (vs ws : List X) (r s : List ℕ) → length (list_bytes bytes vs ++ r) < 2 ^ 64 → list_bytes bytes vs ++ r ≡ list_bytes bytes ws ++ s → r ≡ s
list_rest bytes there one_rest vs ws r s small same =
    let whole = ap length same in
    let split : to_le_bytes w64 (length vs) ++ (bytes_of_all bytes vs ++ r) ≡ to_le_bytes w64 (length ws) ++ (bytes_of_all bytes ws ++ s) =
    sym (append_assoc (to_le_bytes w64 (length vs)) (bytes_of_all bytes vs) r) ∙ (same ∙ append_assoc (to_le_bytes w64 (length ws)) (bytes_of_all bytes ws) s) in
    let few_v = count_within bytes there vs in
    let few_w = count_within bytes there ws in
    let t = same_count (length vs) (length ws) (bytes_of_all bytes vs ++ r) (bytes_of_all bytes ws ++ s)
    (omega (arith, small, few_v, list_length bytes vs r, length-append (bytes_of_all bytes vs) r))
    (omega (arith, small, whole, few_w, list_length bytes vs r, list_length bytes ws s, length-append (bytes_of_all bytes ws) s)) split in
    all_rest bytes one_rest vs ws r s t.0 (omega (arith, small, list_length bytes vs r)) t.1

-- ---- pairs

pub pair_there : {A B : Type 0} (a_bytes : A → List ℕ) (b_bytes : B → List ℕ) → ((v : A) → 1 ≤ length (a_bytes v)) → (a : A) (b : B) → 1 ≤ length (a_bytes a ++ b_bytes b)
pair_there a_bytes b_bytes there a b = let one = there a in omega (arith, one, length-append (a_bytes a) (b_bytes b))

pub pair_rest : {A B : Type 0} (a_bytes : A → List ℕ) (b_bytes : B → List ℕ) → OneRest a_bytes → OneRest b_bytes → (a : A) (b : B) (c : A) (d : B) (r s : List ℕ) → length ((a_bytes a ++ b_bytes b) ++ r) < 2 ^ 64
    → (a_bytes a ++ b_bytes b) ++ r ≡ (a_bytes c ++ b_bytes d) ++ s → r ≡ s
pair_rest a_bytes b_bytes a_rest b_rest a b c d r s small same =
    let at = append_assoc (a_bytes a) (b_bytes b) r in
    let behind : b_bytes b ++ r ≡ b_bytes d ++ s = a_rest a c (b_bytes b ++ r) (b_bytes d ++ s) (subst (λ l. length l < 2 ^ 64) at small) (sym at ∙ (same ∙ append_assoc (a_bytes c) (b_bytes d) s)) in
    b_rest b d r s (omega (arith, small, ap length at, length-append (a_bytes a) (b_bytes b ++ r))) behind
