-- Values one behind the other are read back one by one.
use Rattle.std.proofs.Common.{◌≡◌, ◌≤◌, ◌<◌, ◌^◌, ◌-◌, ℕ, List, [], ◌∷◌, ◌++◌, drop, length, Result, Err, sym, ap, subst, ◌∙◌, arith, append_assoc}
use Rattle.std.specs.Prelude.{IsErrOf}
use Rattle.std.proofs.lemmas.List.{append-nil, length-append}
use Rattle.std.specs.Int.{w64, to_le_bytes}
use Rattle.desk_journal.specs.CodecLemmas.{OneRest, count_within, same_count}
use Rattle.desk_journal.specs.Encodings.{bytes_of_all, list_bytes}

pub bytes_pushed : {X : Type 0} (bytes : X → List ℕ) (xs : List X) (x : X) → bytes_of_all bytes (xs ++ x ∷ []) ≡ bytes_of_all bytes xs ++ bytes x
bytes_pushed bytes [] x = append-nil (bytes x)
bytes_pushed bytes (y ∷ xs) x = ap (λ l. bytes y ++ l) (bytes_pushed bytes xs x) ∙ sym (append_assoc (bytes y) (bytes_of_all bytes xs) (bytes x))

-- so many values stand at the front, and more behind them
pub record Starts {X : Type 0} (bytes : X → List ℕ) (left : ℕ) (input more : List ℕ) : Type 0 where
  pub values : List X
  pub count : length values ≡ left
  pub is : input ≡ bytes_of_all bytes values ++ more

-- behind the first one stand the others
pub starts_on : {X : Type 0} (bytes : X → List ℕ) → OneRest bytes → (left : ℕ) (v : X) (input rest more : List ℕ) → length input < 2 ^ 64 → 0 < left → input ≡ bytes v ++ rest → Starts bytes left input more → Starts bytes (left - 1) rest more
starts_on {X} bytes one_rest left v input rest more small some is t = by t.values t.count t.is
  where
    by : (values : List X) → length values ≡ left → input ≡ bytes_of_all bytes values ++ more → Starts bytes (left - 1) rest more
    by [] count there = absurd (omega arith)
    by (w ∷ values) count there = record {
      values = values;
      count = omega arith;
      is = one_rest v w rest (bytes_of_all bytes values ++ more) (subst (λ l. length l < 2 ^ 64) is small) (sym is ∙ (there ∙ append_assoc (bytes w) (bytes_of_all bytes values) more));
    }

-- where no value stands at the front, no list does
pub no_start : {X : Type 0} (bytes : X → List ℕ) (left : ℕ) (input more : List ℕ) → 0 < left → ((v : X) (rest : List ℕ) → input ≡ bytes v ++ rest → ⊥) → Starts bytes left input more → ⊥
no_start {X} bytes left input more some none t = by t.values t.count t.is
  where
    by : (values : List X) → length values ≡ left → input ≡ bytes_of_all bytes values ++ more → ⊥
    by [] count there = absurd (omega arith)
    by (w ∷ values) count there = none w (bytes_of_all bytes values ++ more) (there ∙ append_assoc (bytes w) (bytes_of_all bytes values) more)

-- ---- an error that is handed on

failed : {T F : Type 0} (x y : F) → x ≡ y → IsErrOf {T = T} (Err x) y
failed {T} x y same = ap (λ f. Err f) same

-- what `?` hands on is what was answered
pub same_fault : {T U F : Type 0} (r : Result T F) (x y fault : F) → r ≡ Err x → x ≡ y → IsErrOf r fault → IsErrOf {T = U} (Err y) fault
same_fault {T} {U} {F} r x y fault e same is =
    let at = sym e ∙ is in
    let is_fault : x ≡ fault = cc in
    failed y fault (sym same ∙ is_fault)

-- ---- the number at the front

-- the values of a list that stands at the front, behind their number
pub list_starts : {X : Type 0} (bytes : X → List ℕ) → ((v : X) → 1 ≤ length (bytes v)) → (input : List ℕ) (count start : ℕ) (values : List X) (more : List ℕ) → length input < 2 ^ 64 → count < 2 ^ 64
    → input ≡ to_le_bytes w64 count ++ drop start input → input ≡ list_bytes bytes values ++ more → Starts bytes count (drop start input) more
list_starts bytes there input count start values more small few a b =
    let split : input ≡ to_le_bytes w64 (length values) ++ (bytes_of_all bytes values ++ more) = b ∙ append_assoc (to_le_bytes w64 (length values)) (bytes_of_all bytes values) more in
    let whole = ap length split in
    let within = count_within bytes there values in
    let t = same_count count (length values) (drop start input) (bytes_of_all bytes values ++ more) few
    (omega (arith, whole, within, small, length-append (to_le_bytes w64 (length values)) (bytes_of_all bytes values ++ more), length-append (bytes_of_all bytes values) more)) (sym a ∙ split) in
    record { values = values; count = sym t.0; is = t.1 }

-- ---- pieces, one behind the other

pub joined_four : (out a b c d : List ℕ) → (((out ++ a) ++ b) ++ c) ++ d ≡ out ++ (a ++ (b ++ (c ++ d)))
joined_four out a b c d = append_assoc ((out ++ a) ++ b) c d ∙ (append_assoc (out ++ a) b (c ++ d) ∙ append_assoc out a (b ++ (c ++ d)))

pub joined_three : (out a b c : List ℕ) → ((out ++ a) ++ b) ++ c ≡ out ++ (a ++ (b ++ c))
joined_three out a b c = append_assoc (out ++ a) b c ∙ append_assoc out a (b ++ c)
