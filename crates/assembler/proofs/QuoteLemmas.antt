-- What a refusal quotes, and that a part of a text is a text.
use Rattle.std.proofs.Common.{◌≡◌, ◌<◌, inl, inr, ℕ, suc, ◌+◌, Bool, true, false, List, [], ◌∷◌, ◌++◌, length, get_or, take, drop, reverse, refl, ap, sym, subst, ◌∙◌, append_assoc, Some, None, arith}
use Rattle.std.specs.Prelude.{◌==◌, ◌||◌, ◌⊎◌, if◌then◌else◌}
use Rattle.std.specs.List.{slice_split}
use Rattle.std.specs.Str.{IsUtf8}
use Rattle.std.proofs.lemmas.Bool.{eqb-true}
use Rattle.std.proofs.lemmas.List.{append-nil, reverse-append, reverse-reverse}
use Rattle.std.proofs.lemmas.Str.{IsUtf8-nil, IsUtf8-take, IsUtf8-drop, IsCharBoundary-before_ascii, IsCharBoundary-after_ascii}
use Rattle.disassembler.specs.Cut.{IsFree, StopsAtOnce}
use Rattle.assembler.specs.Source.{code_part, is_blank, without_blanks, stripped, is_line_feed, numbered}
use Rattle.assembler.specs.Quoted.{word_part, operands_part, line_numbered}
use Rattle.assembler.proofs.SourceLines.{eqb_not, left_of, cut_at}

-- ---- cuts at the first space

word_front : (front tail : List ℕ) → IsFree 32 32 front → StopsAtOnce 32 32 tail → word_part (front ++ tail) ≡ front
word_front [] [] f b = refl
word_front [] (c ∷ cs) f (inl b) = rw b refl
word_front [] (c ∷ cs) f (inr b) = rw b refl
word_front (x ∷ front) tail f b = rw (eqb_not x 32 f.0) (ap (λ (l : List ℕ). x ∷ l) (word_front front tail f.2 b))

pub word_is : (line front tail : List ℕ) → line ≡ front ++ tail → IsFree 32 32 front → StopsAtOnce 32 32 tail → front ≡ word_part line
word_is line front tail e f b = sym (ap word_part e ∙ word_front front tail f b)

operands_back : (front tail : List ℕ) → IsFree 32 32 front → StopsAtOnce 32 32 tail → operands_part (front ++ tail) ≡ drop 1 tail
operands_back [] [] f b = refl
operands_back [] (c ∷ cs) f (inl b) = rw b refl
operands_back [] (c ∷ cs) f (inr b) = rw b refl
operands_back (x ∷ front) tail f b = rw (eqb_not x 32 f.0) (operands_back front tail f.2 b)

pub operands_are : (line front tail : List ℕ) → line ≡ front ++ tail → IsFree 32 32 front → StopsAtOnce 32 32 tail → drop 1 tail ≡ operands_part line
operands_are line front tail e f b = sym (ap operands_part e ∙ operands_back front tail f b)

pub drop_none : (tail : List ℕ) → true ≡ (length tail == 0) → tail ≡ drop 1 tail
drop_none [] e = refl
drop_none (c ∷ cs) e = let k = eqb-true (length (c ∷ cs)) 0 (sym e) in absurd (omega arith)

-- ---- the line of a number

by_test : (b : Bool) (n m : ℕ) (text : List ℕ) (lines : List (ℕ × List ℕ)) → (m ≡ n → ⊥) → line_numbered n (if◌then◌else◌ {A = List (ℕ × List ℕ)} b lines ((m, text) ∷ lines)) ≡ line_numbered n lines
by_test true n m text lines apart = refl
by_test false n m text lines apart = rw (eqb_not m n apart) refl

another : (n m : ℕ) (line : List ℕ) (left : List (List ℕ)) → (m ≡ n → ⊥) → line_numbered n (numbered m (line ∷ left)) ≡ line_numbered n (numbered (m + 1) left)
another n m line left apart = by_test (length (stripped line) == 0) n m (stripped line) (numbered (m + 1) left) apart

later : (n m : ℕ) (left : List (List ℕ)) → n < m → line_numbered n (numbered m left) ≡ None
later n m [] lt = refl
later n m (line ∷ left) lt = another n m line left (λ e. absurd (omega arith)) ∙ later n (m + 1) left (omega arith)

eqb_same : (n : ℕ) → (n == n) ≡ true
eqb_same n = go (n == n) refl
  where
    go : (q : Bool) → (n == n) ≡ q → (n == n) ≡ true
    go true e = e
    go false e = grind (arith, e)

module _ (rest line tail : List ℕ) (whole : rest ≡ line ++ tail) (front : IsFree 10 10 line) (back : StopsAtOnce 10 10 tail) where
  cut : (m : ℕ) → numbered m (slice_split is_line_feed rest) ≡ numbered m (line ∷ left_of tail)
  cut m = ap (numbered m) (ap (slice_split is_line_feed) whole ∙ cut_at line tail front back)

  none_at : (n : ℕ) → true ≡ (length (stripped line) == 0) → line_numbered n (numbered n (slice_split is_line_feed rest)) ≡ None
  none_at n e =
      let blank : numbered n (line ∷ left_of tail) ≡ numbered (n + 1) (left_of tail) = rw (sym e) refl in
      ap (line_numbered n) (cut n ∙ blank) ∙ later n (n + 1) (left_of tail) (omega arith)

  some_at : (n : ℕ) → false ≡ (length (stripped line) == 0) → line_numbered n (numbered n (slice_split is_line_feed rest)) ≡ Some (stripped line)
  some_at n e =
      let one : numbered n (line ∷ left_of tail) ≡ (n, stripped line) ∷ numbered (n + 1) (left_of tail) = rw (sym e) refl in
      let found : line_numbered n ((n, stripped line) ∷ numbered (n + 1) (left_of tail)) ≡ Some (stripped line) = rw (eqb_same n) refl in
      ap (line_numbered n) (cut n ∙ one) ∙ found

  pub here_none : (n m : ℕ) → m ≡ n → true ≡ (length (stripped line) == 0) → line_numbered n (numbered m (slice_split is_line_feed rest)) ≡ None
  here_none n m same e = subst (λ (k : ℕ). line_numbered k (numbered m (slice_split is_line_feed rest)) ≡ None) same (none_at m e)

  pub here_some : (n m : ℕ) → m ≡ n → false ≡ (length (stripped line) == 0) → line_numbered n (numbered m (slice_split is_line_feed rest)) ≡ Some (stripped line)
  here_some n m same e = subst (λ (k : ℕ). line_numbered k (numbered m (slice_split is_line_feed rest)) ≡ Some (stripped line)) same (some_at m e)

  pub elsewhere : (n m : ℕ) → (m ≡ n → ⊥) → line_numbered n (numbered m (slice_split is_line_feed rest)) ≡ line_numbered n (numbered (m + 1) (left_of tail))
  elsewhere n m apart = ap (line_numbered n) (cut m) ∙ another n m line (left_of tail) apart

-- ---- parts of texts

at_length : (front tail : List ℕ) (c : ℕ) → get_or (front ++ c ∷ tail) (length front) 0 ≡ c
at_length [] tail c = refl
at_length (x ∷ front) tail c = at_length front tail c

taken : (front tail : List ℕ) (c : ℕ) → take (length front) (front ++ c ∷ tail) ≡ front
taken [] tail c = refl
taken (x ∷ front) tail c = ap (λ (l : List ℕ). x ∷ l) (taken front tail c)

dropped : (front tail : List ℕ) (c : ℕ) → drop (length front + 1) (front ++ c ∷ tail) ≡ tail
dropped [] tail c = refl
dropped (x ∷ front) tail c = let one : length (x ∷ front) + 1 ≡ suc (length front + 1) = omega arith in rw one (dropped front tail c)

within : (front tail : List ℕ) (c : ℕ) → length front < length (front ++ c ∷ tail)
within [] tail c = omega arith
within (x ∷ front) tail c = let less = within front tail c in omega arith

-- what stands on either side of a byte of ASCII
beside : (front tail : List ℕ) (c : ℕ) → c < 128 → IsUtf8 (front ++ c ∷ tail) → IsUtf8 front × IsUtf8 tail
beside front tail c small u =
    let at = at_length front tail c in
    let low : get_or (front ++ c ∷ tail) (length front) 0 < 128 = rw at small in
    let less = within front tail c in (
      subst IsUtf8 (taken front tail c) (IsUtf8-take (front ++ c ∷ tail) (length front) u (IsCharBoundary-before_ascii (front ++ c ∷ tail) (length front) less low)),
      subst IsUtf8 (dropped front tail c) (IsUtf8-drop (front ++ c ∷ tail) (length front + 1) u (IsCharBoundary-after_ascii (front ++ c ∷ tail) (length front) u less low)),
    )

pub cut_texts : (stop : ℕ) (bs front tail : List ℕ) → stop < 128 → bs ≡ front ++ tail → StopsAtOnce stop stop tail → IsUtf8 bs → IsUtf8 front × IsUtf8 (drop 1 tail)
cut_texts stop bs front [] small e b u = (subst IsUtf8 (e ∙ append-nil front) u, IsUtf8-nil)
cut_texts stop bs front (c ∷ tail) small e (inl b) u = beside front tail c (rw b small) (subst IsUtf8 e u)
cut_texts stop bs front (c ∷ tail) small e (inr b) u = beside front tail c (rw b small) (subst IsUtf8 e u)

choose : (P : List ℕ → Type 0) (b : Bool) (x y : List ℕ) → (b ≡ true → P x) → (b ≡ false → P y) → P (if◌then◌else◌ {A = List ℕ} b x y)
choose P true x y f g = f refl
choose P false x y f g = g refl

code_text : (done line : List ℕ) → IsUtf8 (done ++ line) → IsUtf8 (done ++ code_part line)
code_text done [] u = u
code_text done (c ∷ cs) u = choose (λ (l : List ℕ). IsUtf8 (done ++ l)) (c == 59) [] (c ∷ code_part cs)
    (λ e. subst IsUtf8 (sym (append-nil done)) (beside done cs c (let is = eqb-true c 59 e in omega arith) u).0)
    (λ e. subst IsUtf8 (append_assoc done (c ∷ []) (code_part cs)) (code_text (done ++ c ∷ []) cs (subst IsUtf8 (sym (append_assoc done (c ∷ []) cs)) u)))

either : (a b : Bool) → (a || b) ≡ true → (a ≡ true) ⊎ (b ≡ true)
either true b e = inl refl
either false b e = inr e

blank_small : (c : ℕ) → is_blank c ≡ true → c < 128
blank_small c e = first (either (c == 32) (c == 9 || c == 13) e)
  where
    second : ((c == 9) ≡ true) ⊎ ((c == 13) ≡ true) → c < 128
    second (inl is) = let same = eqb-true c 9 is in omega arith
    second (inr is) = let same = eqb-true c 13 is in omega arith

    first : ((c == 32) ≡ true) ⊎ ((c == 9 || c == 13) ≡ true) → c < 128
    first (inl is) = let same = eqb-true c 32 is in omega arith
    first (inr is) = second (either (c == 9) (c == 13) is)

front_text : (ts : List ℕ) → IsUtf8 ts → IsUtf8 (without_blanks ts)
front_text [] u = u
front_text (c ∷ cs) u = choose IsUtf8 (is_blank c) (without_blanks cs) (c ∷ cs) (λ e. front_text cs (beside [] cs c (blank_small c e) u).1) (λ e. u)

back_text : (ts : List ℕ) → IsUtf8 (reverse ts) → IsUtf8 (reverse (without_blanks ts))
back_text [] u = u
back_text (c ∷ cs) u = choose (λ (l : List ℕ). IsUtf8 (reverse l)) (is_blank c) (without_blanks cs) (c ∷ cs)
    (λ e. back_text cs (beside (reverse cs) [] c (blank_small c e) (subst IsUtf8 (reverse-append (c ∷ []) cs) u)).0)
    (λ e. u)

pub stripped_text : (line : List ℕ) → IsUtf8 line → IsUtf8 (stripped line)
stripped_text line u =
    let front = front_text (code_part line) (code_text [] line u) in
    back_text (reverse (without_blanks (code_part line))) (subst IsUtf8 (sym (reverse-reverse (without_blanks (code_part line)))) front)
