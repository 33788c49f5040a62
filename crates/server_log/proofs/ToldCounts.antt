-- The counts of refusals, one after the other.
use Rattle.std.proofs.Common.{◌≡◌, ℕ, zero, suc, ◌+◌, ◌≤◌, ◌<◌, List, [], ◌∷◌, ◌++◌, length, take, ap, ◌∙◌, sym, refl, arith, slice_index}
use Rattle.std.proofs.lemmas.List.{append_assoc, append-nil}
use Rattle.sessions.specs.declared.server_totals.RefusalCount.{RefusalCount}
use Rattle.server_log.specs.Counting.{told_count, told_counts}

-- one more
counts_push : (code : ℕ) (counts : List ℕ) (count : ℕ) → told_counts code (counts ++ count ∷ []) ≡ told_counts code counts ++ told_count (code + length counts) count
counts_push code [] count =
    append-nil (told_count code count) ∙ ap (λ (k : ℕ). told_count k count) (let same : code ≡ code + 0 = omega arith in same)
counts_push code (first ∷ counts) count =
    ap (λ l. told_count code first ++ l)
    (counts_push (code + 1) counts count ∙ ap (λ (k : ℕ). told_counts (code + 1) counts ++ told_count k count) (let same : code + 1 + length counts ≡ code + suc (length counts) = omega arith in same))
    ∙ sym (append_assoc (told_count code first) (told_counts (code + 1) counts) (told_count (code + suc (length counts)) count))

take_next : (xs : List ℕ) (n : ℕ) → n < length xs → take (suc n) xs ≡ take n xs ++ slice_index xs n ∷ []
take_next [] n lt = absurd (omega (arith, lt))
take_next (x ∷ xs) zero lt = refl
take_next (x ∷ xs) (suc n) lt = ap (λ l. x ∷ l) (take_next xs n (omega (arith, lt)))

take_length_is : (xs : List ℕ) (n : ℕ) → n ≤ length xs → length (take n xs) ≡ n
take_length_is xs zero le = refl
take_length_is [] (suc n) le = absurd (omega (arith, le))
take_length_is (x ∷ xs) (suc n) le = ap suc (take_length_is xs n (omega (arith, le)))

-- the first so many counts, and the one behind them
pub counted_more : (counts : List ℕ) (n count : ℕ) (before after : List RefusalCount) → n < length counts → count ≡ slice_index counts n → before ≡ told_counts 0 (take n counts)
    → after ≡ before ++ told_count n count → after ≡ told_counts 0 (take (n + 1) counts)
counted_more counts n count before after lt is was more =
    more ∙ ap (λ l. l ++ told_count n count) was ∙ ap (λ (c : ℕ). told_counts 0 (take n counts) ++ told_count n c) is
    ∙ ap (λ (k : ℕ). told_counts 0 (take n counts) ++ told_count k (slice_index counts n)) (let same : n ≡ length (take n counts) = sym (take_length_is counts n (omega (arith, lt))) in same)
    ∙ ap (λ (k : ℕ). told_counts 0 (take n counts) ++ told_count k (slice_index counts n)) (let same : length (take n counts) ≡ 0 + length (take n counts) = omega arith in same)
    ∙ sym (counts_push 0 (take n counts) (slice_index counts n))
    ∙ sym (ap (told_counts 0) (take_next counts n lt))
    ∙ ap (λ (k : ℕ). told_counts 0 (take k counts)) (let same : suc n ≡ n + 1 = omega arith in same)
