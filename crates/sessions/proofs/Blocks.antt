-- Blocks of digits.
use Rattle.std.proofs.Common.{◌≡◌, ℕ, ◌+◌, ◌*◌, ◌<◌, ◌≤◌, List, length, take, drop, slice_index, slice_set, Option, Some, None, Ok, inl, inr, refl, sym, ap, subst, ◌∙◌, arith}
use Rattle.std.proofs.lemmas.Bool.{cases_lt}
use Rattle.std.proofs.lemmas.List.{get_or-set_same, get_or-set_other, get_or-take, get_or-drop}
use Rattle.hex.specs.Hex.{decode_pairs, hex_digit_value, pair_value}
use Rattle.hex.proofs.Pairs.{prepend, decode_step}
use Rattle.sessions.specs.Hexadecimal.{AreValuesOf, coded, coded_digit}

-- the value of one digit more
pub one_more : (values text : List ℕ) (i v most now : ℕ) → i < length values → v ≡ coded_digit (slice_index text i) → most ≤ now → v ≤ now → ((j : ℕ) → j < i → (slice_index values j ≡ coded_digit (slice_index text j)) × (slice_index values j ≤ most)) → (j : ℕ) → j < i + 1 → (slice_index (slice_set values i v) j ≡ coded_digit (slice_index text j)) × (slice_index (slice_set values i v) j ≤ now)
one_more values text i v most now within is old new before j below =
    elim (cases_lt j i) [
      | inl less ↦
          let same : slice_index (slice_set values i v) j ≡ slice_index values j = get_or-set_other values i j v 0 (λ e. omega arith) in
          let was = before j less in
          (same ∙ was.0, omega (arith, same, was.1))
      | inr top ↦
          let e : j ≡ i = omega arith in
          let here : slice_index (slice_set values i v) i ≡ v = get_or-set_same values i v 0 within in
          rw e (here ∙ is, omega (arith, here))
    ]

coded_small : (o : Option ℕ) (x : ℕ) → x ≡ coded o → x ≤ 15 → o ≡ Some x
coded_small (Some y) x is small = ap Some (sym is)
coded_small None x is small = absurd (omega (arith, is, small))

-- two digits by their values
pub pair_reads : (a b i x y : ℕ) → x ≡ coded_digit a → y ≡ coded_digit b → x ≤ 15 → y ≤ 15 → pair_value a b i ≡ Ok (x * 16 + y)
pair_reads a b i x y high low high_small low_small =
    rw (coded_small (hex_digit_value a) x high high_small, coded_small (hex_digit_value b) y low low_small) refl

-- one byte more of a block
pub joined_step : (s out values : List ℕ) (n done i : ℕ) → i < 32 → n ≡ 64 → AreValuesOf (take n (drop (2 * done) s)) values → 2 * (done + i) + 1 < length s → done + i < length out → decode_pairs 0 s ≡ prepend (take (done + i) out) (decode_pairs (2 * (done + i)) (drop (2 * (done + i)) s)) → decode_pairs 0 s ≡ prepend (take (done + (i + 1)) (slice_set out (done + i) (slice_index values (2 * i) * 16 + slice_index values (2 * i + 1)))) (decode_pairs (2 * (done + (i + 1))) (drop (2 * (done + (i + 1))) s))
joined_step s out values n done i within whole are inside room before =
    let first : slice_index (take n (drop (2 * done) s)) (2 * i) ≡ slice_index s (2 * done + 2 * i) = get_or-take n (drop (2 * done) s) (2 * i) 0 (omega arith) ∙ get_or-drop (2 * done) s (2 * i) 0 in
    let second : slice_index (take n (drop (2 * done) s)) (2 * i + 1) ≡ slice_index s (2 * done + (2 * i + 1)) = get_or-take n (drop (2 * done) s) (2 * i + 1) 0 (omega arith) ∙ get_or-drop (2 * done) s (2 * i + 1) 0 in
    let at : 2 * done + 2 * i ≡ 2 * (done + i) = omega arith in
    let behind : 2 * done + (2 * i + 1) ≡ 2 * (done + i) + 1 = omega arith in
    let next : done + i + 1 ≡ done + (i + 1) = omega arith in
    let high = are (2 * i) (omega arith) in
    let low = are (2 * i + 1) (omega arith) in
    let reads = pair_reads (slice_index s (2 * (done + i))) (slice_index s (2 * (done + i) + 1)) (2 * (done + i)) (slice_index values (2 * i)) (slice_index values (2 * i + 1)) (high.0 ∙ ap coded_digit (first ∙ ap (slice_index s) at)) (low.0 ∙ ap coded_digit (second ∙ ap (slice_index s) behind)) high.1 low.1 in
    subst (λ (k : ℕ). decode_pairs 0 s ≡ prepend (take k (slice_set out (done + i) (slice_index values (2 * i) * 16 + slice_index values (2 * i + 1)))) (decode_pairs (2 * k) (drop (2 * k) s))) next (decode_step s out (done + i) (slice_index values (2 * i) * 16 + slice_index values (2 * i + 1)) inside room reads before)
