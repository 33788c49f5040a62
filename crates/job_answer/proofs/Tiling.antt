-- What a task comes to tiles its range, so that the bytes that it left are the same in whatever order they are joined.
use Rattle.std.proofs.Common.{◌≡◌, ℕ, zero, suc, ◌<◌, ◌≤◌, ◌+◌, ◌-◌, ◌⊎◌, inl, inr, List, [], ◌∷◌, ◌++◌, get_or, length, length-append, take, drop, sum_by, refl, sym, ◌∙◌, arith, ap, subst, Bool, true, false, nat_lt}
use Rattle.std.specs.Prelude.{All, cond}
use Rattle.std.specs.List.Sorted.{IsPermutation}
use Rattle.std.proofs.lemmas.List.{length-take-le, length-replicate, get_or-replicate, get_or-take, get_or-drop, get_or_append_left, get_or-append-add, ext_get_or}
use Rattle.std.proofs.lemmas.List.Elements.{All-nil, All-cons, All-head, All-tail, All-append}
use Rattle.std.proofs.lemmas.List.Sums.{sum_by-append, sum_by-cons}
use Rattle.std.proofs.lemmas.List.Sorted.{All-permutation, sum_by-IsPermutation}
use Rattle.std.proofs.lemmas.Bool.Decides.{nat_tests}
use Rattle.machine_model.specs.Memory.{written}
use Rattle.machine_model.specs.Machine.{Program, Effect, Continues, Ends, Spawns, Calls, Traps, effect}
use Rattle.machine_model.specs.JobState.{Task, with_state, child_of, ending_of, entries_of}
use Rattle.machine_model.proofs.Ranges.{length-written}
use Rattle.machine_model.proofs.Splits.{Splits, splits_effect}
use Rattle.task_trees.specs.Eval.{Finished, Comes, EvalWithin, Eval, state_with, parent_of}
use Rattle.task_trees.specs.Answer.{joined_bytes}

-- a number where the first test fails and the second holds, and 0 elsewhere
abbrev pub if_within : Bool → Bool → ℕ → ℕ
if_within b c x = cond b 0 (cond c x 0)

-- 1 in the range, and 0 elsewhere
abbrev pub in_range : ℕ → ℕ → ℕ → ℕ
in_range low high at = if_within (nat_lt at low) (nat_lt at high) 1

below_by : (low high at : ℕ) (b : Bool) → nat_lt at low ≡ b → at < low → if_within b (nat_lt at high) 1 ≡ 0
below_by low high at true t lt = refl
below_by low high at false t lt = absurd (grind (arith, nat_tests))

range_below : (low high at : ℕ) → at < low → in_range low high at ≡ 0
range_below low high at lt = below_by low high at (nat_lt at low) refl lt

inside_by : (low high at : ℕ) (b c : Bool) → nat_lt at low ≡ b → nat_lt at high ≡ c → low ≤ at → at < high → if_within b c 1 ≡ 1
inside_by low high at true c t u le lt = absurd (grind (arith, nat_tests))
inside_by low high at false true t u le lt = refl
inside_by low high at false false t u le lt = absurd (grind (arith, nat_tests))

range_inside : (low high at : ℕ) → low ≤ at → at < high → in_range low high at ≡ 1
range_inside low high at le lt = inside_by low high at (nat_lt at low) (nat_lt at high) refl refl le lt

above_by : (low high at : ℕ) (b c : Bool) → nat_lt at high ≡ c → high ≤ at → if_within b c 1 ≡ 0
above_by low high at true c u le = refl
above_by low high at false true u le = absurd (grind (arith, nat_tests))
above_by low high at false false u le = refl

range_above : (low high at : ℕ) → high ≤ at → in_range low high at ≡ 0
range_above low high at le = above_by low high at (nat_lt at low) (nat_lt at high) refl le

abbrev Where : ℕ → ℕ → ℕ → Type 0
Where low high at = (at < low) ⊎ (((low ≤ at) × (at < high)) ⊎ (high ≤ at))

where_by : (low high at : ℕ) (b c : Bool) → nat_lt at low ≡ b → nat_lt at high ≡ c → Where low high at
where_by low high at true c t u = inl (grind (arith, nat_tests))
where_by low high at false true t u = inr (inl (grind (arith, nat_tests), grind (arith, nat_tests)))
where_by low high at false false t u = inr (inr (grind (arith, nat_tests)))

where_is : (low high at : ℕ) → Where low high at
where_is low high at = where_by low high at (nat_lt at low) (nat_lt at high) refl refl

-- two ranges side by side
side_by_side : (low middle high at : ℕ) → low ≤ middle → middle ≤ high → in_range middle high at + in_range low middle at ≡ in_range low high at
side_by_side low middle high at a b =
    elim (where_is low middle at) [
      | inl lt ↦ omega (arith, range_below low middle at lt, range_below low high at lt, range_below middle high at (omega (arith, lt, a)))
      | inr more ↦ elim more [
        | inl in_it ↦
            let le = in_it.0 in let lt = in_it.1 in
            omega (arith, range_inside low middle at le lt, range_inside low high at le (omega (arith, lt, b)), range_below middle high at lt)
        | inr past ↦ elim (where_is middle high at) [
          | inl lt ↦ absurd (omega (arith, past, lt))
          | inr here ↦ elim here [
            | inl in_it ↦
                let lt = in_it.1 in
                omega (arith, range_above low middle at past, range_inside middle high at past lt, range_inside low high at (omega (arith, past, a)) lt)
            | inr far ↦ omega (arith, range_above low middle at past, range_above middle high at far, range_above low high at far)
          ]
        ]
      ]
    ]

abbrev pub end_of : Finished → ℕ
end_of f = f.ending.base + length f.bytes

abbrev pub in_piece : ℕ → Finished → ℕ
in_piece at f = in_range f.ending.base (end_of f) at

-- in how many of these ranges the place is
abbrev pub owners : ℕ → List Finished → ℕ
owners at fs = sum_by (in_piece at) fs

-- these are within the range, and each place of it is in just one of them
pub record Tiles (low high : ℕ) (fs : List Finished) : Type 0 where
  pub inside : All (λ (f : Finished). end_of f ≤ high) fs
  pub owned : (at : ℕ) → owners at fs ≡ in_range low high at

weaker : (low high : ℕ) (fs : List Finished) → low ≤ high → All (λ (f : Finished). end_of f ≤ low) fs → All (λ (f : Finished). end_of f ≤ high) fs
weaker low high [] le all = All-nil (λ (f : Finished). end_of f ≤ high)
weaker low high (f ∷ fs) le all =
    let first = All-head (λ (x : Finished). end_of x ≤ low) f fs all in
    All-cons (λ (x : Finished). end_of x ≤ high) f fs (omega (arith, first, le)) (weaker low high fs le (All-tail (λ (x : Finished). end_of x ≤ low) f fs all))

module _ (programs : List Program) where
  tiles_effect : (n : ℕ) (t : Task) (bytes : List ℕ) (fs : List Finished) (e : Effect) → Splits bytes e →
      ((u : Task) (bs : List ℕ) (gs : List Finished) → EvalWithin programs n u bs gs → Tiles u.base (u.base + length bs) gs) →
      Comes (EvalWithin programs n) t fs e → Tiles t.base (t.base + length bytes) fs
  tiles_effect n t bytes fs (Continues next) splits ih c =
      subst (λ i. Tiles t.base (t.base + i) fs) splits (ih (with_state t next) next.part fs c)
  tiles_effect n t bytes fs (Ends r0 last) splits ih c =
      let f : Finished = record { ending = ending_of t last r0; bytes = last.part } in
      let long : length last.part ≡ length bytes = ap length splits in
      subst (λ l. Tiles t.base (t.base + length bytes) l) (sym c)
      (subst (λ i. Tiles t.base (t.base + i) (f ∷ [])) long (record {
        inside = All-cons (λ (x : Finished). end_of x ≤ t.base + length last.part) f [] (omega arith) (All-nil (λ (x : Finished). end_of x ≤ t.base + length last.part));
        owned = λ at. sum_by-cons (in_piece at) f [] ∙ omega arith;
      }))
  tiles_effect n t bytes fs (Spawns birth taken refused) splits ih c =
      let own = ih (parent_of t taken) taken.part c.0 c.2 in
      let child = ih (child_of t taken birth) birth.bytes c.1 c.3 in
      let middle : ℕ = t.base + length taken.part in
      let high : ℕ = middle + length birth.bytes in
      let long : length bytes ≡ length taken.part + length birth.bytes = ap length (sym splits.0) ∙ length-append taken.part birth.bytes in
      let whole : high ≡ t.base + length bytes = omega (arith, long) in
      subst (λ i. Tiles t.base i fs) whole (subst (λ l. Tiles t.base high l) (sym c.4) (record {
        inside = All-append (λ (x : Finished). end_of x ≤ high) c.1 c.0 child.inside (weaker middle high c.0 (omega arith) own.inside);
        owned = λ at. sum_by-append (in_piece at) c.1 c.0
            ∙ omega (arith, child.owned at, own.owned at, side_by_side t.base middle high at (omega arith) (omega arith));
      }))
  tiles_effect n t bytes fs (Calls helper arguments caller) splits ih c = absurd c
  tiles_effect n t bytes fs (Traps trap) splits ih c = absurd c

  tiles_within : (n : ℕ) (t : Task) (bytes : List ℕ) (fs : List Finished) → EvalWithin programs n t bytes fs → Tiles t.base (t.base + length bytes) fs
  tiles_within zero t bytes fs c = absurd c
  tiles_within (suc n) t bytes fs c =
      tiles_effect n t bytes fs (effect c.0 (entries_of programs) (state_with t bytes))
      (splits_effect c.0 (entries_of programs) (state_with t bytes)) (λ u bs gs d. tiles_within n u bs gs d) c.2

  -- what a task comes to tiles the range that it has
  pub eval_tiles : (t : Task) (bytes : List ℕ) (fs : List Finished) → Eval programs t bytes fs → Tiles t.base (t.base + length bytes) fs
  eval_tiles t bytes fs c = tiles_within c.0 t bytes fs c.1

-- ---- in whatever order

pub tiles_permuted : (low high : ℕ) (xs ys : List Finished) → IsPermutation xs ys → Tiles low high xs → Tiles low high ys
tiles_permuted low high xs ys same tiles = record {
  inside = All-permutation (λ (f : Finished). end_of f ≤ high) xs ys same tiles.inside;
  owned = λ at. sum_by-IsPermutation (in_piece at) xs ys same ∙ tiles.owned at;
}

-- the byte that a task left at this place, if it is in its range
abbrev byte_in : ℕ → Finished → ℕ
byte_in at f = if_within (nat_lt at f.ending.base) (nat_lt at (end_of f)) (get_or f.bytes (at - f.ending.base) 0)

byte_out_by : (f : Finished) (at : ℕ) (b c : Bool) → if_within b c 1 ≡ 0 → if_within b c (get_or f.bytes (at - f.ending.base) 0) ≡ 0
byte_out_by f at true c none = refl
byte_out_by f at false true none = absurd (omega (arith, none))
byte_out_by f at false false none = refl

byte_out : (f : Finished) (at : ℕ) → in_piece at f ≡ 0 → byte_in at f ≡ 0
byte_out f at none = byte_out_by f at (nat_lt at f.ending.base) (nat_lt at (end_of f)) none

byte_here_by : (f : Finished) (at : ℕ) (b c : Bool) → if_within b c 1 ≡ 1 →
    if_within b c (get_or f.bytes (at - f.ending.base) 0) ≡ get_or f.bytes (at - f.ending.base) 0
byte_here_by f at true c one = absurd (omega (arith, one))
byte_here_by f at false true one = refl
byte_here_by f at false false one = absurd (omega (arith, one))

byte_here : (f : Finished) (at : ℕ) → in_piece at f ≡ 1 → byte_in at f ≡ get_or f.bytes (at - f.ending.base) 0
byte_here f at one = byte_here_by f at (nat_lt at f.ending.base) (nat_lt at (end_of f)) one

none_there : (at : ℕ) (fs : List Finished) → owners at fs ≡ 0 → sum_by (byte_in at) fs ≡ 0
none_there at [] none = refl
none_there at (f ∷ fs) none =
    let split = sum_by-cons (in_piece at) f fs in
    let first = byte_out f at (omega (arith, none, split)) in
    let later = none_there at fs (omega (arith, none, split)) in
    omega (arith, sum_by-cons (byte_in at) f fs, first, later)

length-joined : (size : ℕ) (fs : List Finished) → All (λ (f : Finished). end_of f ≤ size) fs → length (joined_bytes size fs) ≡ size
length-joined size [] all = length-replicate size 0
length-joined size (f ∷ fs) all =
    let ih = length-joined size fs (All-tail (λ (x : Finished). end_of x ≤ size) f fs all) in
    let first = All-head (λ (x : Finished). end_of x ≤ size) f fs all in
    length-written (joined_bytes size fs) f.ending.base f.bytes (omega (arith, ih, first)) ∙ ih

written_in : (memory : List ℕ) (base : ℕ) (bytes : List ℕ) (k : ℕ) → base + length bytes ≤ length memory → k < length bytes →
    get_or (written memory base bytes) (base + k) 0 ≡ get_or bytes k 0
written_in memory base bytes k inside lt =
    let front : length (take base memory) ≡ base = length-take-le base memory (omega (arith, inside)) in
    let start : base + k ≡ length (take base memory) + k = omega (arith, front) in
    ap (λ (i : ℕ). get_or (written memory base bytes) i 0) start
    ∙ get_or-append-add (take base memory) (bytes ++ drop (base + length bytes) memory) k 0
    ∙ get_or_append_left bytes (drop (base + length bytes) memory) 0 k lt

written_before : (memory : List ℕ) (base : ℕ) (bytes : List ℕ) (at : ℕ) → base + length bytes ≤ length memory → at < base →
    get_or (written memory base bytes) at 0 ≡ get_or memory at 0
written_before memory base bytes at inside lt =
    let front : length (take base memory) ≡ base = length-take-le base memory (omega (arith, inside)) in
    get_or_append_left (take base memory) (bytes ++ drop (base + length bytes) memory) 0 at (omega (arith, front, lt))
    ∙ get_or-take base memory at 0 lt

written_after : (memory : List ℕ) (base : ℕ) (bytes : List ℕ) (k : ℕ) → base + length bytes ≤ length memory →
    get_or (written memory base bytes) (base + length bytes + k) 0 ≡ get_or memory (base + length bytes + k) 0
written_after memory base bytes k inside =
    let front : length (take base memory) ≡ base = length-take-le base memory (omega (arith, inside)) in
    let start : base + length bytes + k ≡ length (take base memory) + (length bytes + k) = omega (arith, front) in
    ap (λ (i : ℕ). get_or (written memory base bytes) i 0) start
    ∙ get_or-append-add (take base memory) (bytes ++ drop (base + length bytes) memory) (length bytes + k) 0
    ∙ get_or-append-add bytes (drop (base + length bytes) memory) k 0
    ∙ get_or-drop (base + length bytes) memory k 0

-- the byte at a place that is in one of the ranges at most
joined_byte : (size : ℕ) (fs : List Finished) (at : ℕ) → All (λ (f : Finished). end_of f ≤ size) fs → at < size → owners at fs ≤ 1 →
    get_or (joined_bytes size fs) at 0 ≡ sum_by (byte_in at) fs
joined_byte size [] at all lt few = get_or-replicate size at 0 0 lt
joined_byte size (f ∷ fs) at all lt few =
    let rest = All-tail (λ (x : Finished). end_of x ≤ size) f fs all in
    let long = length-joined size fs rest in
    let first = All-head (λ (x : Finished). end_of x ≤ size) f fs all in
    let fits : f.ending.base + length f.bytes ≤ length (joined_bytes size fs) = omega (arith, long, first) in
    let split = sum_by-cons (in_piece at) f fs in
    let bytes = sum_by-cons (byte_in at) f fs in
    let ih = joined_byte size fs at rest lt (omega (arith, few, split)) in
    elim (where_is f.ending.base (end_of f) at) [
      | inl before ↦
          let out = byte_out f at (range_below f.ending.base (end_of f) at before) in
          let same = written_before (joined_bytes size fs) f.ending.base f.bytes at fits before in
          omega (arith, same, ih, bytes, out)
      | inr more ↦ elim more [
        | inl in_it ↦
            let le = in_it.0 in let within = in_it.1 in
            let one = range_inside f.ending.base (end_of f) at le within in
            let here = byte_here f at one in
            let later = none_there at fs (omega (arith, few, split, one)) in
            let start : f.ending.base + (at - f.ending.base) ≡ at = omega (arith, le) in
            let same : get_or (joined_bytes size (f ∷ fs)) at 0 ≡ get_or f.bytes (at - f.ending.base) 0 =
            ap (λ i. get_or (joined_bytes size (f ∷ fs)) i 0) (sym start)
            ∙ written_in (joined_bytes size fs) f.ending.base f.bytes (at - f.ending.base) fits (omega (arith, le, within)) in
            omega (arith, same, bytes, here, later)
        | inr past ↦
            let out = byte_out f at (range_above f.ending.base (end_of f) at past) in
            let start : end_of f + (at - end_of f) ≡ at = omega (arith, past) in
            let same : get_or (joined_bytes size (f ∷ fs)) at 0 ≡ get_or (joined_bytes size fs) at 0 =
            ap (λ i. get_or (joined_bytes size (f ∷ fs)) i 0) (sym start)
            ∙ written_after (joined_bytes size fs) f.ending.base f.bytes (at - end_of f) fits
            ∙ ap (λ i. get_or (joined_bytes size fs) i 0) start in
            omega (arith, same, ih, bytes, out)
      ]
    ]

-- the bytes of tasks that tile a buffer, joined in whatever order
pub joined_permuted : (size : ℕ) (xs ys : List Finished) → IsPermutation xs ys → Tiles 0 size xs → joined_bytes size xs ≡ joined_bytes size ys
joined_permuted size xs ys same tiles =
    let others = tiles_permuted 0 size xs ys same tiles in
    let left = length-joined size xs tiles.inside in
    let right = length-joined size ys others.inside in
    ext_get_or 0 (joined_bytes size xs) (joined_bytes size ys) (left ∙ sym right) (λ at lt.
    let inside : at < size = omega (arith, lt, left) in
    let one : in_range 0 size at ≡ 1 = range_inside 0 size at (omega arith) inside in
    joined_byte size xs at tiles.inside inside (omega (arith, tiles.owned at, one))
    ∙ sym (sum_by-IsPermutation (byte_in at) xs ys same)
    ∙ sym (joined_byte size ys at others.inside inside (omega (arith, others.owned at, one))))
