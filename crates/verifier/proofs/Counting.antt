-- How many edges lead to a slot, counted one slot more.
use Rattle.std.proofs.Common.{◌≡◌, ℕ, zero, suc, ◌+◌, ◌*◌, ◌≤◌, ◌<◌, ◌≢◌, ◌==◌, List, length, Some, None, Option, ap, sym, ◌∙◌, arith, refl, inl, inr, Bool, true, false, slice_set, slice_index_or, if◌then◌else◌}
use Rattle.std.proofs.lemmas.Bool.{cases_eq}
use Rattle.std.proofs.lemmas.Bool.Decides.{nat_tests}
use Rattle.std.proofs.lemmas.List.{get_or-set_same, get_or-set_other}
use Rattle.machine_model.specs.Edges.{Code, Fact, Always, NotTaken, Taken, leads_at}
use Rattle.flow_graph.specs.Flow.{AreNext}
use Rattle.flow_graph.specs.declared.graph.Next.TheVariants.{One, Two}
use Rattle.verifier.specs.Merges.{one_to, edges_from, edges_below, edges_into, is_merge, merges_below}

pub one_at_most : (o : Option ℕ) (s : ℕ) → one_to o s ≤ 1
one_at_most None s = omega arith
one_at_most (Some t) s = by_test (t == s)
  where
    by_test : (b : Bool) → (if b then 1 else 0) ≤ 1
    by_test true = omega arith
    by_test false = omega arith

edges_few : (code : Code) (s n : ℕ) → edges_below code s n ≤ 3 * n
edges_few code s zero = omega arith
edges_few code s (suc n) = omega (arith, edges_few code s n, one_at_most (leads_at code n Always) s, one_at_most (leads_at code n NotTaken) s, one_at_most (leads_at code n Taken) s)

-- what has been counted is little
pub counted_few : (code : Code) (counted s n : ℕ) → length code ≤ 4096 → counted + edges_below code s n ≡ edges_into code s → counted ≤ 12288
counted_few code counted s n few is = omega (arith, few, is, edges_few code s (length code))

pub count_more : (edges : List ℕ) (to s : ℕ) → to < length edges →
    slice_index_or (slice_set edges to (slice_index_or edges to 0 + 1)) s 0 ≡ slice_index_or edges s 0 + one_to (Some to) s
count_more edges to s room = elim (cases_eq s to) [
  | inl e ↦
      ap (λ (k : ℕ). slice_index_or (slice_set edges to (slice_index_or edges to 0 + 1)) k 0) e
      ∙ (get_or-set_same edges to (slice_index_or edges to 0 + 1) 0 room ∙ sym (here s e))
  | inr ne ↦
      get_or-set_other edges to s (slice_index_or edges to 0 + 1) 0 ne ∙ sym (there s ne)
]
  where
    here : (s : ℕ) → s ≡ to → slice_index_or edges s 0 + one_to (Some to) s ≡ slice_index_or edges to 0 + 1
    here s e = ap (λ (k : ℕ). slice_index_or edges k 0 + one_to (Some to) k) e ∙ ap (λ (k : ℕ). slice_index_or edges to 0 + k) (same to)
      where
        same : (t : ℕ) → one_to (Some t) t ≡ 1
        same t = grind (arith, nat_tests)

    there : (s : ℕ) → s ≢ to → slice_index_or edges s 0 + one_to (Some to) s ≡ slice_index_or edges s 0
    there s ne = ap (λ (k : ℕ). slice_index_or edges s 0 + k) (other s ne) ∙ omega arith
      where
        other : (s : ℕ) → s ≢ to → one_to (Some to) s ≡ 0
        other s ne = grind (arith, nat_tests)

-- the edges of a slot
pub edges_zero : (code : Code) (n s : ℕ) → ((fact : Fact) → leads_at code n fact ≡ None) → edges_from code n s ≡ 0
edges_zero code n s none = rw (none Always, none NotTaken, none Taken) refl

pub edges_one : (code : Code) (n to s : ℕ) → AreNext code n (One to) → edges_from code n s ≡ one_to (Some to) s
edges_one code n to s next = rw (next.0, next.1, next.2) (let e : one_to (Some to) s + 0 + 0 ≡ one_to (Some to) s = omega arith in e)

pub edges_two : (code : Code) (n following to s : ℕ) → AreNext code n (Two following to) → edges_from code n s ≡ one_to (Some following) s + one_to (Some to) s
edges_two code n following to s next =
    rw (next.0, next.1, next.2) (let e : 0 + one_to (Some following) s + one_to (Some to) s ≡ one_to (Some following) s + one_to (Some to) s = omega arith in e)

pub counted_more : (code : Code) (old new s n edges : ℕ) → new ≡ old + edges → edges_from code n s ≡ edges →
    old + edges_below code s (suc n) ≡ edges_into code s → new + edges_below code s n ≡ edges_into code s
counted_more code old new s n edges more is before =
    let e : old + (edges_below code s n + edges_from code n s) ≡ edges_into code s = before in
    omega (arith, more, is, e)

pub merges_few : (code : Code) (n : ℕ) → merges_below code n ≤ n
merges_few code zero = omega arith
merges_few code (suc n) = omega (arith, merges_few code n, one_more (is_merge code n))
  where
    one_more : (b : Bool) → (if b then 1 else 0) ≤ 1
    one_more true = omega arith
    one_more false = omega arith
