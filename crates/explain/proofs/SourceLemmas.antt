-- The slots that lead to a slot, one after the other: what they pass on, joined, and whether there is one alone.
use Rattle.std.proofs.Common.{◌≡◌, ℕ, suc, ◌-◌, ◌≤◌, ◌<◌, length, Option, Some, None, sym, subst, ap, inl, inr, ◌∙◌, arith}
use Rattle.std.proofs.lemmas.Bool.{cases_eq, cases_lt}
use Rattle.machine_model.specs.Edges.{Code}
use Rattle.machine_model.proofs.Codes.{begins_within}
use Rattle.flow_graph.specs.Cycles.{IsJoint}
use Rattle.flow_graph.proofs.OrderLemmas.{joint_begins}
use Rattle.verifier.specs.InStates.{Subject, InState, Unreached, joined_edges}
use Rattle.verifier.specs.Sources.{IsNextSource, slots_left}
use Rattle.verifier.proofs.Arrivals.{joined_over_stops}
use Rattle.explain.specs.Arriving.{IsJoinedTo, joined_from}

joined_on : (p : Subject) (f : ℕ → InState) (s n : ℕ) (a : InState) (o : Option ℕ) → n ≤ length p.code → a ≡ joined_edges p f s n →
    IsNextSource p.code s n o → IsJoinedTo p f s a o
joined_on p f s n a None le is next =
    is ∙ sym (joined_over_stops p f s n (length p.code - n) (length p.code) (omega (arith, le)) (λ k from below fact edge. next k from (fact, edge)))
joined_on p f s n a (Some q) le is next = (
  next.1,
  is ∙ sym (joined_over_stops p f s n (q - n) q (let from = next.0 in omega (arith, from)) (λ k from below fact edge. next.2 k from below (fact, edge))),
)

pub joined_first : (p : Subject) (f : ℕ → InState) (s : ℕ) (a : InState) (o : Option ℕ) → a ≡ Unreached → IsNextSource p.code s 0 o → IsJoinedTo p f s a o
joined_first p f s a o is next = joined_on p f s 0 a o (omega arith) is next

pub joint_low : (code : Code) (p s : ℕ) → IsJoint code p s → p < length code
joint_low code p s joint = begins_within code p (joint_begins code p s joint)

-- a source is where the join has come to
pub come_to : (p : Subject) (f : ℕ → InState) (s : ℕ) (a : InState) (source : Option ℕ) (q : ℕ) → source ≡ Some q → IsJoinedTo p f s a source →
    IsJoint p.code q s × (a ≡ joined_edges p f s q)
come_to p f s a source q is joined = subst (IsJoinedTo p f s a) is joined

pub joined_next : (p : Subject) (f : ℕ → InState) (s q : ℕ) (a b : InState) (o : Option ℕ) → IsJoint p.code q s × (a ≡ joined_edges p f s q) →
    b ≡ joined_from p f s q a → IsNextSource p.code s (suc q) o → IsJoinedTo p f s b o
joined_next p f s q a b o come is next =
    let low = joint_low p.code q s come.0 in
    joined_on p f s (suc q) b o (omega (arith, low)) (is ∙ ap (joined_from p f s q) come.1) next

pub joined_whole : (p : Subject) (f : ℕ → InState) (s : ℕ) (a : InState) (source : Option ℕ) → source ≡ None → IsJoinedTo p f s a source →
    a ≡ joined_edges p f s (length p.code)
joined_whole p f s a source is joined = subst (IsJoinedTo p f s a) is joined

fewer : (code : Code) (s q slots : ℕ) (o : Option ℕ) → q < slots → IsNextSource code s (suc q) o → slots_left slots o < slots_left slots (Some q)
fewer code s q slots None lt next = omega (arith, lt)
fewer code s q slots (Some r) lt next = let from : suc q ≤ r = next.0 in omega (arith, lt, from)

pub fewer_left : (code : Code) (s q : ℕ) (source o : Option ℕ) → source ≡ Some q → IsJoint code q s → IsNextSource code s (suc q) o →
    slots_left (length code) o < slots_left (length code) source
fewer_left code s q source o is joint next = rw is (fewer code s q (length code) o (joint_low code q s joint) next)

-- ---- one source alone

pub sole_source : (code : Code) (from to : ℕ) → IsNextSource code to 0 (Some from) → IsNextSource code to (suc from) None →
    (k : ℕ) → IsJoint code k to → k ≡ from
sole_source code from to first none k joint = elim (cases_lt k from) [
  | inl low ↦ let all : 0 ≤ k = omega arith in absurd (first.2 k all low joint)
  | inr ge ↦ elim (cases_eq k from) [
    | inl same ↦ same
    | inr apart ↦ let high : suc from ≤ k = omega (arith, ge, apart) in absurd (none k high joint)
  ]
]

pub later_source : (code : Code) (from to r : ℕ) → IsNextSource code to (suc from) (Some r) → ((k : ℕ) → IsJoint code k to → k ≡ from) → ⊥
later_source code from to r next sole = let high : suc from ≤ r = next.0 in let same : r ≡ from = sole r next.1 in omega (arith, high, same)
