-- An order by the places of its slots.
use Rattle.std.proofs.Common.{◌≡◌, ℕ, ◌+◌, ◌≤◌, ◌<◌, List, length, Option, Some, None, slice_set, slice_index, get_or, sym, ap, ◌∙◌, arith, inl, inr, subst}
use Rattle.std.proofs.lemmas.Bool.{cases_lt}
use Rattle.std.proofs.lemmas.List.{get_or-set_same, get_or-set_other, get_or_default}
use Rattle.std.proofs.Math.ListN.{length-set}
use Rattle.machine_model.specs.Edges.{Code, IsEdge, Begins}
use Rattle.flow_graph.specs.Flow.{IsIn, IsJoined, IsOrder}
use Rattle.flow_graph.specs.Places.{place_at, ArePlaces, IsBefore, IsPlaced}
use Rattle.flow_graph.proofs.Lists.{one_way}
use Rattle.flow_graph.proofs.CodeLemmas.{begins_below}

some_place : (p q : ℕ) → Some p ≡ Some q → p ≡ q
some_place p q e = cc

empty_place : {P : Type 0} (o : Option ℕ) (p : ℕ) → o ≡ Some p → o ≡ None → P
empty_place o p e f = absurd (cc)

read_place : (places : List (Option ℕ)) (slot : ℕ) (o : Option ℕ) → slot < length places → o ≡ get_or places slot o → place_at places slot ≡ o
read_place places slot o lt is = sym (is ∙ get_or_default places slot o None lt)

pub slot_inside : (code : Code) (order : List ℕ) (places : List (Option ℕ)) (n slot : ℕ) → ArePlaces code order places n → Begins code slot →
    slot < length places
slot_inside code order places n slot a begins =
    let lt : slot < length code = begins_below code slot begins in omega (arith, a.slots)

-- a slot that stands a second time
pub twice : (code : Code) (order : List ℕ) (places : List (Option ℕ)) (n place : ℕ) (o : Option ℕ) → ArePlaces code order places n →
    n < length order → Begins code (slice_index order n) → o ≡ get_or places (slice_index order n) o → o ≡ Some place → IsOrder code order → ⊥
twice code order places n place o a lt begins is e order_is =
    let inside : slice_index order n < length places = slot_inside code order places n (slice_index order n) a begins in
    let s = a.stands (slice_index order n) place (read_place places (slice_index order n) o inside is ∙ e) in
    let less : place < n = s.0 in
    let low : place < length order = omega arith in
    let same : place ≡ n = order_is.once place n low lt s.1 in
    omega arith

pub places_more : (code : Code) (order : List ℕ) (places : List (Option ℕ)) (n : ℕ) (o : Option ℕ) → ArePlaces code order places n →
    Begins code (slice_index order n) → o ≡ get_or places (slice_index order n) o → o ≡ None →
    ArePlaces code order (slice_set places (slice_index order n) (Some n)) (n + 1)
places_more code order places n o a begins is e = record {
  slots = length-set places (slice_index order n) (Some n) ∙ a.slots;
  begins = λ place lt. elim (cases_lt place n) [
    | inl low ↦ a.begins place low
    | inr high ↦ subst (λ (k : ℕ). Begins code (slice_index order k)) (last place lt high) begins
  ];
  at = λ place lt. elim (cases_lt place n) [
    | inl low ↦
        get_or-set_other places (slice_index order n) (slice_index order place) (Some n) None
        (λ same. empty_place (place_at places (slice_index order place)) place (a.at place low) (ap (place_at places) same ∙ none))
        ∙ a.at place low
    | inr high ↦
        subst (λ (k : ℕ). place_at (slice_set places (slice_index order n) (Some n)) (slice_index order k) ≡ Some k) (last place lt high)
        (get_or-set_same places (slice_index order n) (Some n) None inside)
  ];
  stands = λ slot place h. elim (one_way slot (slice_index order n)) [
    | inl same ↦
        let there : place_at (slice_set places (slice_index order n) (Some n)) slot ≡ Some n =
        ap (place_at (slice_set places (slice_index order n) (Some n))) same ∙ get_or-set_same places (slice_index order n) (Some n) None inside in
        let is : place ≡ n = some_place place n (sym h ∙ there) in
        (omega arith, ap (slice_index order) is ∙ sym same)
    | inr ne ↦
        let s = a.stands slot place (sym (get_or-set_other places (slice_index order n) slot (Some n) None ne) ∙ h) in
        let less : place < n = s.0 in
        (omega arith, s.1)
  ];
}
  where
    inside : slice_index order n < length places
    inside = slot_inside code order places n (slice_index order n) a begins

    none : place_at places (slice_index order n) ≡ None
    none = read_place places (slice_index order n) o inside is ∙ e

    last : (place : ℕ) → place < n + 1 → n ≤ place → n ≡ place
    last place lt high = omega arith

pub order_of_places : (code : Code) (order : List ℕ) (places : List (Option ℕ)) → ArePlaces code order places (length order) →
    ((s : ℕ) → Begins code s → IsPlaced code places s) → IsOrder code order
order_of_places code order places a each = record {
  begins = a.begins;
  each = λ slot b. let p = (each slot b).place in let s = a.stands slot p.0 p.1 in (p.0, s.0, s.1);
  once = λ p q h k e. some_place p q (sym (a.at p h) ∙ ap (place_at places) e ∙ a.at q k);
  onward = λ p q fact h k edge.
      subst (λ (o : Option ℕ). IsBefore (Some p) o) (a.at q k)
      (subst (λ (o : Option ℕ). IsBefore o (place_at places (slice_index order q))) (a.at p h)
      ((each (slice_index order p) (a.begins p h)).onward (slice_index order q) (fact, edge)));
}

pub placed_of_order : (code : Code) (order : List ℕ) (places : List (Option ℕ)) (slot : ℕ) → IsJoined code →
    ArePlaces code order places (length order) → Begins code slot → IsOrder code order → IsPlaced code places slot
placed_of_order code order places slot f a begins o = record {
  place = (here.0, at_here);
  onward = λ s joint.
      let i = o.each s (f.lands slot joint.0 s joint.1).1 in
      let there : place_at places s ≡ Some i.0 = ap (place_at places) (sym i.2) ∙ a.at i.0 i.1 in
      let less : here.0 < i.0 = o.onward here.0 i.0 joint.0 here.1 i.1
      (subst (λ (p : ℕ). IsEdge code p joint.0 (slice_index order i.0)) (sym here.2)
      (subst (IsEdge code slot joint.0) (sym i.2) joint.1)) in
      subst (λ (q : Option ℕ). IsBefore (place_at places slot) q) (sym there)
      (subst (λ (q : Option ℕ). IsBefore q (Some i.0)) (sym at_here) less);
}
  where
    here : IsIn order slot
    here = o.each slot begins

    at_here : place_at places slot ≡ Some here.0
    at_here = ap (place_at places) (sym here.2) ∙ a.at here.0 here.1
