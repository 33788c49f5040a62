-- Marks at the slots that lead to a slot, and a walk through them.
use Rattle.std.proofs.Common.{◌≡◌, ◌≢◌, ◌⊎◌, ℕ, suc, ◌≤◌, ◌<◌, List, [], ◌∷◌, ◌++◌, length, slice_set, slice_index, Bool, true, false, replicate, inl, inr, sym, subst, ap, ◌∙◌, arith}
use Rattle.std.proofs.lemmas.Bool.{cases_eq}
use Rattle.std.proofs.lemmas.List.{get_or-set_same, get_or-set_other}
use Rattle.std.proofs.Math.ListN.{length-set}
use Rattle.machine_model.specs.Edges.{Code, IsEdge, Begins}
use Rattle.flow_graph.specs.Cycles.{IsJoint}
use Rattle.flow_graph.specs.Flow.{IsFlow}
use Rattle.flow_graph.specs.Reached.{IsMarked}
use Rattle.flow_graph.proofs.Marks.{none_marked}
use Rattle.explain.specs.Ways.{IsSlotPath, IsWayTo}
use Rattle.explain.specs.Leading.{AreLeading, LeadFrom, IsAhead, HasComeTo}
use Rattle.explain.proofs.WayLemmas.{way_start, way_longer, from_path}

-- ---- one mark more

marked_same : (marks : List Bool) (t s : ℕ) → t < length marks → s ≡ t → IsMarked (slice_set marks t true) s
marked_same marks t s lt e = subst (IsMarked (slice_set marks t true)) (sym e) (get_or-set_same marks t true false lt)

marked_still : (marks : List Bool) (t s : ℕ) → t < length marks → IsMarked marks s → IsMarked (slice_set marks t true) s
marked_still marks t s lt h = elim (cases_eq s t) [
  | inl e ↦ marked_same marks t s lt e
  | inr ne ↦ get_or-set_other marks t s true false ne ∙ h
]

marked_only : (marks : List Bool) (t s : ℕ) → IsMarked (slice_set marks t true) s → IsMarked marks s ⊎ (s ≡ t)
marked_only marks t s h = elim (cases_eq s t) [
  | inl e ↦ inr e
  | inr ne ↦ inl (sym (get_or-set_other marks t s true false ne) ∙ h)
]

clash : (b : Bool) → b ≡ true → b ≡ false → ⊥
clash b p q = cc

-- ---- the slots that an edge leads to stand later

edge_begins : (code : Code) (order : List ℕ) (p s : ℕ) → IsFlow (record { code = code; order = order }) → IsJoint code p s → Begins code s
edge_begins code order p s flow (fact, edge) = (flow.joined.lands p fact s edge).1

later : (code : Code) (order : List ℕ) (n s : ℕ) → IsFlow (record { code = code; order = order }) → n < length order → IsJoint code (slice_index order n) s →
    IsAhead order (suc n) s
later code order n s flow lt (fact, edge) =
    let at = flow.order.each s (edge_begins code order (slice_index order n) s flow (fact, edge)) in
    let on = subst (λ (k : ℕ). IsEdge code (slice_index order n) fact k) (sym at.2) edge in
    (at.0, flow.order.onward n at.0 fact lt at.1 on, at.1, at.2)

-- ---- the marks

pub lead_first : (code : Code) (order : List ℕ) (slot : ℕ) (marks : List Bool) → marks ≡ replicate (length code) false → length marks ≡ length code → slot < length code →
    LeadFrom code order slot (length order) (slice_set marks slot true)
lead_first code order slot marks none long lt =
    let room : slot < length marks = omega (arith, long, lt) in
    record {
      slots = length-set marks slot true ∙ long;
      here = get_or-set_same marks slot true false room;
      onward = λ s h. elim (marked_only marks slot s h) [
        | inl old ↦ absurd (clash _ old (none_marked marks (length code) none s))
        | inr e ↦ inl e
      ];
      each = λ q le under way. absurd (omega (arith, le, under));
    }

pub lead_marked : (code : Code) (order : List ℕ) (slot place next : ℕ) (marks : List Bool) → slice_index order place < length code → LeadFrom code order slot (suc place) marks →
    IsJoint code (slice_index order place) next → IsMarked marks next → LeadFrom code order slot place (slice_set marks (slice_index order place) true)
lead_marked code order slot place next marks lt l joint marked =
    let from : ℕ = slice_index order place in
    let room : slice_index order place < length marks = omega (arith, lt, l.slots) in
    record {
      slots = length-set marks (slice_index order place) true ∙ l.slots;
      here = marked_still marks (slice_index order place) slot room l.here;
      onward = λ s h. elim (marked_only marks (slice_index order place) s h) [
        | inl old ↦ elim (l.onward s old) [
          | inl e ↦ inl e
          | inr on ↦ inr (on.0, on.1, marked_still marks (slice_index order place) on.0 room on.2)
        ]
        | inr e ↦ inr (next, subst (λ (k : ℕ). IsJoint code k next) (sym e) joint, marked_still marks (slice_index order place) next room marked)
      ];
      each = λ q le under way. elim (cases_eq q place) [
        | inl e ↦ marked_same marks (slice_index order place) (slice_index order q) room (ap (slice_index order) e)
        | inr ne ↦
            let le' : suc place ≤ q = omega (arith, le, ne) in
            marked_still marks (slice_index order place) (slice_index order q) room (l.each q le' under way)
      ];
    }

none_leads : (code : Code) (order : List ℕ) (slot place : ℕ) (marks : List Bool) → IsFlow (record { code = code; order = order }) → place < length order →
    LeadFrom code order slot (suc place) marks → ((next : ℕ) → IsJoint code (slice_index order place) next → IsMarked marks next → ⊥) →
    (way : List ℕ) → IsSlotPath code (slice_index order place) way slot → IsMarked marks (slice_index order place)
none_leads code order slot place marks flow lt l none [] is = subst (IsMarked marks) (sym is) l.here
none_leads code order slot place marks flow lt l none (next ∷ way) (joint, rest) =
    let at = later code order place next flow lt joint in
    let marked = l.each at.0 at.1 at.2 (way, subst (λ (k : ℕ). IsSlotPath code k way slot) (sym at.3) rest) in
    absurd (none next joint (subst (IsMarked marks) at.3 marked))

pub lead_unmarked : (code : Code) (order : List ℕ) (slot place : ℕ) (marks : List Bool) → IsFlow (record { code = code; order = order }) → place < length order →
    LeadFrom code order slot (suc place) marks → ((next : ℕ) → IsJoint code (slice_index order place) next → IsMarked marks next → ⊥) →
    LeadFrom code order slot place marks
lead_unmarked code order slot place marks flow lt l none = record {
  slots = l.slots;
  here = l.here;
  onward = l.onward;
  each = λ q le under way. elim (cases_eq q place) [
    | inl e ↦
        let there = subst (λ (k : ℕ). IsSlotPath code (slice_index order k) way.0 slot) e way.1 in
        subst (λ (k : ℕ). IsMarked marks (slice_index order k)) (sym e) (none_leads code order slot place marks flow lt l none way.0 there)
    | inr ne ↦ let le' : suc place ≤ q = omega (arith, le, ne) in l.each q le' under way
  ];
}

pub lead_all : (code : Code) (order : List ℕ) (slot : ℕ) (marks : List Bool) → IsFlow (record { code = code; order = order }) → Begins code slot →
    LeadFrom code order slot 0 marks → AreLeading code slot marks
lead_all code order slot marks flow begins l = record {
  slots = l.slots;
  first =
      let at = flow.order.each 0 flow.joined.opens in
      let path = flow.reached slot begins in
      let way = from_path code path.0 slot path.1 in
      let low : 0 ≤ at.0 = omega arith in
      subst (IsMarked marks) at.2 (l.each at.0 low at.1 (way.0, subst (λ (k : ℕ). IsSlotPath code k way.0 slot) (sym at.2) way.1));
  onward = l.onward;
}

-- ---- the walk

pub come_start : (code : Code) (order : List ℕ) (marks : List Bool) (slot : ℕ) → IsFlow (record { code = code; order = order }) → AreLeading code slot marks →
    HasComeTo code order marks slot 0 (0 ∷ []) 0
come_start code order marks slot flow leading =
    let at = flow.order.each 0 flow.joined.opens in
    let low : 0 ≤ at.0 = omega arith in
    record { comes = way_start code; marked = leading.first; ahead = inr (at.0, low, at.1, at.2) }

pub come_on : (code : Code) (order : List ℕ) (marks : List Bool) (slot place : ℕ) (way : List ℕ) (at next : ℕ) → IsFlow (record { code = code; order = order }) →
    place < length order → slice_index order place ≡ at → HasComeTo code order marks slot place way at → IsJoint code at next → IsMarked marks next →
    HasComeTo code order marks slot (suc place) (way ++ next ∷ []) next
come_on code order marks slot place way at next flow lt is h joint marked = record {
  comes = way_longer code at next way h.comes joint;
  marked = marked;
  ahead = inr (later code order place next flow lt (subst (λ (k : ℕ). IsJoint code k next) (sym is) joint));
}

pub come_past : (code : Code) (order : List ℕ) (marks : List Bool) (slot place : ℕ) (way : List ℕ) (at : ℕ) → at ≢ slot → slice_index order place ≢ at →
    HasComeTo code order marks slot place way at → HasComeTo code order marks slot (suc place) way at
come_past code order marks slot place way at other apart h = record {
  comes = h.comes;
  marked = h.marked;
  ahead = elim h.ahead [
    | inl e ↦ absurd (other e)
    | inr (q, le, under, is) ↦ elim (cases_eq q place) [
      | inl e ↦ absurd (apart (subst (λ (k : ℕ). slice_index order k ≡ at) e is))
      | inr ne ↦ let le' : suc place ≤ q = omega (arith, le, ne) in inr (q, le', under, is)
    ]
  ];
}

pub come_end : (code : Code) (order : List ℕ) (marks : List Bool) (slot place : ℕ) (way : List ℕ) (at : ℕ) → length order ≤ place →
    HasComeTo code order marks slot place way at → IsWayTo code slot way
come_end code order marks slot place way at all h = elim h.ahead [
  | inl e ↦ subst (λ (k : ℕ). IsWayTo code k way) e h.comes
  | inr (q, le, under, is) ↦ absurd (omega (arith, all, le, under))
]

pub come_there : (code : Code) (order : List ℕ) (marks : List Bool) (slot place : ℕ) (way : List ℕ) (at : ℕ) → at ≡ slot →
    HasComeTo code order marks slot place way at → IsWayTo code slot way
come_there code order marks slot place way at e h = subst (λ (k : ℕ). IsWayTo code k way) e h.comes

pub never_stuck : (code : Code) (marks : List Bool) (slot at : ℕ) → AreLeading code slot marks → IsMarked marks at → at ≢ slot →
    ((next : ℕ) → IsJoint code at next → IsMarked marks next → ⊥) → ⊥
never_stuck code marks slot at leading marked other none = elim (leading.onward at marked) [
  | inl e ↦ other e
  | inr (next, joint, on) ↦ none next joint on
]
