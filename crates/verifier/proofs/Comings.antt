-- What has come along the edges, one step more.
use Rattle.std.proofs.Common.{◌≡◌, Bool, ℕ, suc, ◌≤◌, ◌<◌, ◌≢◌, List, length, Some, None, Option, ap, sym, ◌∙◌, arith, refl, inl, inr, true, false, slice_set, slice_index, slice_index_or, subst, if◌then◌else◌}
use Rattle.std.proofs.lemmas.Bool.{cases_lt, cases_eq}
use Rattle.std.proofs.lemmas.List.{get_or-set_same, get_or-set_other}
use Rattle.std.proofs.Math.ListN.{length-set}
use Rattle.insn_codec.specs.declared.insn.Insn.{Insn}
use Rattle.machine_model.specs.Edges.{Code, Always, NotTaken, Taken, IsEdge, insn_at, leads_at}
use Rattle.flow_graph.specs.Cycles.{IsJoint}
use Rattle.flow_graph.specs.Flow.{AreNext, IsOrder}
use Rattle.flow_graph.specs.declared.graph.Next.{Next}
use Rattle.flow_graph.specs.declared.graph.Next.TheVariants.{Zero, One, Two}
use Rattle.instruction_rules.specs.declared.rule.Rule.{Rule}
use Rattle.instruction_rules.specs.declared.state.AbsState.{AbsState}
use Rattle.instruction_rules.specs.States.{transferred, fault}
use Rattle.verifier.specs.InStates.{Subject, InState, Undefined, Reached, joined_in_state, if_leads_to, out_state, joined_edges, AreInStates, in_state}
use Rattle.verifier.specs.Verdict.{in_state_of}
use Rattle.verifier.specs.Sources.{Links, IsLinked, IsNextSource, link_of}
use Rattle.verifier.specs.Propagation.{IsVisited, IsBlocked, IsPartlyJoined, IsPast, HasPropagatedAll, IsProcessed, IsAmong, HasPropagated}
use Rattle.verifier.proofs.Options.{one_some, none_some}
use Rattle.verifier.proofs.Arrivals.{behind_place}
use Rattle.verifier.proofs.Pulling.{sent_is, pulled_on, pulled_allowed, joint_within}

-- ---- what is there of a slot

one_arrived : (a : InState) (s t : AbsState) → a ≡ Reached s → a ≡ Reached t → s ≡ t
one_arrived a s t x y = cc

not_undefined : (a : InState) (s : AbsState) → a ≡ Reached s → a ≡ Undefined → ⊥
not_undefined a s x y = cc

-- what is passed isn't blocked
pub passed_not_blocked : (p : Subject) (s : ℕ) (state : AbsState) → IsVisited p s state → IsBlocked p s → ⊥
passed_not_blocked p s state h blocked =
    not_undefined (out_state p (insn_at p.code s) Always (in_state p s)) (transferred h.insn Always state)
    (sent_is p (insn_at p.code s) (in_state p s) h.insn Always state h.there h.arrives h.allowed) (blocked Always)

-- where a state is there, it is the one that is passed
pub sent_there : (p : Subject) (firsts : List (Option ℕ)) (s : ℕ) (o : Option AbsState) (state : AbsState) →
    o ≡ Some state → IsProcessed p firsts s o → IsVisited p s state
sent_there p firsts s o state e (inl (blocked, none)) = absurd (none_some o state none e)
sent_there p firsts s o state e (inr (in_states, h, inl there)) =
    subst (λ (t : AbsState). IsVisited p s t) (one_some o in_states state there e) h
sent_there p firsts s o state e (inr (in_states, h, inr (none, taken))) = absurd (none_some o state none e)

sent_on : (p : Subject) (firsts later : List (Option ℕ)) (s : ℕ) (x y : Option AbsState) → y ≡ x →
    (HasPropagatedAll p firsts s → HasPropagatedAll p later s) →
    IsProcessed p firsts s x → IsProcessed p later s y
sent_on p firsts later s x y same on (inl (blocked, none)) = inl (blocked, same ∙ none)
sent_on p firsts later s x y same on (inr (in_states, h, inl there)) = inr (in_states, h, inl (same ∙ there))
sent_on p firsts later s x y same on (inr (in_states, h, inr (none, taken))) =
    inr (in_states, h, inr (same ∙ none, on taken))

-- a state that isn't needed further may go
sent_away : (p : Subject) (firsts : List (Option ℕ)) (s : ℕ) (x y : Option AbsState) → y ≡ None →
    HasPropagatedAll p firsts s →
    IsProcessed p firsts s x → IsProcessed p firsts s y
sent_away p firsts s x y gone taken (inl (blocked, none)) = inl (blocked, gone)
sent_away p firsts s x y gone taken (inr (in_states, h, stored)) = inr (in_states, h, inr (gone, taken))

pulled_same : (p : Subject) (s : ℕ) (x y : Option AbsState) (f g : Option ℕ) → y ≡ x → g ≡ f → IsPartlyJoined p s x f →
    IsPartlyJoined p s y g
pulled_same p s x y f g a b h =
    subst (λ (u : Option AbsState). IsPartlyJoined p s u g) (sym a)
    (subst (λ (v : Option ℕ). IsPartlyJoined p s x v) (sym b) h)

taken_on : (p : Subject) (firsts later : List (Option ℕ)) (s m : ℕ) →
    ((k : ℕ) → k ≢ m → slice_index_or later k None ≡ slice_index_or firsts k None) →
    ((k : ℕ) → IsPast (slice_index_or firsts m None) k → IsPast (slice_index_or later m None) k) →
    HasPropagatedAll p firsts s → HasPropagatedAll p later s
taken_on p firsts later s m others on taken to joint = elim (cases_eq to m) [
  | inl e ↦
      subst (λ (k : ℕ). IsPast (slice_index_or later k None) s) (sym e)
      (on s (subst (λ (k : ℕ). IsPast (slice_index_or firsts k None) s) e (taken to joint)))
  | inr ne ↦ subst (λ (o : Option ℕ). IsPast o s) (sym (others to ne)) (taken to joint)
]

-- ---- steps that leave the place

-- more has come to a slot
come_on : (p : Subject) (order : List ℕ) (n m : ℕ) (old new : Links) (states later : List (Option AbsState)) →
    HasPropagated p order n old states →
    IsLinked p.code new → length later ≡ length states → (IsAmong order n m → ⊥) →
    ((s : ℕ) → s ≢ m → slice_index_or later s None ≡ slice_index_or states s None) →
    ((s : ℕ) → s ≢ m → slice_index_or new.first s None ≡ slice_index_or old.first s None) →
    IsPartlyJoined p m (slice_index_or later m None) (slice_index_or new.first m None) →
    ((k : ℕ) → IsPast (slice_index_or old.first m None) k → IsPast (slice_index_or new.first m None) k) →
    HasPropagated p order n new later
come_on p order n m old new states later h linked long none others firsts pulled on = record {
  linked = linked;
  slots = long ∙ h.slots;
  pulled = λ s within not_yet. elim (cases_eq s m) [
    | inl e ↦ subst (λ (k : ℕ). IsPartlyJoined p k (slice_index_or later k None) (slice_index_or new.first k None))
        (sym e) pulled
    | inr ne ↦ pulled_same p s (slice_index_or states s None) (slice_index_or later s None)
        (slice_index_or old.first s None) (slice_index_or new.first s None)
        (others s ne) (firsts s ne) (h.pulled s within not_yet)
  ];
  out_state = λ s among.
      let ne : s ≢ m = λ e. none (subst (λ (k : ℕ). IsAmong order n k) e among) in
      sent_on p old.first new.first s (slice_index_or states s None) (slice_index_or later s None) (others s ne)
      (taken_on p old.first new.first s m firsts on) (h.out_state s among);
}

-- a state has gone that isn't needed further
pub come_away : (p : Subject) (order : List ℕ) (n s : ℕ) (links : Links) (states later : List (Option AbsState)) →
    HasPropagated p order n links states → IsAmong order n s → length later ≡ length states →
    ((k : ℕ) → k ≢ s → slice_index_or later k None ≡ slice_index_or states k None) →
    slice_index_or later s None ≡ None →
    HasPropagatedAll p links.first s → HasPropagated p order n links later
come_away p order n s links states later h among long others gone taken = record {
  linked = h.linked;
  slots = long ∙ h.slots;
  pulled = λ k within not_yet.
      let ne : k ≢ s = λ e. not_yet (subst (λ (x : ℕ). IsAmong order n x) (sym e) among) in
      pulled_same p k (slice_index_or states k None) (slice_index_or later k None) (slice_index_or links.first k None)
      (slice_index_or links.first k None)
      (others k ne) refl (h.pulled k within not_yet);
  out_state = λ k at. elim (cases_eq k s) [
    | inl e ↦ subst (λ (x : ℕ). IsProcessed p links.first x (slice_index_or later x None)) (sym e)
        (sent_away p links.first s (slice_index_or states s None) (slice_index_or later s None) gone taken
        (h.out_state s among))
    | inr ne ↦ sent_on p links.first links.first k (slice_index_or states k None) (slice_index_or later k None)
        (others k ne) (λ t. t) (h.out_state k at)
  ];
}

-- the links are as they were, but for what comes next
link_same : (old new : Links) (next : Next) (k s : ℕ) → new.following ≡ old.following → new.taken ≡ old.taken →
    link_of new next k s ≡ link_of old next k s
link_same old new Zero k s x y = refl
link_same old new (One to) k s x y = ap (λ (l : List (Option ℕ)). slice_index_or l k None) x
link_same old new (Two following to) k s x y = rw (x, y) refl

pub linked_noted : (code : Code) (old new : Links) (to : ℕ) (o : Option ℕ) → IsLinked code old →
    new.first ≡ slice_set old.first to o →
    new.following ≡ old.following → new.taken ≡ old.taken → new.edges ≡ old.edges → IsLinked code new
linked_noted code old new to o h first following taken edges = record {
  firsts = ap length first ∙ (length-set old.first to o ∙ h.firsts);
  followings = ap length following ∙ h.followings;
  takens = ap length taken ∙ h.takens;
  counts = ap length edges ∙ h.counts;
  after = λ k s next are joint.
      subst (λ (l : Option ℕ). IsNextSource code s (suc k) l) (sym (link_same old new next k s following taken))
      (h.after k s next are joint);
  counted = λ s within. ap (λ (l : List ℕ). slice_index_or l s 0) edges ∙ h.counted s within;
}

past_next : (code : Code) (from to k : ℕ) (o f : Option ℕ) → o ≡ Some from → IsNextSource code to (suc from) f →
    IsPast o k → IsPast f k
past_next code from to k o None e next past = tt
past_next code from to k o (Some q) e next past =
    let before : k < from = subst (λ (x : Option ℕ). IsPast x k) e past in
    let after : suc from ≤ q = next.0 in
    let lt : k < q = omega (arith, before, after) in lt

past_here : (code : Code) (from to : ℕ) (f : Option ℕ) → IsNextSource code to (suc from) f → IsPast f from
past_here code from to None next = tt
past_here code from to (Some q) next = let after : suc from ≤ q = next.0 in let lt : from < q = after in lt

pub pulled_from : (p : Subject) (s : ℕ) (state : Option AbsState) (o : Option ℕ) (q : ℕ) → o ≡ Some q →
    IsPartlyJoined p s state o →
    IsJoint p.code q s × (in_state_of state ≡ joined_edges p (in_state p) s q)
pulled_from p s state o q e h = subst (λ (r : Option ℕ). IsPartlyJoined p s state r) e h

-- What a slot passes on has come to another, and its state has gone, unless another slot is still to take it.
pub come_delivered : (p : Subject) (order : List ℕ) (n from to : ℕ) (old new : Links)
    (states later : List (Option AbsState)) (next : Next) (i : Insn)
    (state : AbsState) (keep : Bool) → AreInStates p (in_state p) → 0 < to → to < length p.code → from ≢ to →
    HasPropagated p order n old states → IsAmong order n from → (IsAmong order n to → ⊥) →
    insn_at p.code from ≡ Some i →
    slice_index_or states from None ≡ Some state → IsJoint p.code from to → AreNext p.code from next →
    slice_index_or old.first to None ≡ Some from →
    length later ≡ length states →
    ((s : ℕ) → s ≢ to → s ≢ from → slice_index_or later s None ≡ slice_index_or states s None) →
    slice_index_or later from None ≡ (if keep then slice_index_or states from None else None) →
    in_state_of (slice_index_or later to None) ≡ joined_in_state
    (joined_in_state (joined_in_state (in_state_of (slice_index_or states to None))
    (if_leads_to (leads_at p.code from Always) to (Reached (transferred i Always state))))
    (if_leads_to (leads_at p.code from NotTaken) to (Reached (transferred i NotTaken state))))
    (if_leads_to (leads_at p.code from Taken) to (Reached (transferred i Taken state))) →
    new.first ≡ slice_set old.first to (link_of old next from to) → new.following ≡ old.following →
    new.taken ≡ old.taken → new.edges ≡ old.edges →
    (keep ≡ false → (s : ℕ) → IsJoint p.code from s → s ≢ to → IsPast (slice_index_or old.first s None) from) →
    HasPropagated p order n new later
come_delivered p order n from to old new states later next i state keep solves more within apart h among none insn there joint are first long others gone
    met_is note following taken edges free = by_keep keep gone free
  where
    linked : IsLinked p.code new
    linked = linked_noted p.code old new to (link_of old next from to) h.linked note following taken edges

    room : to < length old.first
    room = omega (arith, within, h.linked.firsts)

    first_new : slice_index_or new.first to None ≡ link_of old next from to
    first_new = ap (λ (l : List (Option ℕ)). slice_index_or l to None) note ∙ get_or-set_same old.first to
        (link_of old next from to) None room

    next_new : IsNextSource p.code to (suc from) (slice_index_or new.first to None)
    next_new = subst (λ (o : Option ℕ). IsNextSource p.code to (suc from) o) (sym first_new)
        (h.linked.after from to next are joint)

    firsts : (s : ℕ) → s ≢ to → slice_index_or new.first s None ≡ slice_index_or old.first s None
    firsts s ne = ap (λ (l : List (Option ℕ)). slice_index_or l s None) note ∙ get_or-set_other old.first to s
        (link_of old next from to) None ne

    in_states : IsVisited p from state
    in_states = sent_there p old.first from (slice_index_or states from None) state there (h.out_state from among)

    before : IsJoint p.code from to
        × (in_state_of (slice_index_or states to None) ≡ joined_edges p (in_state p) to from)
    before = pulled_from p to (slice_index_or states to None) (slice_index_or old.first to None) from first
        (h.pulled to within none)

    pulled : IsPartlyJoined p to (slice_index_or later to None) (slice_index_or new.first to None)
    pulled =
        let le : suc from ≤ length p.code = joint_within p to from joint in
        pulled_on p to (suc from) (slice_index_or later to None)
        (slice_index_or new.first to None) solves more within next_new le
        (pulled_allowed p to from i state (slice_index_or states to None)
        (slice_index_or later to None) insn in_states.arrives
        (subst (λ (j : Insn). fault_of j ≡ None)
        (one_some (insn_at p.code from) in_states.insn i in_states.there insn) in_states.allowed) before.1 met_is)
      where
        fault_of : Insn → Option Rule
        fault_of j = fault p.need p.helpers j state

    on : (k : ℕ) → IsPast (slice_index_or old.first to None) k → IsPast (slice_index_or new.first to None) k
    on k past = past_next p.code from to k (slice_index_or old.first to None)
        (slice_index_or new.first to None) first next_new past

    -- with the state that goes still there
    middle : List (Option AbsState)
    middle = slice_set states to (slice_index_or later to None)

    middle_to : slice_index_or middle to None ≡ slice_index_or later to None
    middle_to =
        let lt : to < length states =
        omega (arith, within, h.slots) in get_or-set_same states to (slice_index_or later to None) None lt

    middle_other : (s : ℕ) → s ≢ to → slice_index_or middle s None ≡ slice_index_or states s None
    middle_other s ne = get_or-set_other states to s (slice_index_or later to None) None ne

    come_middle : HasPropagated p order n new middle
    come_middle =
        come_on p order n to old new states middle h linked
        (length-set states to (slice_index_or later to None)) none middle_other firsts
        (subst (λ (u : Option AbsState). IsPartlyJoined p to u (slice_index_or new.first to None))
        (sym middle_to) pulled) on

    all_taken : ((s : ℕ) → IsJoint p.code from s → s ≢ to → IsPast (slice_index_or old.first s None) from) →
        HasPropagatedAll p new.first from
    all_taken past s j = elim (cases_eq s to) [
      | inl e ↦ subst (λ (k : ℕ). IsPast (slice_index_or new.first k None) from) (sym e)
          (past_here p.code from to (slice_index_or new.first to None) next_new)
      | inr ne ↦ subst (λ (o : Option ℕ). IsPast o from) (sym (firsts s ne)) (past s j ne)
    ]

    later_other : (s : ℕ) → s ≢ from → slice_index_or later s None ≡ slice_index_or middle s None
    later_other s ne = elim (cases_eq s to) [
      | inl e ↦ subst (λ (k : ℕ). slice_index_or later k None ≡ slice_index_or middle k None) (sym e) (sym middle_to)
      | inr other ↦ others s other ne ∙ sym (middle_other s other)
    ]

    by_keep : (b : Bool) → slice_index_or later from None ≡ (if b then slice_index_or states from None else None) →
        (b ≡ false → (s : ℕ) → IsJoint p.code from s → s ≢ to → IsPast (slice_index_or old.first s None) from) →
        HasPropagated p order n new later
    by_keep true stays f =
        come_on p order n to old new states later h linked long none
        (λ s ne. elim (cases_eq s from) [
          | inl e ↦ subst (λ (k : ℕ). slice_index_or later k None ≡ slice_index_or states k None) (sym e) stays
          | inr other ↦ others s ne other
        ]) firsts pulled on
    by_keep false away f =
        come_away p order n from new middle later come_middle among
        (long ∙ sym (length-set states to (slice_index_or later to None))) later_other away (all_taken (f refl))

-- ---- one place more

pub not_among : (code : Code) (order : List ℕ) (n : ℕ) → IsOrder code order → n < length order →
    IsAmong order n (slice_index order n) → ⊥
not_among code order n f lt m =
    let same : m.place ≡ n = f.once m.place n m.within lt m.there in
    let below : m.place < n = m.below in omega (arith, same, below)

-- the slots that lead to the slot at a place are at those ahead of it
pub joint_among : (p : Subject) (order : List ℕ) (n k : ℕ) → IsOrder p.code order → n < length order →
    IsJoint p.code k (slice_index order n) → IsAmong order n k
joint_among p order n k f lt (fact, edge) =
    let at = behind_place p order n f lt k fact edge in
    record { place = at.0; below = at.1; within = at.2; there = at.3 }

-- and those that it leads to are at later ones
pub joint_later : (code : Code) (order : List ℕ) (n s : ℕ) → IsOrder code order → n < length order →
    IsJoint code (slice_index order n) s →
    IsAmong order (suc n) s → ⊥
joint_later code order n s f lt (fact, edge) m =
    let on = subst (λ (k : ℕ). IsEdge code (slice_index order n) fact k) (sym m.there) edge in
    let later : n < m.place = f.onward n m.place fact lt m.within on in
    let below : m.place < suc n = m.below in
    omega (arith, later, below)

pub among_more : (order : List ℕ) (n s : ℕ) → IsAmong order n s → IsAmong order (suc n) s
among_more order n s m =
    let below : m.place < n = m.below in
    let lt : m.place < suc n = omega (arith, below) in
    record { place = m.place; below = lt; within = m.within; there = m.there }

pub among_here : (order : List ℕ) (n : ℕ) → n < length order → IsAmong order (suc n) (slice_index order n)
among_here order n lt =
    let more : n < suc n = omega arith in record { place = n; below = more; within = lt; there = refl }

-- the slot at the place, and what it leads to
pub among_at : (order : List ℕ) (n s : ℕ) → n < length order → slice_index order n ≡ s → IsAmong order (suc n) s
among_at order n s lt at = subst (λ (k : ℕ). IsAmong order (suc n) k) at (among_here order n lt)

pub later_at : (code : Code) (order : List ℕ) (n s to : ℕ) → IsOrder code order → n < length order →
    slice_index order n ≡ s → IsJoint code s to →
    IsAmong order (suc n) to → ⊥
later_at code order n s to f lt at joint =
    joint_later code order n to f lt (subst (λ (k : ℕ). IsJoint code k to) (sym at) joint)

-- one at the first places is at the last of them, or ahead
pub among_before : (order : List ℕ) (n s : ℕ) → IsAmong order (suc n) s → s ≢ slice_index order n → IsAmong order n s
among_before order n s m ne = elim (cases_lt m.place n) [
  | inl lt ↦ record { place = m.place; below = lt; within = m.within; there = m.there }
  | inr ge ↦
      let below : m.place < suc n = m.below in
      let same : m.place ≡ n = omega (arith, ge, below) in
      absurd (ne (sym m.there ∙ ap (λ (k : ℕ). slice_index order k) same))
]

-- an instruction has been examined
come_examined : (p : Subject) (order : List ℕ) (n : ℕ) (links : Links) (states later : List (Option AbsState)) →
    n < length order →
    HasPropagated p order n links states → length later ≡ length states →
    ((s : ℕ) → s ≢ slice_index order n → slice_index_or later s None ≡ slice_index_or states s None) →
    IsProcessed p links.first (slice_index order n) (slice_index_or later (slice_index order n) None) →
    HasPropagated p order (suc n) links later
come_examined p order n links states later lt h long others out_state = record {
  linked = h.linked;
  slots = long ∙ h.slots;
  pulled = λ s within not_yet.
      let ne : s ≢ slice_index order n =
      λ e. not_yet (subst (λ (k : ℕ). IsAmong order (suc n) k) (sym e) (among_here order n lt)) in
      pulled_same p s (slice_index_or states s None) (slice_index_or later s None) (slice_index_or links.first s None)
      (slice_index_or links.first s None)
      (others s ne) refl (h.pulled s within (λ m. not_yet (among_more order n s m)));
  out_state = λ s among. elim (cases_eq s (slice_index order n)) [
    | inl e ↦ subst (λ (k : ℕ). IsProcessed p links.first k (slice_index_or later k None)) (sym e) out_state
    | inr ne ↦ sent_on p links.first links.first s (slice_index_or states s None) (slice_index_or later s None)
        (others s ne) (λ t. t)
        (h.out_state s (among_before order n s among ne))
  ];
}

-- it is passed
pub come_passed : (p : Subject) (order : List ℕ) (n : ℕ) (links : Links) (states : List (Option AbsState))
    (state : AbsState) → n < length order →
    HasPropagated p order n links states → IsVisited p (slice_index order n) state →
    slice_index_or states (slice_index order n) None ≡ Some state →
    HasPropagated p order (suc n) links states
come_passed p order n links states state lt h transferred there =
    come_examined p order n links states states lt h refl (λ s ne. refl) (inr (state, transferred, inl there))

-- what it passes on is undefined
pub come_blocked : (p : Subject) (order : List ℕ) (n : ℕ) (links : Links) (states later : List (Option AbsState)) →
    n < length order →
    HasPropagated p order n links states → length later ≡ length states →
    ((s : ℕ) → s ≢ slice_index order n → slice_index_or later s None ≡ slice_index_or states s None) →
    slice_index_or later (slice_index order n) None ≡ None → IsBlocked p (slice_index order n) →
    HasPropagated p order (suc n) links later
come_blocked p order n links states later lt h long others gone blocked =
    come_examined p order n links states later lt h long others (inl (blocked, gone))
