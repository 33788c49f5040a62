-- What is found out of one instruction more, and of all of them.
use Rattle.std.proofs.Common.{◌≡◌, ◌⊎◌, Bool, ℕ, zero, suc, ◌≤◌, ◌<◌, ◌≢◌, List, [], ◌∷◌, length, Some, None, Option, ap, sym, ◌∙◌, arith, refl, inl, inr, true, false, nat_lt, slice_index, slice_index_or, slice_set, subst, if◌then◌else◌}
use Rattle.std.proofs.lemmas.Bool.{cases_eq}
use Rattle.std.proofs.lemmas.Bool.Decides.{nat_tests}
use Rattle.std.proofs.lemmas.List.{get_or-set_same, get_or-set_other}
use Rattle.std.proofs.Math.ListN.{length-set}
use Rattle.std.proofs.lemmas.List.FromFn.{length-map-range_with_len, get_or-map-range_with_len}
use Rattle.insn_codec.specs.declared.insn.Insn.{Insn}
use Rattle.machine_model.specs.Edges.{Code, Fact, Begins, insn_at, leads_at, IsEdge}
use Rattle.machine_model.specs.Paths.{IsPathTo, IsReached}
use Rattle.machine_model.proofs.Codes.{begins_within}
use Rattle.flow_graph.specs.Cycles.{IsJoint}
use Rattle.flow_graph.specs.Flow.{IsJoined, IsOrder, IsFlow}
use Rattle.flow_graph.proofs.OrderLemmas.{joint_begins}
use Rattle.instruction_rules.specs.declared.rule.Rule.{Rule}
use Rattle.instruction_rules.specs.declared.state.AbsState.{AbsState}
use Rattle.verifier.specs.declared.states.Fault.{Fault}
use Rattle.instruction_rules.specs.States.{fault, transferred, entry_state}
use Rattle.verifier.specs.InStates.{Subject, InState, Unreached, Undefined, Reached, out_state, unless, edge_state, AreInStates, in_state, state_of, in_states}
use Rattle.verifier.specs.Verdict.{IsAllowedAt, IsFaulty, IsFirstFaulty, IsTable, in_state_of}
use Rattle.verifier.specs.Sources.{Links, AreLinked, IsNextSource}
use Rattle.verifier.specs.Propagation.{IsVisited, IsBlocked, IsPartlyJoined, IsPast, IsProcessed, IsAmong, HasPropagated, IsVisitResult, IsFirst, earlier}
use Rattle.verifier.proofs.Options.{one_some, none_some}
use Rattle.verifier.proofs.Arrivals.{joined_over_stops, joint_past, no_edge_back}
use Rattle.verifier.proofs.Pulling.{landed_at, pulled_on, pulled_undefined, arrives_joined}
use Rattle.verifier.proofs.Soundness.{Below, over_below}
use Rattle.verifier.proofs.Linking.{linked_all}
use Rattle.verifier.proofs.Comings.{passed_not_blocked, not_among, joint_among, among_before, pulled_from, come_blocked}

-- ---- something arrives

below_nothing : (a : InState) → Below a Unreached → a ≡ Unreached
below_nothing Unreached h = refl
below_nothing Undefined h = absurd h
below_nothing (Reached state) h = absurd h

comes_not : (state : AbsState) → Reached state ≡ Unreached → ⊥
comes_not state e = cc

unless_something : (o : Option Rule) (state : AbsState) → unless o state ≡ Unreached → ⊥
unless_something None state e = cc
unless_something (Some rule) state e = cc

sent_something : (p : Subject) (i : Insn) (fact : Fact) (a : InState) → (a ≡ Unreached → ⊥) → out_state p (Some i) fact a ≡ Unreached → ⊥
sent_something p i fact Unreached some e = some refl
sent_something p i fact Undefined some e = cc
sent_something p i fact (Reached state) some e = unless_something (fault p.need p.helpers i state) (transferred i fact state) e

arrives_on : (p : Subject) (q s : ℕ) (fact : Fact) → AreInStates p (in_state p) → s < length p.code → IsEdge p.code q fact s →
    (in_state p q ≡ Unreached → ⊥) → in_state p s ≡ Unreached → ⊥
arrives_on p q zero fact solves within edge some none = comes_not (entry_state p.need) (sym (solves 0 within) ∙ none)
arrives_on p q (suc s) fact solves within edge some none =
    let begins = joint_begins p.code q (suc s) (fact, edge) in
    let passes : edge_state p (in_state p) (suc s) q fact ≡ Unreached = below_nothing (edge_state p (in_state p) (suc s) q fact)
    (subst (λ (a : InState). Below (edge_state p (in_state p) (suc s) q fact) a) (sym (solves (suc s) within) ∙ none)
    (over_below p (in_state p) (suc s) q (length p.code) fact (begins_within p.code q begins))) in
    let sends : out_state p (insn_at p.code q) fact (in_state p q) ≡ Unreached =
    sym (landed_at (leads_at p.code q fact) (suc s) (out_state p (insn_at p.code q) fact (in_state p q)) edge) ∙ passes in
    sent_something p begins.0 fact (in_state p q) some (ap (λ (o : Option Insn). out_state p o fact (in_state p q)) (sym begins.1) ∙ sends)

arrives_along : (p : Subject) (path : List ℕ) (s : ℕ) → AreInStates p (in_state p) → IsJoined p.code → IsPathTo p.code path s → in_state p s ≡ Unreached → ⊥
arrives_along p [] s solves j here none =
    comes_not (entry_state p.need) (sym (solves 0 j.starts) ∙ (ap (λ (k : ℕ). in_state p k) (sym here) ∙ none))
arrives_along p (q ∷ path) s solves j ((fact, edge), before) none =
    arrives_on p q s fact solves (j.lands q fact s edge).0 edge (arrives_along p path q solves j before) none

-- where a path leads something arrives
pub arrives_something : (p : Subject) (s : ℕ) → AreInStates p (in_state p) → IsJoined p.code → IsReached p.code s → in_state p s ≡ Unreached → ⊥
arrives_something p s solves j (path, leads) none = arrives_along p path s solves j leads none

-- ---- at the start

none_yet : (order : List ℕ) (s : ℕ) → IsAmong order 0 s → ⊥
none_yet order s m = let lt : m.place < 0 = m.below in omega (arith, lt)

first_none : (code : Code) (order : List ℕ) (o : Option ℕ) → IsFlow (record { code = code; order = order }) → IsNextSource code 0 0 o → o ≡ None
first_none code order None f next = refl
first_none code order (Some q) f next = absurd (no_edge_back code order q next.1.0 f next.1.1)

pub come_start : (p : Subject) (order : List ℕ) (links : Links) (states : List (Option AbsState)) → IsFlow (record { code = p.code; order = order }) →
    AreInStates p (in_state p) → AreLinked p.code links 0 → length states ≡ length p.code → slice_index_or states 0 None ≡ Some (entry_state p.need) →
    ((s : ℕ) → 0 < s → s < length p.code → slice_index_or states s None ≡ None) → HasPropagated p order 0 links states
come_start p order links states f solves linked long first others = record {
  linked = linked_all p.code links linked;
  slots = long;
  pulled = λ s within none. at_slot s within;
  out_state = λ s among. absurd (none_yet order s among);
}
  where
    at_slot : (s : ℕ) → s < length p.code → IsPartlyJoined p s (slice_index_or states s None) (slice_index_or links.first s None)
    at_slot zero within =
        subst (λ (o : Option ℕ). IsPartlyJoined p 0 (slice_index_or states 0 None) o)
        (sym (first_none p.code order (slice_index_or links.first 0 None) f (linked.first 0 within)))
        (ap in_state_of first ∙ sym (solves 0 within))
    at_slot (suc s) within =
        let more : 0 < suc s = omega arith in
        let least : 0 ≤ length p.code = omega arith in
        pulled_on p (suc s) 0 (slice_index_or states (suc s) None) (slice_index_or links.first (suc s) None) solves more within
        (linked.first (suc s) within) least (ap in_state_of (others (suc s) more within))

-- ---- one instruction

past_itself : (o : Option ℕ) (q : ℕ) → o ≡ Some q → IsPast o q → ⊥
past_itself None q e past = absurd (cc)
past_itself (Some r) q e past =
    let same : r ≡ q = cc in
    let lt : q < r = past in omega (arith, same, lt)

source_blocked : (p : Subject) (firsts : List (Option ℕ)) (q s : ℕ) (o : Option AbsState) → IsJoint p.code q s → slice_index_or firsts s None ≡ Some q →
    o ≡ None → IsProcessed p firsts q o → IsBlocked p q
source_blocked p firsts q s o joint first gone (inl (blocked, none)) = blocked
source_blocked p firsts q s o joint first gone (inr (state, h, inl there)) = absurd (none_some o state gone there)
source_blocked p firsts q s o joint first gone (inr (state, h, inr (none, taken))) =
    absurd (past_itself (slice_index_or firsts s None) q first (taken s joint))

-- the slot that comes next leads there from a place ahead
pub comes_next : (p : Subject) (order : List ℕ) (n s q : ℕ) (links : Links) (states : List (Option AbsState)) → IsFlow (record { code = p.code; order = order }) →
    n < length order → s ≡ slice_index order n → HasPropagated p order n links states → slice_index_or links.first s None ≡ Some q →
    IsJoint p.code q s × IsAmong order n q × (IsAmong order n s → ⊥)
comes_next p order n s q links states f lt at h first =
    let away : IsAmong order n s → ⊥ = λ m. not_among p.code order n f.order lt (subst (λ (k : ℕ). IsAmong order n k) at m) in
    let within = subst (λ (k : ℕ). k < length p.code) (sym at) (begins_within p.code (slice_index order n) (f.order.begins n lt)) in
    let from = pulled_from p s (slice_index_or states s None) (slice_index_or links.first s None) q first (h.pulled s within away) in
    (from.0, joint_among p order n q f.order lt (subst (λ (k : ℕ). IsJoint p.code q k) at from.0), away)

-- what comes next hasn't come, so it is blocked
pub stays_out : (p : Subject) (order : List ℕ) (n s q : ℕ) (links : Links) (states : List (Option AbsState)) → IsFlow (record { code = p.code; order = order }) →
    AreInStates p (in_state p) → s ≡ slice_index order n → n < length order → HasPropagated p order n links states → slice_index_or links.first s None ≡ Some q →
    slice_index_or states q None ≡ None →
    (in_state p s ≡ Undefined) × ((k : ℕ) × IsAmong order n k × IsBlocked p k)
stays_out p order n s q links states f solves at lt h first gone =
    let within = subst (λ (k : ℕ). k < length p.code) (sym at) (begins_within p.code (slice_index order n) (f.order.begins n lt)) in
    let next = comes_next p order n s q links states f lt at h first in
    let blocked = source_blocked p links.first q s (slice_index_or states q None) next.0 first gone (h.out_state q next.1) in (
      arrives_joined p s solves (joint_past p.code order q s f next.0) within ∙ pulled_undefined p s q next.0 blocked,
      (q, next.1, blocked),
    )

all_pulled : (p : Subject) (s : ℕ) (state : Option AbsState) (o : Option ℕ) → o ≡ None → IsPartlyJoined p s state o → in_state_of state ≡ in_state p s
all_pulled p s state o e h = subst (λ (r : Option ℕ). IsPartlyJoined p s state r) e h

-- all has come
pub all_come : (p : Subject) (order : List ℕ) (n s : ℕ) (links : Links) (states : List (Option AbsState)) → IsOrder p.code order → s ≡ slice_index order n →
    n < length order → HasPropagated p order n links states → slice_index_or links.first s None ≡ None → in_state_of (slice_index_or states s None) ≡ in_state p s
all_come p order n s links states f at lt h none =
    let within = subst (λ (k : ℕ). k < length p.code) (sym at) (begins_within p.code (slice_index order n) (f.begins n lt)) in
    let away : IsAmong order n s → ⊥ = λ m. not_among p.code order n f lt (subst (λ (k : ℕ). IsAmong order n k) at m) in
    all_pulled p s (slice_index_or states s None) (slice_index_or links.first s None) none (h.pulled s within away)

pub comes_there : (a : InState) (o : Option AbsState) (state : AbsState) → o ≡ Some state → in_state_of o ≡ a → a ≡ Reached state
comes_there a o state e is = sym is ∙ ap in_state_of e

pub nothing_there : (a : InState) (o : Option AbsState) → o ≡ None → in_state_of o ≡ a → a ≡ Unreached
nothing_there a o e is = sym is ∙ ap in_state_of e

sent_undefined : (p : Subject) (o : Option Insn) (fact : Fact) → out_state p o fact Undefined ≡ Undefined
sent_undefined p None fact = refl
sent_undefined p (Some i) fact = refl

pub blocked_by : (p : Subject) (s : ℕ) → in_state p s ≡ Undefined → IsBlocked p s
blocked_by p s e fact = ap (λ (a : InState). out_state p (insn_at p.code s) fact a) e ∙ sent_undefined p (insn_at p.code s) fact

pub blocked_at_fault : (p : Subject) (s : ℕ) (rule : Rule) → IsFaulty p s rule → IsBlocked p s
blocked_at_fault p s rule h fact =
    ap (λ (o : Option Insn). out_state p o fact (in_state p s)) h.there
    ∙ (ap (λ (a : InState). out_state p (Some h.insn) fact a) h.arrives
    ∙ ap (λ (o : Option Rule). unless o (transferred h.insn fact h.state)) h.applies)

-- what arrives isn't two things
pub never : (a : InState) (state : AbsState) → a ≡ Undefined → a ≡ Reached state → ⊥
never a state p q = cc

one_arrived : (a : InState) (s t : AbsState) → a ≡ Reached s → a ≡ Reached t → s ≡ t
one_arrived a s t x y = cc

-- an instruction that is passed is allowed
allowed_passed : (p : Subject) (s : ℕ) (state : AbsState) → IsVisited p s state → IsAllowedAt p s
allowed_passed p s state h i other there arrives =
    subst (λ (j : Insn). fault p.need p.helpers j other ≡ None) (one_some (insn_at p.code s) h.insn i h.there there)
    (subst (λ (t : AbsState). fault p.need p.helpers h.insn t ≡ None) (one_arrived (in_state p s) state other h.arrives arrives) h.allowed)

allowed_found : (p : Subject) (order : List ℕ) (n s : ℕ) → IsVisitResult p order n s None → IsAllowedAt p s
allowed_found p order n s (inl (state, h)) = allowed_passed p s state h
allowed_found p order n s (inr (undefined, h)) = λ i state there arrives. absurd (never (in_state p s) state undefined arrives)

passed_found : (p : Subject) (order : List ℕ) (n s : ℕ) → ((k : ℕ) → IsAmong order n k → (state : AbsState) × IsVisited p k state) →
    IsVisitResult p order n s None → (state : AbsState) × IsVisited p s state
passed_found p order n s told (inl h) = h
passed_found p order n s told (inr (undefined, (k, among, blocked))) =
    let h = told k among in absurd (passed_not_blocked p k h.0 h.1 blocked)

-- the slot's state goes, where what it passes on is undefined
pub come_cleared : (p : Subject) (order : List ℕ) (n s : ℕ) (links : Links) (states : List (Option AbsState)) → s ≡ slice_index order n → n < length order →
    s < length states → HasPropagated p order n links states → IsBlocked p s → HasPropagated p order (suc n) links (slice_set states s None)
come_cleared p order n s links states at lt room h blocked =
    come_blocked p order n links states (slice_set states s None) lt h (length-set states s None)
    (λ k ne. get_or-set_other states s k None None (λ e. ne (e ∙ at)))
    (subst (λ (k : ℕ). slice_index_or (slice_set states s None) k None ≡ None) at (get_or-set_same states s None None room))
    (subst (λ (k : ℕ). IsBlocked p k) at blocked)

-- ---- the first fault

-- one more has none of its own
pub first_same : (p : Subject) (order : List ℕ) (n : ℕ) (first : Option Fault) → IsFirst p order n first → IsVisitResult p order n (slice_index order n) None →
    IsFirst p order (suc n) first
first_same p order n None told found = λ s m. elim (cases_eq s (slice_index order n)) [
  | inl e ↦ subst (λ (k : ℕ). (state : AbsState) × IsVisited p k state) (sym e) (passed_found p order n (slice_index order n) told found)
  | inr ne ↦ told s (among_before order n s m ne)
]
first_same p order n (Some f) told found = (
  told.0,
  λ s m below. elim (cases_eq s (slice_index order n)) [
    | inl e ↦ subst (λ (k : ℕ). IsAllowedAt p k) (sym e) (allowed_found p order n (slice_index order n) found)
    | inr ne ↦ told.1 s (among_before order n s m ne) below
  ],
)

earlier_faulty : (p : Subject) (first : Option Fault) (f : Fault) → IsFaulty p f.slot f.rule →
    ((g : Fault) → first ≡ Some g → IsFaulty p g.slot g.rule) → IsFaulty p (earlier first f).slot (earlier first f).rule
earlier_faulty p None f h before = h
earlier_faulty p (Some g) f h before = by_test (nat_lt g.slot f.slot)
  where
    by_test : (b : Bool) → IsFaulty p (if b then g else f).slot (if b then g else f).rule
    by_test true = before g refl
    by_test false = h

earlier_low : (first : Option Fault) (f : Fault) → (earlier first f).slot ≤ f.slot
earlier_low None f = let le : f.slot ≤ f.slot = omega arith in le
earlier_low (Some g) f = grind (arith, nat_tests)

earlier_below : (g f : Fault) → (earlier (Some g) f).slot ≤ g.slot
earlier_below g f = grind (arith, nat_tests)

-- one more has one
pub first_fault : (p : Subject) (order : List ℕ) (n : ℕ) (first : Option Fault) (f : Fault) → IsFirst p order n first →
    IsVisitResult p order n (slice_index order n) (Some f) → IsFirst p order (suc n) (Some (earlier first f))
first_fault p order n None f told (at, h) = (
  h,
  λ s m below.
      let ne : s ≢ slice_index order n = omega (arith, below, at) in
      let before = told s (among_before order n s m ne) in allowed_passed p s before.0 before.1,
)
first_fault p order n (Some g) f told (at, h) = (
  earlier_faulty p (Some g) f h (λ k e. subst (λ (j : Fault). IsFaulty p j.slot j.rule) (same_fault g k e) told.0),
  λ s m below.
      let low = earlier_low (Some g) f in
      let under = earlier_below g f in
      let ne : s ≢ slice_index order n = omega (arith, below, at, low) in
      let before : s < g.slot = omega (arith, below, under) in
      told.1 s (among_before order n s m ne) before,
)
  where
    same_fault : (g k : Fault) → Some g ≡ Some k → g ≡ k
    same_fault g k e = cc

-- ---- all places

pub all_among : (p : Subject) (order : List ℕ) (n s : ℕ) → IsOrder p.code order → n ≡ length order → Begins p.code s → IsAmong order n s
all_among p order n s f all begins =
    let at = f.each s begins in
    let below : at.0 < n = omega (arith, at.1, all) in
    record { place = at.0; below = below; within = at.1; there = at.2 }

pub begun_or_not : (code : Code) (s : ℕ) → Begins code s ⊎ (insn_at code s ≡ None)
begun_or_not code s = by_insn (insn_at code s) refl
  where
    by_insn : (o : Option Insn) → insn_at code s ≡ o → Begins code s ⊎ (insn_at code s ≡ None)
    by_insn None e = inr e
    by_insn (Some i) e = inl (i, e)

second_allowed : (p : Subject) (s : ℕ) → insn_at p.code s ≡ None → IsAllowedAt p s
second_allowed p s none i state there arrives = absurd (none_some (insn_at p.code s) i none there)

-- nothing leads to the second slot of a wide instruction
pub second_arrives : (p : Subject) (s : ℕ) → IsJoined p.code → AreInStates p (in_state p) → s < length p.code → insn_at p.code s ≡ None → in_state p s ≡ Unreached
second_arrives p zero j h lt none = absurd (none_some (insn_at p.code 0) j.opens.0 none j.opens.1)
second_arrives p (suc s) j h lt none =
    h (suc s) lt ∙ joined_over_stops p (in_state p) (suc s) 0 (length p.code) (length p.code) (omega arith)
    (λ k from below fact edge. none_some (insn_at p.code (suc s)) (j.lands k fact (suc s) edge).1.0 none (j.lands k fact (suc s) edge).1.1)

-- the list of what arrives
pub arrived_at : (p : Subject) (s : ℕ) → s < length p.code → slice_index_or (in_states p) s None ≡ state_of (in_state p s)
unfolding in_states
arrived_at p s within = get_or-map-range_with_len (λ (k : ℕ). state_of (in_state p k)) 0 (length p.code) s s None within (omega arith)

pub arrived_long : (p : Subject) → length (in_states p) ≡ length p.code
unfolding in_states
arrived_long p = length-map-range_with_len (λ (k : ℕ). state_of (in_state p k)) 0 (length p.code)

arrival_back : (a : InState) → (a ≡ Undefined → ⊥) → in_state_of (state_of a) ≡ a
arrival_back Unreached ne = refl
arrival_back Undefined ne = absurd (ne refl)
arrival_back (Reached state) ne = refl

-- no instruction has a fault
pub all_passed : (p : Subject) (order : List ℕ) (n : ℕ) → IsJoined p.code → IsOrder p.code order → AreInStates p (in_state p) → n ≡ length order →
    IsFirst p order n None → IsTable p (in_states p)
all_passed p order n j f solves all told = record {
  slots = arrived_long p;
  each = λ s lt. ap in_state_of (arrived_at p s lt) ∙ arrival_back (in_state p s) (defined s lt);
  allowed = λ s. elim (begun_or_not p.code s) [
    | inl begins ↦ let h = told s (all_among p order n s f all begins) in allowed_passed p s h.0 h.1
    | inr none ↦ second_allowed p s none
  ];
}
  where
    defined : (s : ℕ) → s < length p.code → in_state p s ≡ Undefined → ⊥
    defined s lt undefined = elim (begun_or_not p.code s) [
      | inl begins ↦ let h = told s (all_among p order n s f all begins) in never (in_state p s) h.0 undefined h.1.arrives
      | inr none ↦ not_both (in_state p s) undefined (second_arrives p s j solves lt none)
    ]
      where
        not_both : (a : InState) → a ≡ Undefined → a ≡ Unreached → ⊥
        not_both a x y = cc

-- the first fault is at the lowest slot
pub come_refused : (p : Subject) (order : List ℕ) (first : Fault) (n : ℕ) →
    IsOrder p.code order → n ≡ length order → IsFirst p order n (Some first) → IsFirstFaulty p first.slot first.rule
come_refused p order first n f all told = record {
  faulty = told.0;
  least = λ s below. elim (begun_or_not p.code s) [
    | inl begins ↦ told.1 s (all_among p order n s f all begins) below
    | inr none ↦ second_allowed p s none
  ];
}
