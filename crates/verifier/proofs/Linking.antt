-- The slots that lead to each slot, linked one slot more.
use Rattle.std.proofs.Common.{◌≡◌, ◌⊎◌, ℕ, suc, ◌+◌, ◌≤◌, ◌<◌, ◌≢◌, ◌==◌, List, length, Some, None, Option, ap, sym, ◌∙◌, arith, refl, subst, inl, inr, slice_set, slice_index_or, if◌then◌else◌}
use Rattle.std.proofs.lemmas.Bool.{cases_eq, cases_lt}
use Rattle.std.proofs.lemmas.Bool.Decides.{nat_tests}
use Rattle.std.proofs.lemmas.List.{get_or-set_same, get_or-set_other}
use Rattle.std.proofs.Math.ListN.{length-set}
use Rattle.machine_model.specs.Edges.{Code, Fact, Always, NotTaken, Taken, insn_at, leads, leads_at}
use Rattle.std.specs.Prelude.{option_and_then}
use Rattle.insn_codec.specs.declared.insn.Insn.{Insn}
use Rattle.flow_graph.specs.Cycles.{IsJoint}
use Rattle.flow_graph.specs.Flow.{AreNext}
use Rattle.flow_graph.specs.declared.graph.Next.{Next}
use Rattle.flow_graph.specs.declared.graph.Next.TheVariants.{Zero, One, Two}
use Rattle.verifier.specs.Merges.{one_to, edges_from, edges_below, edges_into}
use Rattle.verifier.specs.Sources.{Links, IsNextSource, link_of, AreLinked, IsLinked}
use Rattle.verifier.proofs.Counting.{edges_zero, counted_more, count_more, counted_few, one_at_most}

-- ---- where the edges of a slot lead

one_end : (o : Option ℕ) (s t : ℕ) → o ≡ Some s → o ≡ Some t → s ≡ t
one_end o s t x y = cc

no_end : (o : Option ℕ) (s : ℕ) → o ≡ None → o ≡ Some s → ⊥
no_end o s x y = cc

pub joint_zero : (code : Code) (p s : ℕ) → AreNext code p Zero → IsJoint code p s → ⊥
joint_zero code p s next (fact, edge) = no_end (leads_at code p fact) s (next.1 fact) edge

pub joint_one : (code : Code) (p to s : ℕ) → AreNext code p (One to) → IsJoint code p s → s ≡ to
joint_one code p to s next (Always, edge) = one_end (leads_at code p Always) s to edge next.0
joint_one code p to s next (NotTaken, edge) = absurd (no_end (leads_at code p NotTaken) s next.1 edge)
joint_one code p to s next (Taken, edge) = absurd (no_end (leads_at code p Taken) s next.2 edge)

pub joint_two : (code : Code) (p following to s : ℕ) → AreNext code p (Two following to) → IsJoint code p s → (s ≡ following) ⊎ (s ≡ to)
joint_two code p following to s next (Always, edge) = absurd (no_end (leads_at code p Always) s next.0 edge)
joint_two code p following to s next (NotTaken, edge) = inl (one_end (leads_at code p NotTaken) s following edge next.1)
joint_two code p following to s next (Taken, edge) = inr (one_end (leads_at code p Taken) s to edge next.2)

-- where both edges lead to one slot
pub one_end_two : (code : Code) (p following to : ℕ) → to ≡ following → AreNext code p (Two following to) → (s : ℕ) → IsJoint code p s → s ≡ following
one_end_two code p following to same next s joint = by_end (joint_two code p following to s next joint)
  where
    by_end : (s ≡ following) ⊎ (s ≡ to) → s ≡ following
    by_end (inl e) = e
    by_end (inr e) = e ∙ same

-- the same, where both edges lead there
pub link_to_one : (p following to : ℕ) (links : Links) → following ≡ to → link_of links (Two following to) p to ≡ slice_index_or links.following p None
link_to_one p following to links same = grind (arith, nat_tests)

pub second_leads : (code : Code) (slot : ℕ) → insn_at code slot ≡ None → (fact : Fact) → leads_at code slot fact ≡ None
second_leads code slot none fact = ap (λ (o : Option Insn). option_and_then (λ i. leads i slot fact) o) none

-- ---- one slot more

-- the slot is the lowest that leads there, or doesn't lead there
next_found : (code : Code) (s n : ℕ) → IsJoint code n s → IsNextSource code s n (Some n)
next_found code s n joint =
    let le : n ≤ n = omega arith in (le, joint, λ p from below j. absurd (omega (arith, from, below)))

next_before : (code : Code) (s n : ℕ) (o : Option ℕ) → (IsJoint code n s → ⊥) → IsNextSource code s (suc n) o → IsNextSource code s n o
next_before code s n None none h = λ p from joint. elim (cases_lt n p) [
  | inl lt ↦ h p lt joint
  | inr ge ↦ let same : p ≡ n = omega (arith, from, ge) in none (subst (λ (q : ℕ). IsJoint code q s) same joint)
]
next_before code s n (Some q) none h =
    let le : n ≤ q = omega (arith, h.0) in (
      le,
      h.1,
      λ p from below joint. elim (cases_lt n p) [
        | inl lt ↦ h.2 p lt below joint
        | inr ge ↦ let same : p ≡ n = omega (arith, from, ge) in none (subst (λ (q : ℕ). IsJoint code q s) same joint)
      ],
    )

-- what the links of one slot are for another: it leads there and is linked first, or it doesn't and nothing has changed
abbrev IsStep : Code → Links → Links → ℕ → Next → ℕ → Type 0
IsStep code old new n next s =
    (IsJoint code n s × (slice_index_or new.first s None ≡ Some n) × (link_of new next n s ≡ slice_index_or old.first s None))
    ⊎ ((IsJoint code n s → ⊥) × (slice_index_or new.first s None ≡ slice_index_or old.first s None))

one_next : (code : Code) (p : ℕ) (a b : Next) → AreNext code p a → AreNext code p b → (links : Links) (s : ℕ) → IsJoint code p s →
    link_of links a p s ≡ link_of links b p s
one_next code p Zero b x y links s joint = absurd (joint_zero code p s x joint)
one_next code p (One to) Zero x y links s joint = absurd (joint_zero code p s y joint)
one_next code p (One to) (One other) x y links s joint = refl
one_next code p (One to) (Two following other) x y links s joint = absurd (no_end (leads_at code p Always) to y.0 x.0)
one_next code p (Two following to) Zero x y links s joint = absurd (joint_zero code p s y joint)
one_next code p (Two following to) (One other) x y links s joint = absurd (no_end (leads_at code p Always) other x.0 y.0)
one_next code p (Two following to) (Two other more) x y links s joint =
    let same : following ≡ other = one_end (leads_at code p NotTaken) following other x.1 y.1 in
    ap (λ (f : ℕ). if f == s then slice_index_or links.following p None else slice_index_or links.taken p None) same

-- the edges from slot n on are counted
abbrev pub AreCounted : Code → Links → ℕ → Type 0
AreCounted code links n =
    (length links.edges ≡ length code) × ((s : ℕ) → s < length code → slice_index_or links.edges s 0 + edges_below code s n ≡ edges_into code s)

-- one edge more
pub counted_one : (code : Code) (old new : Links) (n to : ℕ) → AreLinked code old (suc n) → to < length code →
    new.edges ≡ slice_set old.edges to (slice_index_or old.edges to 0 + 1) → ((s : ℕ) → edges_from code n s ≡ one_to (Some to) s) → AreCounted code new n
counted_one code old new n to h within is from =
    let room : to < length old.edges = omega (arith, within, h.counts) in (
      ap length is ∙ (length-set old.edges to (slice_index_or old.edges to 0 + 1) ∙ h.counts),
      λ s lt. counted_more code (slice_index_or old.edges s 0) (slice_index_or new.edges s 0) s n (one_to (Some to) s)
          (ap (λ (xs : List ℕ). slice_index_or xs s 0) is ∙ count_more old.edges to s room) (from s) (h.counted s lt),
    )

-- two edges more
pub counted_two : (code : Code) (old middle new : Links) (n a b : ℕ) → AreLinked code old (suc n) → a < length code → b < length code →
    middle.edges ≡ slice_set old.edges a (slice_index_or old.edges a 0 + 1) →
    new.edges ≡ slice_set middle.edges b (slice_index_or middle.edges b 0 + 1) →
    ((s : ℕ) → edges_from code n s ≡ one_to (Some a) s + one_to (Some b) s) → AreCounted code new n
counted_two code old middle new n a b h low high first second from =
    let room : a < length old.edges = omega (arith, low, h.counts) in
    let long : length middle.edges ≡ length old.edges = ap length first ∙ length-set old.edges a (slice_index_or old.edges a 0 + 1) in
    let space : b < length middle.edges = omega (arith, high, h.counts, long) in (
      ap length second ∙ (length-set middle.edges b (slice_index_or middle.edges b 0 + 1) ∙ (long ∙ h.counts)),
      λ s lt. counted_more code (slice_index_or old.edges s 0) (slice_index_or new.edges s 0) s n (one_to (Some a) s + one_to (Some b) s)
          (let x : slice_index_or new.edges s 0 ≡ slice_index_or middle.edges s 0 + one_to (Some b) s =
          ap (λ (xs : List ℕ). slice_index_or xs s 0) second ∙ count_more middle.edges b s space in
          let y : slice_index_or middle.edges s 0 ≡ slice_index_or old.edges s 0 + one_to (Some a) s =
          ap (λ (xs : List ℕ). slice_index_or xs s 0) first ∙ count_more old.edges a s room in
          omega (arith, x, y)) (from s) (h.counted s lt),
    )

-- there is room to count one edge more, or two
pub room_for_one : (code : Code) (old : Links) (edges : List ℕ) (n to : ℕ) → AreLinked code old (suc n) → length code ≤ 4096 → to < length code →
    edges ≡ old.edges → slice_index_or edges to 0 < 4294967295
room_for_one code old edges n to h few within same =
    let low = counted_few code (slice_index_or old.edges to 0) to (suc n) few (h.counted to within) in
    let e : slice_index_or edges to 0 ≡ slice_index_or old.edges to 0 = ap (λ (xs : List ℕ). slice_index_or xs to 0) same in
    omega (arith, low, e)

pub room_for_two : (code : Code) (old : Links) (edges : List ℕ) (n a b : ℕ) → AreLinked code old (suc n) → length code ≤ 4096 → a < length code →
    b < length code → edges ≡ slice_set old.edges a (slice_index_or old.edges a 0 + 1) → slice_index_or edges b 0 < 4294967295
room_for_two code old edges n a b h few low high same =
    let room : a < length old.edges = omega (arith, low, h.counts) in
    let little = counted_few code (slice_index_or old.edges b 0) b (suc n) few (h.counted b high) in
    let e : slice_index_or edges b 0 ≡ slice_index_or old.edges b 0 + one_to (Some a) b =
    ap (λ (xs : List ℕ). slice_index_or xs b 0) same ∙ count_more old.edges a b room in
    omega (arith, little, e, one_at_most (Some a) b)

linked_by : (code : Code) (old new : Links) (n : ℕ) (next : Next) → AreLinked code old (suc n) → AreNext code n next →
    length new.first ≡ length old.first → length new.following ≡ length old.following → length new.taken ≡ length old.taken →
    ((p : ℕ) → p ≢ n → slice_index_or new.following p None ≡ slice_index_or old.following p None) →
    ((p : ℕ) → p ≢ n → slice_index_or new.taken p None ≡ slice_index_or old.taken p None) →
    ((s : ℕ) → s < length code → IsStep code old new n next s) →
    ((s : ℕ) → IsJoint code n s → s < length code) → AreCounted code new n → AreLinked code new n
linked_by code old new n next h is x y z followings takens step lands counted = record {
  firsts = x ∙ h.firsts;
  followings = y ∙ h.followings;
  takens = z ∙ h.takens;
  counts = counted.0;
  counted = counted.1;
  first = λ s within. first_of s (step s within) (h.first s within);
  after = λ p s other from are joint. elim (cases_eq p n) [
    | inl e ↦ after_here p s other e are joint
    | inr ne ↦ after_there p s other (omega (arith, from, ne)) ne are joint
  ];
}
  where
    first_of : (s : ℕ) → IsStep code old new n next s → IsNextSource code s (suc n) (slice_index_or old.first s None) →
        IsNextSource code s n (slice_index_or new.first s None)
    first_of s (inl (joint, is_first, link)) before = subst (λ (o : Option ℕ). IsNextSource code s n o) (sym is_first) (next_found code s n joint)
    first_of s (inr (none, same)) before =
        subst (λ (o : Option ℕ). IsNextSource code s n o) (sym same) (next_before code s n (slice_index_or old.first s None) none before)

    after_step : (s : ℕ) → IsStep code old new n next s → IsJoint code n s → IsNextSource code s (suc n) (slice_index_or old.first s None) →
        IsNextSource code s (suc n) (link_of new next n s)
    after_step s (inl (joint, is_first, link)) there before = subst (λ (o : Option ℕ). IsNextSource code s (suc n) o) (sym link) before
    after_step s (inr (none, same)) there before = absurd (none there)

    after_here : (p s : ℕ) (other : Next) → p ≡ n → AreNext code p other → IsJoint code p s → IsNextSource code s (suc p) (link_of new other p s)
    after_here p s other e are joint =
        let are' = subst (λ (q : ℕ). AreNext code q other) e are in
        let joint' = subst (λ (q : ℕ). IsJoint code q s) e joint in
        let within = lands s joint' in
        subst (λ (q : ℕ). IsNextSource code s (suc q) (link_of new other q s)) (sym e)
        (subst (λ (o : Option ℕ). IsNextSource code s (suc n) o) (one_next code n next other is are' new s joint')
        (after_step s (step s within) joint' (h.first s within)))

    link_same : (p s : ℕ) (other : Next) → p ≢ n → link_of old other p s ≡ link_of new other p s
    link_same p s Zero ne = refl
    link_same p s (One to) ne = sym (followings p ne)
    link_same p s (Two following to) ne = rw (followings p ne, takens p ne) refl

    after_there : (p s : ℕ) (other : Next) → suc n ≤ p → p ≢ n → AreNext code p other → IsJoint code p s → IsNextSource code s (suc p) (link_of new other p s)
    after_there p s other from ne are joint =
        subst (λ (o : Option ℕ). IsNextSource code s (suc p) o) (link_same p s other ne) (h.after p s other from are joint)

counted_none : (code : Code) (links : Links) (n : ℕ) → AreLinked code links (suc n) → ((fact : Fact) → leads_at code n fact ≡ None) → AreCounted code links n
counted_none code links n h none = (
  h.counts,
  λ s within. counted_more code (slice_index_or links.edges s 0) (slice_index_or links.edges s 0) s n 0 (omega arith) (edges_zero code n s none) (h.counted s within),
)

-- a slot that leads nowhere
pub linked_zero : (code : Code) (links : Links) (n : ℕ) → AreLinked code links (suc n) → AreNext code n Zero → AreLinked code links n
linked_zero code links n h next =
    linked_by code links links n Zero h next refl refl refl (λ p ne. refl) (λ p ne. refl)
    (λ s within. inr (joint_zero code n s next, refl)) (λ s joint. absurd (joint_zero code n s next joint))
    (counted_none code links n h next.1)

-- a slot where no instruction begins
pub linked_second : (code : Code) (links : Links) (n : ℕ) → AreLinked code links (suc n) → ((fact : Fact) → leads_at code n fact ≡ None) → AreLinked code links n
linked_second code links n h none = record {
  firsts = h.firsts;
  followings = h.followings;
  takens = h.takens;
  counts = h.counts;
  counted = (counted_none code links n h none).1;
  first = λ s within. next_before code s n (slice_index_or links.first s None) (no_joint s) (h.first s within);
  after = λ p s other from are joint. elim (cases_eq p n) [
    | inl e ↦ absurd (no_joint s (subst (λ (q : ℕ). IsJoint code q s) e joint))
    | inr ne ↦ let later : suc n ≤ p = omega (arith, from, ne) in h.after p s other later are joint
  ];
}
  where
    no_joint : (s : ℕ) → IsJoint code n s → ⊥
    no_joint s (fact, edge) = no_end (leads_at code n fact) s (none fact) edge

set_same : (xs : List (Option ℕ)) (i : ℕ) (o : Option ℕ) (s : ℕ) → s ≡ i → i < length xs → slice_index_or (slice_set xs i o) s None ≡ o
set_same xs i o s e lt = ap (λ (k : ℕ). slice_index_or (slice_set xs i o) k None) e ∙ get_or-set_same xs i o None lt

-- a slot with one edge, or whose two edges lead to one slot
pub linked_one : (code : Code) (old new : Links) (n to : ℕ) (next : Next) → AreLinked code old (suc n) → AreNext code n next →
    n < length code → to < length code → IsJoint code n to → ((s : ℕ) → IsJoint code n s → s ≡ to) →
    ((links : Links) → link_of links next n to ≡ slice_index_or links.following n None) →
    new.first ≡ slice_set old.first to (Some n) → new.following ≡ slice_set old.following n (slice_index_or old.first to None) →
    new.taken ≡ old.taken → AreCounted code new n → AreLinked code new n
linked_one code old new n to next h is inside within joint only link first following taken counted =
    linked_by code old new n next h is (ap length first ∙ length-set old.first to (Some n))
    (ap length following ∙ length-set old.following n (slice_index_or old.first to None)) (ap length taken)
    (λ p ne. ap (λ (xs : List (Option ℕ)). slice_index_or xs p None) following ∙ get_or-set_other old.following n p (slice_index_or old.first to None) None ne)
    (λ p ne. ap (λ (xs : List (Option ℕ)). slice_index_or xs p None) taken)
    (λ s lt. by_end s (cases_eq s to))
    (λ s j. subst (λ (t : ℕ). t < length code) (sym (only s j)) within) counted
  where
    by_end : (s : ℕ) → (s ≡ to) ⊎ (s ≢ to) → IsStep code old new n next s
    by_end s (inl e) =
        let room : to < length old.first = omega (arith, within, h.firsts) in
        let space : n < length old.following = omega (arith, inside, h.followings) in
        subst (λ (t : ℕ). IsStep code old new n next t) (sym e)
        (inl (
          joint,
          ap (λ (xs : List (Option ℕ)). slice_index_or xs to None) first ∙ get_or-set_same old.first to (Some n) None room,
          link new ∙ (ap (λ (xs : List (Option ℕ)). slice_index_or xs n None) following ∙ get_or-set_same old.following n (slice_index_or old.first to None) None space),
        ))
    by_end s (inr ne) =
        inr (λ j. ne (only s j), ap (λ (xs : List (Option ℕ)). slice_index_or xs s None) first ∙ get_or-set_other old.first to s (Some n) None ne)

-- a slot whose two edges lead to two slots
pub linked_two : (code : Code) (old middle new : Links) (n following to : ℕ) → AreLinked code old (suc n) → AreNext code n (Two following to) →
    n < length code → following < length code → to < length code → to ≢ following →
    middle.first ≡ slice_set old.first following (Some n) → middle.following ≡ slice_set old.following n (slice_index_or old.first following None) →
    middle.taken ≡ old.taken →
    new.first ≡ slice_set middle.first to (Some n) → new.following ≡ middle.following →
    new.taken ≡ slice_set middle.taken n (slice_index_or middle.first to None) → AreCounted code new n → AreLinked code new n
linked_two code old middle new n following to h is inside low high apart a b c x y z counted =
    linked_by code old new n (Two following to) h is
    (ap length x ∙ (length-set middle.first to (Some n) ∙ long)) (ap length y ∙ (ap length b ∙ length-set old.following n (slice_index_or old.first following None)))
    (ap length z ∙ (length-set middle.taken n (slice_index_or middle.first to None) ∙ ap length c))
    (λ p ne. ap (λ (xs : List (Option ℕ)). slice_index_or xs p None) (y ∙ b)
    ∙ get_or-set_other old.following n p (slice_index_or old.first following None) None ne)
    (λ p ne. ap (λ (xs : List (Option ℕ)). slice_index_or xs p None) z
    ∙ (get_or-set_other middle.taken n p (slice_index_or middle.first to None) None ne
    ∙ ap (λ (xs : List (Option ℕ)). slice_index_or xs p None) c))
    (λ s lt. by_end s (cases_eq s to) (cases_eq s following))
    (λ s j. inside_of s (joint_two code n following to s is j)) counted
  where
    inside_of : (s : ℕ) → (s ≡ following) ⊎ (s ≡ to) → s < length code
    inside_of s (inl e) = omega (arith, e, low)
    inside_of s (inr e) = omega (arith, e, high)

    long : length middle.first ≡ length old.first
    long = ap length a ∙ length-set old.first following (Some n)

    first_to : slice_index_or middle.first to None ≡ slice_index_or old.first to None
    first_to = ap (λ (xs : List (Option ℕ)). slice_index_or xs to None) a ∙ get_or-set_other old.first following to (Some n) None apart

    link_to : link_of new (Two following to) n to ≡ slice_index_or new.taken n None
    link_to = let ne : following ≢ to = omega (arith, apart) in grind (arith, nat_tests)

    link_following : link_of new (Two following to) n following ≡ slice_index_or new.following n None
    link_following = grind (arith, nat_tests)

    by_end : (s : ℕ) → (s ≡ to) ⊎ (s ≢ to) → (s ≡ following) ⊎ (s ≢ following) → IsStep code old new n (Two following to) s
    by_end s (inl e) other =
        let room : to < length middle.first = omega (arith, high, h.firsts, long) in
        let space : n < length middle.taken = omega (arith, inside, h.takens, ap length c) in
        subst (λ (t : ℕ). IsStep code old new n (Two following to) t) (sym e)
        (inl (
          (Taken, is.2),
          ap (λ (xs : List (Option ℕ)). slice_index_or xs to None) x ∙ get_or-set_same middle.first to (Some n) None room,
          link_to ∙ (ap (λ (xs : List (Option ℕ)). slice_index_or xs n None) z
              ∙ (get_or-set_same middle.taken n (slice_index_or middle.first to None) None space ∙ first_to)),
        ))
    by_end s (inr ne) (inl e) =
        let room : following < length old.first = omega (arith, low, h.firsts) in
        let space : n < length old.following = omega (arith, inside, h.followings) in
        let other : following ≢ to = omega (arith, apart) in
        subst (λ (t : ℕ). IsStep code old new n (Two following to) t) (sym e)
        (inl (
          (NotTaken, is.1),
          ap (λ (xs : List (Option ℕ)). slice_index_or xs following None) x ∙ (get_or-set_other middle.first to following (Some n) None other
              ∙ (ap (λ (xs : List (Option ℕ)). slice_index_or xs following None) a ∙ get_or-set_same old.first following (Some n) None room)),
          link_following ∙ (ap (λ (xs : List (Option ℕ)). slice_index_or xs n None) (y ∙ b)
              ∙ get_or-set_same old.following n (slice_index_or old.first following None) None space),
        ))
    by_end s (inr ne) (inr other) =
        inr (
          (λ j. neither s ne other (joint_two code n following to s is j)),
          ap (λ (xs : List (Option ℕ)). slice_index_or xs s None) x ∙ (get_or-set_other middle.first to s (Some n) None ne
              ∙ (ap (λ (xs : List (Option ℕ)). slice_index_or xs s None) a ∙ get_or-set_other old.first following s (Some n) None other)),
        )
      where
        neither : (s : ℕ) → s ≢ to → s ≢ following → (s ≡ following) ⊎ (s ≡ to) → ⊥
        neither s ne other (inl e) = other e
        neither s ne other (inr e) = ne e

-- all slots are linked
pub linked_all : (code : Code) (links : Links) → AreLinked code links 0 → IsLinked code links
linked_all code links h = record {
  firsts = h.firsts;
  followings = h.followings;
  takens = h.takens;
  counts = h.counts;
  after = λ p s next are joint. let from : 0 ≤ p = omega arith in h.after p s next from are joint;
  counted = λ s within. let e : slice_index_or links.edges s 0 + 0 ≡ edges_into code s = h.counted s within in omega (arith, e);
}
