-- What the rule of a lane tells a caller.
use Rattle.std.proofs.Common.{◌≡◌, ◌≢◌, inl, inr, ℕ, suc, ◌+◌, ◌≤◌, ◌<◌, ◌==◌, if◌then◌else◌, true, List, [], ◌∷◌, ◌++◌, All, Some, map, length, set, sym, refl, ap, subst, ◌∙◌, eq-eqb, ne_eqb, arith}
use Rattle.std.specs.Prelude.{slice_get}
use Rattle.std.proofs.lemmas.List.{map-append}
use Rattle.std.proofs.lemmas.List.Elements.{All-cons}
use mathlib.Core.Option.{some, some-injective}
use mathlib.Core.Logic.{dite}
use native.Mathlib.Decide.{dec_lt, ℕ_discrete}
use lib.ListN.{get_elem?}
use Rattle.crossbeam_deque.specs.Tasks.{Finds, FindsFew, Blocks, Learns}
use Rattle.lanes.specs.declared.moves.TicketData.{TicketData}
use Rattle.lanes.specs.declared.moves.Moves.{Moves}
use Rattle.lanes.specs.Interleaving.{IsInterleaving, Stands, FoundNone, ThiefFoundNone, HasNoFreeSlot}
use Rattle.lanes.specs.Laws.{KnowItsName}
use Rattle.lanes.specs.Rule.{Interleaved, taken_by, times}

abbrev pub one : ℕ → ℕ → ℕ
one k n = if k == n then 1 else 0

pub one_same : (k n : ℕ) → k ≡ n → one k n ≡ 1
one_same k n e = rw (eq-eqb k n e) refl

pub one_other : (k n : ℕ) → k ≢ n → one k n ≡ 0
one_other k n e = rw (ne_eqb k n e) refl

times-append : (n : ℕ) (xs ys : List ℕ) → times n (xs ++ ys) ≡ times n xs + times n ys
times-append n [] ys = omega arith
times-append n (x ∷ xs) ys = let h = times-append n xs ys in omega (arith, h)

pub times_few : (n : ℕ) (xs : List ℕ) → times n xs ≤ length xs
times_few n [] = omega arith
times_few n (x ∷ xs) = let h = times_few n xs in
    dite (ℕ_discrete x n) (λ e. let is = one_same x n e in omega (arith, h, is)) (λ e. let is = one_other x n e in omega (arith, h, is))

long : {A B : Type 0} (f : A → B) (xs : List A) → length (map f xs) ≡ length xs
long f [] = refl
long f (x ∷ xs) = ap suc (long f xs)

map_same : {A : Type 0} (f g : ℕ → A) (k : ℕ) (ns : List ℕ) → ((c : ℕ) → c ≢ k → f c ≡ g c) → times k ns ≡ 0 → map f ns ≡ map g ns
map_same f g k [] same none = refl
map_same f g k (n ∷ ns) same none =
    dite (ℕ_discrete n k)
    (λ e. let is = one_same n k e in absurd (let never : ⊥ = omega (arith, none, is) in never))
    (λ e. let more : times k ns ≡ 0 = omega (arith, none) in ap (λ y. y ∷ map f ns) (same n e) ∙ ap (λ l. g n ∷ l) (map_same f g k ns same more))

-- where something stands that is known by its number
found : {A : Type 0} (f : ℕ → A) (k : ℕ) (ns : List ℕ) → 0 < times k ns → (place : ℕ) × (slice_get (map f ns) place ≡ Some (f k))
found f k [] lt = absurd (let never : ⊥ = omega (arith, lt) in never)
found f k (n ∷ ns) lt =
    dite (ℕ_discrete n k)
    (λ e. (0, ap (λ (m : ℕ). Some (f m)) e))
    (λ e. let is = one_other n k e in let more : 0 < times k ns = omega (arith, lt, is) in let h = found f k ns more in (suc h.0, h.1))

-- the same, where it alone changes
spot : {A : Type 0} (f g : ℕ → A) (k : ℕ) (ns : List ℕ) → ((c : ℕ) → c ≢ k → f c ≡ g c) → times k ns ≡ 1
    → (place : ℕ) × (slice_get (map f ns) place ≡ Some (f k)) × (set (map f ns) place (g k) ≡ map g ns)
spot f g k [] same one_of = absurd (let never : ⊥ = omega (arith, one_of) in never)
spot f g k (n ∷ ns) same one_of =
    dite (ℕ_discrete n k)
    (λ e. let is = one_same n k e in let none : times k ns ≡ 0 = omega (arith, one_of, is) in
    (0, ap (λ (m : ℕ). Some (f m)) e, ap (λ (m : ℕ). g m ∷ map f ns) (sym e) ∙ ap (λ l. g n ∷ l) (map_same f g k ns same none)))
    (λ e. let is = one_other n k e in let more : times k ns ≡ 1 = omega (arith, one_of, is) in let h = spot f g k ns same more in
    (suc h.0, h.1, ap (λ y. y ∷ set (map f ns) h.0 (g k)) (same n e) ∙ ap (λ l. g n ∷ l) h.2))

all_empty : (names : List ℕ) → All (λ (l : List TicketData). l ≡ []) (map (λ (c : ℕ). taken_by c []) names)
all_empty [] = λ k d lt. absurd (let never : ⊥ = omega (arith, lt) in never)
all_empty (n ∷ ns) = All-cons (λ (l : List TicketData). l ≡ []) [] (map (λ (c : ℕ). taken_by c []) ns) refl (all_empty ns)

not_both : (t : TicketData) (ts l : List TicketData) → l ≡ t ∷ ts → l ≡ [] → ⊥
not_both t ts l is none = cc

-- what left in one order is an interleaving of what each caller took
interleaves : (order : List (ℕ × TicketData)) (names : List ℕ) → ((c : ℕ) → times c names ≤ 1) → ((c : ℕ) → times c names ≡ 0 → taken_by c order ≡ [])
    → IsInterleaving (map (λ c. taken_by c order) names) (map (λ (e : ℕ × TicketData). e.1) order)
interleaves [] names apart nobody = all_empty names
interleaves (e ∷ es) names apart nobody =
    let f : ℕ → List TicketData = λ c. taken_by c (e ∷ es) in
    let g : ℕ → List TicketData = λ c. taken_by c es in
    let same : (c : ℕ) → c ≢ e.0 → f c ≡ g c = λ c n. rw (ne_eqb e.0 c (λ p. n (sym p))) refl in
    let first : f e.0 ≡ e.1 ∷ g e.0 = rw (eq-eqb e.0 e.0 refl) refl in
    let most = apart e.0 in
    let here : times e.0 names ≡ 1 = dite (ℕ_discrete (times e.0 names) 0)
    (λ z. absurd (not_both e.1 (g e.0) (f e.0) first (nobody e.0 z)))
    (λ n. omega (arith, most, n)) in
    let at = spot f g e.0 names same here in (
      at.0,
      g e.0,
      at.1 ∙ ap Some first,
      subst (λ (l : List (List TicketData)). IsInterleaving l (map (λ (x : ℕ × TicketData). x.1) es)) (sym at.2)
          (interleaves es names apart (λ c z. dite (ℕ_discrete c e.0)
          (λ p. absurd (let zero_here : times e.0 names ≡ 0 = subst (λ (n : ℕ). times n names ≡ 0) p z in let never : ⊥ = omega (arith, zero_here, here) in never))
          (λ n. sym (same c n) ∙ nobody c z))),
    )

module _ {X : Type 0} (task : X → TicketData) where
  pub told : (items : List X) (views : List Moves) (v : Moves) (h : Interleaved task items views) → get_elem? views 0 ≡ some v
      → IsInterleaving (v.taken ∷ map (λ c. taken_by c h.order) h.out ++ v.gathered) (map (λ (e : ℕ × TicketData). e.1) h.order)
  told items views v h at =
      let mine : v ≡ h.owner = some-injective v h.owner (sym at ∙ h.owner_is) in
      let f : ℕ → List TicketData = λ c. taken_by c h.order in
      let owns = h.owns in
      let sums : (c : ℕ) → times c (h.out ++ h.back) ≡ times c h.out + times c h.back = λ c. times-append c h.out h.back in
      let apart : (c : ℕ) → times c (0 ∷ h.out ++ h.back) ≤ 1
      = λ c. let sum = sums c in dite (ℕ_discrete 0 c)
      (λ z. let is = one_same 0 c z in let none : times c h.out + times c h.back ≡ 0 = subst (λ (n : ℕ). times n h.out + times n h.back ≡ 0) z owns in omega (arith, is, none, sum))
      (λ n. let is = one_other 0 c n in dite (dec_lt c (length views))
      (λ lt. let one_of = h.once c (omega (arith, n)) lt in omega (arith, is, one_of, sum))
      (λ ge. let none = h.none_beyond c (omega (arith, ge)) in omega (arith, is, none, sum))) in
      let nobody : (c : ℕ) → times c (0 ∷ h.out ++ h.back) ≡ 0 → taken_by c h.order ≡ []
      = λ c z. let sum = sums c in dite (ℕ_discrete 0 c)
      (λ p. let is = one_same 0 c p in absurd (let never : ⊥ = omega (arith, is, z) in never))
      (λ n. h.nobody_else c (omega (arith, n)) (omega (arith, z, sum))) in
      let lists : map f (0 ∷ h.out ++ h.back) ≡ v.taken ∷ map f h.out ++ v.gathered
      = ap (λ l. taken_by 0 h.order ∷ l) (map-append f h.out h.back ∙ ap (λ l. map f h.out ++ l) (sym (ap (λ (m : Moves). m.gathered) mine ∙ h.gathered)))
      ∙ ap (λ l. l ∷ map f h.out ++ v.gathered) (sym (ap (λ (m : Moves). m.taken) mine ∙ h.own)) in
      subst (λ (l : List (List TicketData)). IsInterleaving l (map (λ (e : ℕ × TicketData). e.1) h.order)) lists (interleaves h.order (0 ∷ h.out ++ h.back) apart nobody)

  pub counted : (items : List X) (views : List Moves) (v : Moves) (h : Interleaved task items views) → get_elem? views 0 ≡ some v
      → length (map (λ c. taken_by c h.order) h.out) + length v.gathered ≡ v.thieves
  counted items views v h at =
      let mine : v ≡ h.owner = some-injective v h.owner (sym at ∙ h.owner_is) in
      let outs = long (λ (c : ℕ). taken_by c h.order) h.out in
      let backs = ap length (ap (λ (m : Moves). m.gathered) mine ∙ h.gathered) ∙ long (λ (c : ℕ). taken_by c h.order) h.back in
      let count = h.count in
      let thieves : v.thieves ≡ h.owner.thieves = ap (λ (m : Moves). m.thieves) mine in
      omega (arith, outs, backs, count, thieves)

  -- the owner, in the lane as it stands
  abbrev pub stands_of : (items : List X) (views : List Moves) (v : Moves) → Interleaved task items views → get_elem? views 0 ≡ some v → Stands task items v
  stands_of items views v h at = record {
    out = map (λ c. taken_by c h.order) h.out;
    count = counted items views v h at;
    shared = record {
      left = map (λ (e : ℕ × TicketData). e.1) h.order;
      interleaved = told items views v h at;
      whole = ap (λ (m : Moves). m.pushed) (some-injective v h.owner (sym at ∙ h.owner_is)) ∙ h.whole;
    };
  }

  pub looks : (v : Moves) → Learns (Interleaved task) 0 v (λ items. Stands task items v)
  looks v items views h at = stands_of items views v h at

  pub finds_none : (v : Moves) → Finds (Interleaved task) 0 v (FoundNone task v)
  finds_none v views h at = stands_of [] views v h at

  empty_of : (items : List X) → length items ≤ 0 → items ≡ []
  empty_of [] le = refl
  empty_of (x ∷ xs) le = absurd (let never : ⊥ = omega (arith, le) in never)

  found_there : (caller : ℕ) (v : Moves) (views : List Moves) → v.steals ≡ true → Interleaved task [] views → get_elem? views caller ≡ some v → ThiefFoundNone task v
  found_there caller v views may h at =
      let seat = h.seats caller v at may in
      let here = found (λ (c : ℕ). taken_by c h.order) caller h.out seat.0 in
      record {
        owner = h.owner;
        none = stands_of [] views h.owner h h.owner_is;
        place = here.0;
        here = here.1 ∙ ap Some (sym seat.1);
      }

  pub thief_finds_none : (caller : ℕ) (v : Moves) → v.steals ≡ true → FindsFew (Interleaved task) 0 caller v (ThiefFoundNone task v)
  thief_finds_none caller v may items views few h at = found_there caller v views may (subst (λ (l : List X). Interleaved task l views) (empty_of items few) h) at

  pub is_full : (capacity : ℕ) (v : Moves) → Blocks (Interleaved task) capacity 0 v (HasNoFreeSlot task capacity v)
  is_full capacity v items views why h at = elim why [
    | inl many ↦ inl (record { items = items; many = many; stands = stands_of items views v h at })
    | inr other ↦
        let mine : v ≡ h.owner = some-injective v h.owner (sym at ∙ h.owner_is) in
        let thieves : v.thieves ≡ h.owner.thieves = ap (λ (m : Moves). m.thieves) mine in
        let apart = other.1 in
        let one_of = h.once other.0 (omega (arith, apart)) other.2 in
        let outs = times_few other.0 h.out in
        let backs = times_few other.0 h.back in
        let count = h.count in
        inr (omega (arith, thieves, one_of, outs, backs, count))
  ]

  -- the owner's name of the lane is everybody's
  pub its_name : (items : List X) (views : List Moves) → Interleaved task items views → (name : ℕ) × KnowItsName name views
  its_name items views h = (
    h.owner.lane,
    λ caller v at who. elim who [
      | inl is ↦ ap (λ (m : Moves). m.lane) (some-injective v h.owner (sym (subst (λ (n : ℕ). get_elem? views n ≡ some v) is at) ∙ h.owner_is))
      | inr may ↦ (h.seats caller v at may).2
    ],
  )
