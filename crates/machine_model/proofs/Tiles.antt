-- The ranges of the members tile the buffer before and after a step.
use Rattle.std.proofs.Common.{◌≡◌, ℕ, suc, ◌<◌, ◌≤◌, ◌+◌, inl, inr, List, [], ◌∷◌, ◌++◌, length, length-append, set, take, drop, slice_get, slice_set, refl, sym, ◌∙◌, arith, ap, subst, Bool, true, false, nat_lt, Option, Some, None}
use Rattle.std.proofs.lemmas.Option.{slice_get_within}
use Rattle.std.proofs.lemmas.List.{length-drop, length-take-le}
use Rattle.std.proofs.lemmas.Bool.Decides.{nat_tests}
use Rattle.machine_model.specs.Machine.{State, Program, Effect, Continues, Ends, Spawns, Calls, Traps, effect}
use Rattle.machine_model.specs.JobState.{JobState, Task, Member, Live, Ended, Ending, goes_on, ending_of, with_state, child_of, state_in, entries_of, applied, task_step, member_step, step, base_of, size_of, IsApart, Owner, AreTiles}
use Rattle.machine_model.specs.Memory.{written}
use Rattle.machine_model.proofs.Places.{set_same, set_other, by_number, push_old, push_new, pushed}
use Rattle.machine_model.proofs.Ranges.{length-written}
use Rattle.machine_model.proofs.Splits.{Splits, splits_effect}

-- a member that was there at the number, with a range that starts there and was no shorter
record Was (tasks : List Member) (m : ℕ) (a : Member) : Type 0 where
  pub member : Member
  pub there : slice_get tasks m ≡ Some member
  pub base : base_of a ≡ base_of member
  pub size : size_of a ≤ size_of member

was : (tasks : List Member) (n m : ℕ) (old new a : Member) → slice_get tasks n ≡ Some old → base_of new ≡ base_of old →
    size_of new ≤ size_of old → slice_get (set tasks n new) m ≡ Some a → Was tasks m a
was tasks n m old new a here base size =
    by_number (λ k. slice_get (set tasks n new) k ≡ Some a → Was tasks k a) n m
    (λ e. let is : new ≡ a = cc (sym (set_same tasks n new (slice_get_within tasks n old here)) ∙ e) in
    subst (λ (b : Member). Was tasks n b) is (record { member = old; there = here; base = base; size = size }))
    (λ ne e. record { member = a; there = sym (set_other tasks n m new ne) ∙ e; base = refl; size = omega arith })

apart_within : (a b c d : Member) → base_of a ≡ base_of c → size_of a ≤ size_of c → base_of b ≡ base_of d → size_of b ≤ size_of d →
    IsApart c d → IsApart a b
apart_within a b c d e1 e2 e3 e4 x = elim x [ inl l ↦ inl (omega arith) | inr r ↦ inr (omega arith) ]

apart_sym : (a b : Member) → IsApart a b → IsApart b a
apart_sym a b x = elim x [ inl l ↦ inr l | inr r ↦ inl r ]

owner_set : (tasks : List Member) (n at : ℕ) (old new : Member) → slice_get tasks n ≡ Some old → base_of new ≡ base_of old →
    size_of new ≡ size_of old → (i : ℕ) (m : Member) → slice_get tasks i ≡ Some m → base_of m ≤ at → at < base_of m + size_of m → Owner (set tasks n new) at
owner_set tasks n at old new here base size i m there low high =
    by_number (λ k. slice_get tasks k ≡ Some m → Owner (set tasks n new) at) n i
    (λ e. let same : old ≡ m = cc (sym here ∙ e) in
    let b : base_of old ≡ base_of m = ap base_of same in let z : size_of old ≡ size_of m = ap size_of same in
    record { number = n; member = new; there = set_same tasks n new (slice_get_within tasks n old here); low = omega arith; high = omega arith })
    (λ ne e. record { number = i; member = m; there = set_other tasks n i new ne ∙ e; low = low; high = high })
    there

-- a member that is replaced by one with the same range
tiles_set : (tasks : List Member) (n count : ℕ) (old new : Member) → slice_get tasks n ≡ Some old → base_of new ≡ base_of old →
    size_of new ≡ size_of old → AreTiles tasks count → AreTiles (set tasks n new) count
tiles_set tasks n count old new here base size tiles =
    let le : size_of new ≤ size_of old = omega arith in
    record {
      apart = λ m k a b ne e f.
          let x = was tasks n m old new a here base le e in let y = was tasks n k old new b here base le f in
          apart_within a b x.member y.member x.base x.size y.base y.size (tiles.apart m k x.member y.member ne x.there y.there);
      inside = λ m a e. let x = was tasks n m old new a here base le e in
          let i = tiles.inside m x.member x.there in let b = x.base in let z = x.size in omega (arith, i, b, z);
      owned = λ at lt. let o = tiles.owned at lt in owner_set tasks n at old new here base size o.number o.member o.there o.low o.high;
    }

module _ (tasks : List Member) (n count : ℕ) (old first second : Member) (here : slice_get tasks n ≡ Some old)
    (base : base_of first ≡ base_of old) (next : base_of second ≡ base_of first + size_of first)
    (size : size_of first + size_of second ≡ size_of old) (tiles : AreTiles tasks count) where
  less : size_of first ≤ size_of old
  less = omega arith

  -- the second half is apart from every other member
  apart_second : (k : ℕ) (b : Member) → slice_get (set tasks n first) k ≡ Some b → IsApart second b
  apart_second k b =
      by_number (λ i. slice_get (set tasks n first) i ≡ Some b → IsApart second b) n k
      (λ e. let is : first ≡ b = cc (sym (set_same tasks n first (slice_get_within tasks n old here)) ∙ e) in
      subst (λ (m : Member). IsApart second m) is (inr (omega arith)))
      (λ ne e. let x = tiles.apart n k old b (λ s. ne (sym s)) here (sym (set_other tasks n k first ne) ∙ e) in
      elim x [ inl l ↦ inl (omega arith) | inr r ↦ inr (omega arith) ])

  owner_split_by : (at : ℕ) (t : Bool) → nat_lt at (base_of second) ≡ t → base_of old ≤ at → at < base_of old + size_of old →
      Owner (set tasks n first ++ second ∷ []) at
  owner_split_by at true t low high =
      let lt : at < base_of second = grind (arith, nat_tests) in
      record {
        number = n;
        member = first;
        there = push_old (set tasks n first) n second first (set_same tasks n first (slice_get_within tasks n old here));
        low = omega arith;
        high = omega arith;
      }
  owner_split_by at false t low high =
      let le : base_of second ≤ at = grind (arith, nat_tests) in
      record { number = length (set tasks n first); member = second; there = push_new (set tasks n first) second; low = le; high = omega arith }

  owner_split : (at : ℕ) (i : ℕ) (m : Member) → slice_get tasks i ≡ Some m → base_of m ≤ at → at < base_of m + size_of m →
      Owner (set tasks n first ++ second ∷ []) at
  owner_split at i m there low high =
      by_number (λ k. slice_get tasks k ≡ Some m → Owner (set tasks n first ++ second ∷ []) at) n i
      (λ e. let same : m ≡ old = cc (sym e ∙ here) in
      owner_split_by at (nat_lt at (base_of second)) refl (subst (λ (x : Member). base_of x ≤ at) same low)
      (subst (λ (x : Member). at < base_of x + size_of x) same high))
      (λ ne e. record { number = i; member = m; there = push_old (set tasks n first) i second m (set_other tasks n i first ne ∙ e); low = low; high = high })
      there

  -- a range that is split in two
  pub tiles_split : AreTiles (set tasks n first ++ second ∷ []) count
  tiles_split = record {
    apart = λ m k a b ne e f.
        elim (pushed (set tasks n first) m second a e) [
          | inl x ↦ elim (pushed (set tasks n first) k second b f) [
            | inl y ↦
                let p = was tasks n m old first a here base less x in let q = was tasks n k old first b here base less y in
                apart_within a b p.member q.member p.base p.size q.base q.size (tiles.apart m k p.member q.member ne p.there q.there)
            | inr y ↦ subst (λ (c : Member). IsApart a c) (sym y.1) (apart_sym second a (apart_second m a x))
          ]
          | inr x ↦ elim (pushed (set tasks n first) k second b f) [
            | inl y ↦ subst (λ (c : Member). IsApart c b) (sym x.1) (apart_second k b y)
            | inr y ↦ absurd (ne (x.0 ∙ sym y.0))
          ]
        ];
    inside = λ m a e.
        elim (pushed (set tasks n first) m second a e) [
          | inl x ↦ let p = was tasks n m old first a here base less x in
              let i = tiles.inside m p.member p.there in let b = p.base in let z = p.size in omega (arith, i, b, z)
          | inr x ↦ let i = tiles.inside n old here in
              subst (λ (c : Member). base_of c + size_of c ≤ count) (sym x.1) (omega (arith, i))
        ];
    owned = λ at lt. let o = tiles.owned at lt in owner_split at o.number o.member o.there o.low o.high;
  }

pub part_long : (buffer : List ℕ) (t : Task) → t.base + t.size ≤ length buffer → length (take t.size (drop t.base buffer)) ≡ t.size
part_long buffer t fits =
    let d = length-drop t.base buffer in length-take-le t.size (drop t.base buffer) (omega (arith, d, fits))

-- the next job has a buffer of the same length, that the ranges of its members tile
abbrev pub Tiled : JobState → JobState → Type 0
Tiled j k = AreTiles k.tasks (length j.buffer) × (length k.buffer ≡ length j.buffer)

tiles_goes : (j : JobState) (n : ℕ) (t : Task) (s : State) → slice_get j.tasks n ≡ Some (Live t) → length s.part ≡ t.size →
    AreTiles j.tasks (length j.buffer) → Tiled j (goes_on j n t s)
tiles_goes j n t s here size tiles =
    let inside = tiles.inside n (Live t) here in
    let same : length (written j.buffer t.base s.part) ≡ length j.buffer =
    length-written j.buffer t.base s.part (omega (arith, inside, size)) in
    (tiles_set j.tasks n (length j.buffer) (Live t) (Live (with_state t s)) here refl size tiles, same)

tiles_applied : (j : JobState) (n : ℕ) (t : Task) (refuses : Bool) (e : Effect) (k : JobState) → slice_get j.tasks n ≡ Some (Live t) →
    Splits (take t.size (drop t.base j.buffer)) e → applied j n t refuses e ≡ Some k → AreTiles j.tasks (length j.buffer) → Tiled j k
tiles_applied j n t refuses (Continues s) k here splits is tiles =
    let e : goes_on j n t s ≡ k = cc in
    subst (Tiled j) e
    (tiles_goes j n t s here (splits ∙ part_long j.buffer t (tiles.inside n (Live t) here)) tiles)
tiles_applied j n t refuses (Ends r0 s) k here splits is tiles =
    let ending : Ending = ending_of t s r0 in
    let made : JobState = record { buffer = j.buffer; tasks = slice_set j.tasks n (Ended ending) } in
    let e : made ≡ k = cc in
    subst (Tiled j) e
    (tiles_set j.tasks n (length j.buffer) (Live t) (Ended ending) here refl refl tiles, refl)
tiles_applied j n t true (Spawns birth taken refused) k here splits is tiles =
    let e : goes_on j n t refused ≡ k = cc in
    subst (Tiled j) e
    (tiles_goes j n t refused here (ap length splits.1 ∙ part_long j.buffer t (tiles.inside n (Live t) here)) tiles)
tiles_applied j n t false (Spawns birth taken refused) k here splits is tiles =
    let parent : Task = record (with_state t taken) { children = suc t.children } in
    let made : JobState = record { buffer = j.buffer; tasks = slice_set j.tasks n (Live parent) ++ Live (child_of t taken birth) ∷ [] } in
    let e : made ≡ k = cc in
    let size : length taken.part + length birth.bytes ≡ t.size =
    sym (length-append taken.part birth.bytes) ∙ ap length splits.0 ∙ part_long j.buffer t (tiles.inside n (Live t) here) in
    subst (Tiled j) e
    (tiles_split j.tasks n (length j.buffer) (Live t) (Live parent) (Live (child_of t taken birth)) here refl refl size tiles, refl)
tiles_applied j n t refuses (Calls helper arguments caller) k here splits is tiles = cc
tiles_applied j n t refuses (Traps trap) k here splits is tiles = cc

tiles_task : (programs : List Program) (j : JobState) (n : ℕ) (t : Task) (refuses : Bool) (o : Option Program) (k : JobState) →
    slice_get j.tasks n ≡ Some (Live t) → task_step programs j n t refuses o ≡ Some k → AreTiles j.tasks (length j.buffer) → Tiled j k
tiles_task programs j n t refuses None k here is tiles = cc
tiles_task programs j n t refuses (Some p) k here is tiles =
    tiles_applied j n t refuses (effect p (entries_of programs) (state_in j.buffer t)) k here
    (splits_effect p (entries_of programs) (state_in j.buffer t)) is tiles

tiles_member : (programs : List Program) (j : JobState) (n : ℕ) (refuses : Bool) (o : Option Member) (k : JobState) → slice_get j.tasks n ≡ o →
    member_step programs j n refuses o ≡ Some k → AreTiles j.tasks (length j.buffer) → Tiled j k
tiles_member programs j n refuses None k at is tiles =
    let e : j ≡ k = cc in subst (Tiled j) e (tiles, refl)
tiles_member programs j n refuses (Some (Ended e)) k at is tiles =
    let e : j ≡ k = cc in subst (Tiled j) e (tiles, refl)
tiles_member programs j n refuses (Some (Live t)) k at is tiles =
    tiles_task programs j n t refuses (slice_get programs t.program) k at is tiles

-- the ranges tile the buffer after each step from a job where they do
pub tiles_step : (programs : List Program) (j k : JobState) (n : ℕ) (refuses : Bool) → step programs j n refuses ≡ Some k →
    AreTiles j.tasks (length j.buffer) → Tiled j k
tiles_step programs j k n refuses is tiles = tiles_member programs j n refuses (slice_get j.tasks n) k refl is tiles
