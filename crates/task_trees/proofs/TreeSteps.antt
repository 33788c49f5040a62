-- What ended, joined with what the live tasks come to, stays under a step, since a step touches its own range alone.
use Rattle.std.proofs.Common.{◌≡◌, ◌≢◌, ℕ, ◌≤◌, ◌+◌, inl, inr, List, [], ◌∷◌, ◌++◌, length, length-append, set, take, drop, slice_get, slice_set, refl, sym, ◌∙◌, arith, ap, subst, false, Option, Some, None}
use Rattle.std.proofs.lemmas.Option.{slice_get_within}
use Rattle.std.proofs.lemmas.List.{append_assoc, take-take, drop-take, drop-drop}
use Rattle.std.proofs.lemmas.List.Sorted.{IsPermutation-refl, IsPermutation-append_comm, IsPermutation-append_right}
use Rattle.std.proofs.lemmas.Grind.{common_steps}
use Rattle.std.specs.List.Sorted.{IsPermutation}
use Rattle.machine_model.specs.Machine.{State, Program, Birth, Effect, Continues, Ends, Spawns, Calls, Traps, effect}
use Rattle.machine_model.specs.JobState.{JobState, Task, Member, Live, Ended, goes_on, ending_of, with_state, child_of, state_in, entries_of, applied, task_step, member_step, step, base_of, size_of, AreTiles}
use Rattle.machine_model.specs.Memory.{written}
use Rattle.task_trees.specs.Eval.{Finished, Comes, Eval, parent_of, MemberComes, MembersCome, JobComes}
use Rattle.machine_model.proofs.Places.{set_same, set_other}
use Rattle.machine_model.proofs.Ranges.{written_same, written_below, written_above}
use Rattle.machine_model.proofs.Splits.{Splits, splits_effect}
use Rattle.machine_model.proofs.Tiles.{part_long}
use Rattle.task_trees.proofs.EvalLemmas.{eval_from, eval_to}
use Rattle.task_trees.proofs.MemberLemmas.{range_of, around, set_back, push_comes, pop_comes}

-- a range in two halves
pub first_half : (buffer xs ys : List ℕ) (base size : ℕ) → xs ++ ys ≡ take size (drop base buffer) → size ≡ length xs + length ys →
    xs ≡ take (length xs) (drop base buffer)
first_half buffer xs ys base size whole long =
    let front : take (length xs) (xs ++ ys) ≡ xs = grind (arith, common_steps) in
    sym front ∙ ap (take (length xs)) whole ∙ take-take (length xs) size (drop base buffer) (omega (arith, long))

pub second_half : (buffer xs ys : List ℕ) (base size : ℕ) → xs ++ ys ≡ take size (drop base buffer) → size ≡ length xs + length ys →
    ys ≡ take (length ys) (drop (base + length xs) buffer)
second_half buffer xs ys base size whole long =
    let back : drop (length xs) (xs ++ ys) ≡ ys = grind (arith, common_steps) in
    sym back ∙ ap (drop (length xs)) (whole ∙ ap (λ (i : ℕ). take i (drop base buffer)) long)
    ∙ drop-take (length xs) (length ys) (drop base buffer)
    ∙ ap (take (length ys)) (drop-drop (length xs) base buffer)

-- what a child comes to goes to the end
shuffled : (before own child after : List Finished) →
    IsPermutation (before ++ ((child ++ own) ++ after)) ((before ++ (own ++ after)) ++ child)
shuffled before own child after =
    let left : before ++ (child ++ (own ++ after)) ≡ before ++ ((child ++ own) ++ after) =
    ap (λ (l : List Finished). before ++ l) (sym (append_assoc child own after)) in
    let right : before ++ ((own ++ after) ++ child) ≡ (before ++ (own ++ after)) ++ child = sym (append_assoc before (own ++ after) child) in
    subst (λ (l : List Finished). IsPermutation l ((before ++ (own ++ after)) ++ child)) left
    (subst (λ (l : List Finished). IsPermutation (before ++ (child ++ (own ++ after))) l) right
    (IsPermutation-append_right before (child ++ (own ++ after)) ((own ++ after) ++ child) (IsPermutation-append_comm child (own ++ after))))

-- what one job comes to, the next one comes to, and the other way round
pub record Kept (programs : List Program) (j k : JobState) : Type 0 where
  pub forth : (xs : List Finished) → JobComes programs j xs → (ys : List Finished) × JobComes programs k ys × IsPermutation xs ys
  pub back : (ys : List Finished) → JobComes programs k ys → (xs : List Finished) × JobComes programs j xs × IsPermutation xs ys

module _ (programs : List Program) (j : JobState) (n : ℕ) (t : Task) (here : slice_get j.tasks n ≡ Some (Live t))
    (tiles : AreTiles j.tasks (length j.buffer)) where
  abbrev part : List ℕ
  part = take t.size (drop t.base j.buffer)

  fits : t.base + t.size ≤ length j.buffer
  fits = tiles.inside n (Live t) here

  -- a write to the task's own range leaves the others
  pub others : (bytes : List ℕ) → length bytes ≡ t.size → (k : ℕ) (m : Member) → k ≢ n → slice_get j.tasks k ≡ Some m →
      range_of j.buffer m ≡ range_of (written j.buffer t.base bytes) m
  others bytes long k m ne there =
      let inside : t.base + length bytes ≤ length j.buffer = omega (arith, fits, long) in
      elim (tiles.apart n k (Live t) m (λ e. ne (sym e)) here there) [
        | inl l ↦ sym (ap (take (size_of m)) (written_above j.buffer t.base bytes (base_of m) inside (omega (arith, l, long))))
        | inr r ↦ sym (written_below j.buffer t.base bytes (base_of m) (size_of m) inside r)
      ]

  there_now : (new : Member) → slice_get (set j.tasks n new) n ≡ Some new
  there_now new = set_same j.tasks n new (slice_get_within j.tasks n (Live t) here)

  module _ (buffer' : List ℕ) (new : Member)
      (same : (k : ℕ) (m : Member) → k ≢ n → slice_get j.tasks k ≡ Some m → range_of j.buffer m ≡ range_of buffer' m) where
    replaced : ((zs : List Finished) → Eval programs t part zs → MemberComes programs buffer' new zs) → (xs : List Finished) →
        MembersCome programs j.buffer j.tasks xs → MembersCome programs buffer' (set j.tasks n new) xs
    replaced turn xs a =
        let r = around programs j.buffer buffer' j.tasks n (Live t) new xs here same a in
        subst (λ (l : List Finished). MembersCome programs buffer' (set j.tasks n new) l) (sym r.is) (r.put r.own (turn r.own r.comes))

    restored : ((zs : List Finished) → MemberComes programs buffer' new zs → Eval programs t part zs) → (ys : List Finished) →
        MembersCome programs buffer' (set j.tasks n new) ys → MembersCome programs j.buffer j.tasks ys
    restored turn ys a =
        let r = around programs buffer' j.buffer (set j.tasks n new) n new (Live t) ys (there_now new)
        (λ k m ne there. sym (same k m ne (sym (set_other j.tasks n k new ne) ∙ there))) a in
        subst (λ (l : List Finished). MembersCome programs j.buffer j.tasks l) (sym r.is)
        (subst (λ (ms : List Member). MembersCome programs j.buffer ms (r.before ++ (r.own ++ r.after))) (set_back j.tasks n (Live t) new here)
        (r.put r.own (turn r.own r.comes)))

  module _ (s : State) (size : length s.part ≡ t.size)
      (to : (zs : List Finished) → Eval programs t part zs → Eval programs (with_state t s) s.part zs)
      (from : (zs : List Finished) → Eval programs (with_state t s) s.part zs → Eval programs t part zs) where
    kept_goes : Kept programs j (goes_on j n t s)
    kept_goes =
        let inside : t.base + length s.part ≤ length j.buffer = omega (arith, fits, size) in
        let read = written_same j.buffer t.base s.part inside in
        record {
          forth = λ xs a. (
            xs,
            replaced (written j.buffer t.base s.part) (Live (with_state t s)) (others s.part size)
                (λ zs b. subst (λ (bytes : List ℕ). Eval programs (with_state t s) bytes zs) (sym read) (to zs b)) xs a,
            IsPermutation-refl xs,
          );
          back = λ ys a. (
            ys,
            restored (written j.buffer t.base s.part) (Live (with_state t s)) (others s.part size)
                (λ zs b. from zs (subst (λ (bytes : List ℕ). Eval programs (with_state t s) bytes zs) read b)) ys a,
            IsPermutation-refl ys,
          );
        }

  module _ (s : State) (r0 : ℕ) (is : s.part ≡ part)
      (to : (zs : List Finished) → Eval programs t part zs → zs ≡ record { ending = ending_of t s r0; bytes = s.part } ∷ [])
      (from : (zs : List Finished) → zs ≡ record { ending = ending_of t s r0; bytes = s.part } ∷ [] → Eval programs t part zs) where
    abbrev over : JobState
    over = record { buffer = j.buffer; tasks = slice_set j.tasks n (Ended (ending_of t s r0)) }

    abbrev as_one : List ℕ → List Finished
    as_one bytes = let f : Finished = record { ending = ending_of t s r0; bytes = bytes } in f ∷ []

    kept_ends : Kept programs j over
    kept_ends = record {
      forth = λ xs a. (
        xs,
        replaced j.buffer (Ended (ending_of t s r0)) (λ k m ne there. refl) (λ zs b. to zs b ∙ ap as_one is) xs a,
        IsPermutation-refl xs,
      );
      back = λ ys a. (
        ys,
        restored j.buffer (Ended (ending_of t s r0)) (λ k m ne there. refl) (λ zs b. from zs (b ∙ ap as_one (sym is))) ys a,
        IsPermutation-refl ys,
      );
    }

  module _ (birth : Birth) (taken refused : State) (whole : taken.part ++ birth.bytes ≡ part)
      (to : (zs : List Finished) → Eval programs t part zs → Comes (Eval programs) t zs (Spawns birth taken refused))
      (from : (zs : List Finished) → Comes (Eval programs) t zs (Spawns birth taken refused) → Eval programs t part zs) where
    abbrev parent : Task
    parent = parent_of t taken

    abbrev child : Task
    child = child_of t taken birth

    abbrev grown : JobState
    grown = record { buffer = j.buffer; tasks = slice_set j.tasks n (Live parent) ++ Live child ∷ [] }

    long : t.size ≡ length taken.part + length birth.bytes
    long = sym (part_long j.buffer t fits) ∙ sym (ap length whole) ∙ length-append taken.part birth.bytes

    first : taken.part ≡ take (length taken.part) (drop t.base j.buffer)
    first = first_half j.buffer taken.part birth.bytes t.base t.size whole long

    second : birth.bytes ≡ take (length birth.bytes) (drop (t.base + length taken.part) j.buffer)
    second = second_half j.buffer taken.part birth.bytes t.base t.size whole long

    spawn_forth : (xs : List Finished) → JobComes programs j xs → (ys : List Finished) × JobComes programs grown ys × IsPermutation xs ys
    spawn_forth xs a =
        let r = around programs j.buffer j.buffer j.tasks n (Live t) (Live parent) xs here (λ k m ne there. refl) a in
        let c = to r.own r.comes in
        let is : xs ≡ r.before ++ ((c.1 ++ c.0) ++ r.after) =
        r.is ∙ ap (λ (l : List Finished). r.before ++ (l ++ r.after)) c.4 in (
          (r.before ++ (c.0 ++ r.after)) ++ c.1,
          push_comes programs j.buffer (slice_set j.tasks n (Live parent)) (Live child) (r.before ++ (c.0 ++ r.after)) c.1
              (r.put c.0 (subst (λ (bytes : List ℕ). Eval programs parent bytes c.0) first c.2))
              (subst (λ (bytes : List ℕ). Eval programs child bytes c.1) second c.3),
          subst (λ (l : List Finished). IsPermutation l ((r.before ++ (c.0 ++ r.after)) ++ c.1)) (sym is) (shuffled r.before c.0 c.1 r.after),
        )

    spawn_back : (ys : List Finished) → JobComes programs grown ys → (xs : List Finished) × JobComes programs j xs × IsPermutation xs ys
    spawn_back ys a =
        let q = pop_comes programs j.buffer (slice_set j.tasks n (Live parent)) (Live child) ys a in
        let r = around programs j.buffer j.buffer (set j.tasks n (Live parent)) n (Live parent) (Live t) q.those (there_now (Live parent))
        (λ k m ne there. refl) q.come in
        let is : ys ≡ (r.before ++ (r.own ++ r.after)) ++ q.own = q.is ∙ ap (λ (l : List Finished). l ++ q.own) r.is in (
          r.before ++ ((q.own ++ r.own) ++ r.after),
          subst (λ (ms : List Member). MembersCome programs j.buffer ms (r.before ++ ((q.own ++ r.own) ++ r.after)))
              (set_back j.tasks n (Live t) (Live parent) here)
              (r.put (q.own ++ r.own) (from (q.own ++ r.own) (
                r.own,
                q.own,
                subst (λ (bytes : List ℕ). Eval programs parent bytes r.own) (sym first) r.comes,
                subst (λ (bytes : List ℕ). Eval programs child bytes q.own) (sym second) q.comes,
                refl,
              ))),
          subst (λ (l : List Finished). IsPermutation (r.before ++ ((q.own ++ r.own) ++ r.after)) l) (sym is) (shuffled r.before r.own q.own r.after),
        )

    kept_spawns : Kept programs j grown
    kept_spawns = record { forth = spawn_forth; back = spawn_back }

  kept_applied : (e : Effect) (k : JobState) → ((zs : List Finished) → Eval programs t part zs → Comes (Eval programs) t zs e) →
      ((zs : List Finished) → Comes (Eval programs) t zs e → Eval programs t part zs) → Splits part e →
      applied j n t false e ≡ Some k → Kept programs j k
  kept_applied (Continues s) k to from splits is =
      let e : goes_on j n t s ≡ k = cc in
      subst (Kept programs j) e (kept_goes s (splits ∙ part_long j.buffer t fits) to from)
  kept_applied (Ends r0 s) k to from splits is =
      let e : over s r0 splits to from ≡ k = cc in
      subst (Kept programs j) e (kept_ends s r0 splits to from)
  kept_applied (Spawns birth taken refused) k to from splits is =
      let e : grown birth taken refused splits.0 to from ≡ k = cc in
      subst (Kept programs j) e (kept_spawns birth taken refused splits.0 to from)
  kept_applied (Calls helper arguments caller) k to from splits is = cc
  kept_applied (Traps trap) k to from splits is = cc

  kept_task : (o : Option Program) (k : JobState) → slice_get programs t.program ≡ o → task_step programs j n t false o ≡ Some k → Kept programs j k
  kept_task None k there is = cc
  kept_task (Some p) k there is =
      kept_applied (effect p (entries_of programs) (state_in j.buffer t)) k (λ zs a. eval_to programs t part zs p there a)
      (λ zs a. eval_from programs t part zs p there a) (splits_effect p (entries_of programs) (state_in j.buffer t)) is

-- a job that stays comes to what it came to
kept_same : (programs : List Program) (j : JobState) → Kept programs j j
kept_same programs j = record { forth = λ xs a. (xs, a, IsPermutation-refl xs); back = λ ys a. (ys, a, IsPermutation-refl ys) }

kept_member : (programs : List Program) (j : JobState) (n : ℕ) (o : Option Member) (k : JobState) → slice_get j.tasks n ≡ o →
    member_step programs j n false o ≡ Some k → AreTiles j.tasks (length j.buffer) → Kept programs j k
kept_member programs j n None k at is tiles = let e : j ≡ k = cc in subst (Kept programs j) e (kept_same programs j)
kept_member programs j n (Some (Ended e)) k at is tiles = let e : j ≡ k = cc in subst (Kept programs j) e (kept_same programs j)
kept_member programs j n (Some (Live t)) k at is tiles =
    kept_task programs j n t at tiles (slice_get programs t.program) k refl is

pub kept_step : (programs : List Program) (j k : JobState) (n : ℕ) → step programs j n false ≡ Some k → AreTiles j.tasks (length j.buffer) →
    Kept programs j k
kept_step programs j k n is tiles = kept_member programs j n (slice_get j.tasks n) k refl is tiles
