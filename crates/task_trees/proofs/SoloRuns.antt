-- Each task of a run is a task by itself.
use Rattle.std.proofs.Common.{◌≡◌, ◌≢◌, ℕ, zero, suc, ◌≤◌, ◌<◌, ◌+◌, inl, inr, List, [], ◌∷◌, ◌++◌, length, length-append, set, take, drop, slice_get, slice_set, refl, sym, ◌∙◌, arith, ap, subst, Bool, true, false, Option, Some, None, option_and_then, option_map}
use Rattle.std.proofs.lemmas.Option.{slice_get_within}
use Rattle.machine_model.specs.Machine.{State, Program, Birth, Effect, Continues, Ends, Spawns, Calls, Traps, effect}
use Rattle.machine_model.specs.JobState.{JobState, Task, Member, Live, Ended, Ending, Move, goes_on, ending_of, with_state, child_of, state_in, entry_of, entries_of, applied, task_step, member_step, step, run, start, AreTiles}
use Rattle.machine_model.specs.Bytes.{AllBytes}
use Rattle.machine_model.specs.Memory.{written}
use Rattle.task_trees.specs.Solo.{SpawnRequest, IsGiven, RanAlone, entering}
use Rattle.task_trees.specs.Eval.{state_with, parent_of, root}
use Rattle.machine_model.proofs.Places.{set_same, set_other, by_number, pushed}
use Rattle.machine_model.proofs.Ranges.{written_same}
use Rattle.machine_model.proofs.Keeps.{Keeps, keeps_effect}
use Rattle.machine_model.proofs.Splits.{Splits, splits_effect, Births, births_effect, KeepsBytes, bytes_effect}
use Rattle.machine_model.proofs.Tiles.{part_long, tiles_step}
use Rattle.task_trees.proofs.EvalLemmas.{one_program}
use Rattle.task_trees.proofs.MemberLemmas.{range_of}
use Rattle.task_trees.proofs.SoloParts.{LeadsFrom, leads_start, leads_goes, leads_taken, leads_refused, leads_end}
use Rattle.task_trees.proofs.TreeSteps.{others, first_half, second_half}
use Rattle.task_trees.proofs.TreeAnswers.{start_tiles}
use Rattle.std.proofs.Math.Seq.{take-append_seam, take-length, drop-append_seam}
use Rattle.std.proofs.lemmas.List.Elements.{All-take, All-drop}
use Rattle.machine_model.specs.declared.program.Entry.{Entry}

-- the bytes of two lists are those of each
first_bytes : (xs ys : List ℕ) → AllBytes (xs ++ ys) → AllBytes xs
first_bytes xs ys h = subst AllBytes (take-append_seam xs ys) (All-take (λ b. b < 256) (length xs) (xs ++ ys) h)

last_bytes : (xs ys : List ℕ) → AllBytes (xs ++ ys) → AllBytes ys
last_bytes xs ys h = subst AllBytes (drop-append_seam xs ys) (All-drop (λ b. b < 256) (length xs) (xs ++ ys) h)

-- a live task whose range has these bytes is on the way from its start
record OnWay (programs : List Program) (p : Program) (t : Task) (bytes : List ℕ) : Type 0 where
  pub given : List ℕ
  pub suffices : IsGiven p t.given given
  pub asked : List SpawnRequest
  pub way : LeadsFrom p (entries_of programs) (entering t.arg t.given given) asked (state_with t bytes)

-- what a live task holds is within the limits
record IsWithin (held : ℕ) (bytes : List ℕ) : Type 0 where
  pub credit : held ≤ 2147483647
  pub short : length bytes ≤ 65536
  pub are_bytes : AllBytes bytes

abbrev RunsOn : List Program → Member → List ℕ → Type 0
RunsOn programs (Live t) bytes = IsWithin t.held bytes × ((p : Program) → slice_get programs t.program ≡ Some p → OnWay programs p t bytes)
RunsOn programs (Ended e) bytes = RanAlone programs e bytes

abbrev AllRun : List Program → List ℕ → List Member → Type 0
AllRun programs buffer tasks = (n : ℕ) (m : Member) → slice_get tasks n ≡ Some m → RunsOn programs m (range_of buffer m)

-- what a child is handed suffices for its program
enough : (programs : List Program) (q : Program) (birth : Birth) (held : ℕ) → slice_get programs birth.program ≡ Some q →
    (entry : Entry) × (entries_of programs birth.program ≡ Some entry) × (entry.cost ≤ birth.share) × (entry.need ≤ length birth.bytes) × (birth.share ≤ held) →
    IsWithin birth.share birth.bytes → IsGiven q birth.share birth.bytes
enough programs q birth held at (entry, there, cost, need, share) within =
    let same : entry ≡ entry_of q = one_entry q (slice_get programs birth.program) entry at there in
    record {
      affords = omega (arith, cost, ap (λ (e : Entry). e.cost) same);
      limit = within.credit;
      fits = omega (arith, need, ap (λ (e : Entry). e.need) same);
      short = within.short;
      are_bytes = within.are_bytes;
    }
  where
    one_entry : (q : Program) (o : Option Program) (entry : Entry) → o ≡ Some q → option_map entry_of o ≡ Some entry → entry ≡ entry_of q
    one_entry q None entry at there = absurd (cc)
    one_entry q (Some r) entry at there = cc

some_same : (a b : Member) → let here : Option Member = Some a in here ≡ Some b → a ≡ b
some_same a b e = cc

module _ (programs : List Program) (j : JobState) (n : ℕ) (t : Task) (here : slice_get j.tasks n ≡ Some (Live t))
    (tiles : AreTiles j.tasks (length j.buffer)) (all : AllRun programs j.buffer j.tasks) where
  abbrev part : List ℕ
  part = take t.size (drop t.base j.buffer)

  fits : t.base + t.size ≤ length j.buffer
  fits = tiles.inside n (Live t) here

  -- one member is replaced, and the others keep the bytes of their ranges
  all_set : (buffer' : List ℕ) (new : Member) →
      ((k : ℕ) (m : Member) → k ≢ n → slice_get j.tasks k ≡ Some m → range_of j.buffer m ≡ range_of buffer' m) →
      RunsOn programs new (range_of buffer' new) → AllRun programs buffer' (set j.tasks n new)
  all_set buffer' new same own k m e =
      by_number (λ i. slice_get (set j.tasks n new) i ≡ Some m → RunsOn programs m (range_of buffer' m)) n k
      (λ at. let is : new ≡ m = some_same new m (sym (set_same j.tasks n new (slice_get_within j.tasks n (Live t) here)) ∙ at) in
      subst (λ (x : Member). RunsOn programs x (range_of buffer' x)) is own)
      (λ ne at. let there = sym (set_other j.tasks n k new ne) ∙ at in
      subst (RunsOn programs m) (same k m ne there) (all k m there)) e

  all_push : (buffer' : List ℕ) (tasks : List Member) (new : Member) → AllRun programs buffer' tasks → RunsOn programs new (range_of buffer' new) →
      AllRun programs buffer' (tasks ++ new ∷ [])
  all_push buffer' tasks new rest_run own k m e = elim (pushed tasks k new m e) [
    | inl old ↦ rest_run k m old
    | inr is ↦ subst (λ (x : Member). RunsOn programs x (range_of buffer' x)) (sym is.1) own
  ]

  module _ (p : Program) (there : slice_get programs t.program ≡ Some p) where
    on_way : OnWay programs p t part
    on_way = (all n (Live t) here).1 p there

    within : IsWithin t.held part
    within = (all n (Live t) here).0

    -- the task goes on in a state that the way leads to
    goes_further : (s : State) (asked : List SpawnRequest) → length s.part ≡ t.size → s.held ≡ t.held → AllBytes s.part →
        LeadsFrom p (entries_of programs) (entering t.arg t.given on_way.given) asked s → AllRun programs (written j.buffer t.base s.part) (set j.tasks n (Live (with_state t s)))
    goes_further s asked size held bytes way =
        let inside : t.base + length s.part ≤ length j.buffer = omega (arith, fits, size) in
        let same_part = sym (written_same j.buffer t.base s.part inside) in
        let still : IsWithin s.held s.part = record {
          credit = omega (arith, within.credit, held);
          short = omega (arith, within.short, size, part_long j.buffer t fits);
          are_bytes = bytes;
        } in
        all_set (written j.buffer t.base s.part) (Live (with_state t s)) (others programs j n t here tiles s.part size) (
          subst (IsWithin s.held) same_part still,
          λ q is. let same : p ≡ q = one_program p q (slice_get programs t.program) there is in
              subst (λ (r : Program). OnWay programs r (with_state t s) (take (length s.part) (drop t.base (written j.buffer t.base s.part)))) same
              (subst (OnWay programs p (with_state t s)) same_part
              (record { given = on_way.given; suffices = on_way.suffices; asked = asked; way = way })),
        )

    runs_applied : (refuses : Bool) (e : Effect) (k : JobState) → effect p (entries_of programs) (state_in j.buffer t) ≡ e → Splits part e →
        Keeps t.held e → KeepsBytes part e → Births (entries_of programs) t.held e → applied j n t refuses e ≡ Some k → AllRun programs k.buffer k.tasks
    runs_applied refuses (Continues s) k is splits keeps bytes births to =
        let made : JobState = goes_on j n t s in
        let e : made ≡ k = cc in
        subst (λ (x : JobState). AllRun programs x.buffer x.tasks) e
        (goes_further s on_way.asked (splits ∙ part_long j.buffer t fits) keeps (bytes within.are_bytes)
        (leads_goes p (entries_of programs) (entering t.arg t.given on_way.given) on_way.asked (state_with t part) on_way.way s is))
    runs_applied refuses (Ends r0 s) k is splits keeps bytes births to =
        let made : JobState = record { buffer = j.buffer; tasks = slice_set j.tasks n (Ended (ending_of t s r0)) } in
        let e : made ≡ k = cc in
        subst (λ (x : JobState). AllRun programs x.buffer x.tasks) e
        (all_set j.buffer (Ended (ending_of t s r0)) (λ i m ne at. refl) (record {
          program = p;
          there = there;
          bytes = on_way.given;
          suffices = on_way.suffices;
          asked = on_way.asked;
          last = s;
          alone = leads_end p (entries_of programs) (entering t.arg t.given on_way.given) on_way.asked (state_with t part) on_way.way r0 s is;
          spent = refl;
          part = splits;
        }))
    runs_applied true (Spawns birth taken refused) k is splits keeps bytes births to =
        let made : JobState = goes_on j n t refused in
        let e : made ≡ k = cc in
        let a : SpawnRequest = record { birth = birth; at = length taken.part; refused = true } in
        subst (λ (x : JobState). AllRun programs x.buffer x.tasks) e
        (goes_further refused (on_way.asked ++ a ∷ []) (ap length splits.1 ∙ part_long j.buffer t fits) keeps.1
        (subst AllBytes (sym splits.1) within.are_bytes)
        (leads_refused p (entries_of programs) (entering t.arg t.given on_way.given) on_way.asked (state_with t part) on_way.way birth taken refused is))
    runs_applied false (Spawns birth taken refused) k is splits keeps bytes births to =
        let parent : Task = parent_of t taken in
        let child : Task = child_of t taken birth in
        let made : JobState = record { buffer = j.buffer; tasks = slice_set j.tasks n (Live parent) ++ Live child ∷ [] } in
        let e : made ≡ k = cc in
        let a : SpawnRequest = record { birth = birth; at = length taken.part; refused = false } in
        let long : t.size ≡ length taken.part + length birth.bytes =
        sym (part_long j.buffer t fits) ∙ sym (ap length splits.0) ∙ length-append taken.part birth.bytes in
        let first = first_half j.buffer taken.part birth.bytes t.base t.size splits.0 long in
        let second = second_half j.buffer taken.part birth.bytes t.base t.size splits.0 long in
        let whole : AllBytes (taken.part ++ birth.bytes) = subst AllBytes (sym splits.0) within.are_bytes in
        let size = part_long j.buffer t fits in
        let kept : IsWithin taken.held taken.part = record {
          credit = omega (arith, within.credit, keeps.0);
          short = omega (arith, within.short, size, long);
          are_bytes = first_bytes taken.part birth.bytes whole;
        } in
        let handed : IsWithin birth.share birth.bytes = record {
          credit = omega (arith, within.credit, keeps.0);
          short = omega (arith, within.short, size, long);
          are_bytes = last_bytes taken.part birth.bytes whole;
        } in
        subst (λ (x : JobState). AllRun programs x.buffer x.tasks) e
        (all_push j.buffer (set j.tasks n (Live parent)) (Live child)
        (all_set j.buffer (Live parent) (λ i m ne at. refl) (
          subst (IsWithin taken.held) first kept,
          λ q at. let same : p ≡ q = one_program p q (slice_get programs t.program) there at in
              subst (λ (r : Program). OnWay programs r parent (take (length taken.part) (drop t.base j.buffer))) same
              (subst (OnWay programs p parent) first (record {
                given = on_way.given;
                suffices = on_way.suffices;
                asked = on_way.asked ++ a ∷ [];
                way = leads_taken p (entries_of programs) (entering t.arg t.given on_way.given) on_way.asked (state_with t part) on_way.way birth taken refused is;
              })),
        )) (
          subst (IsWithin birth.share) second handed,
          λ q at. subst (OnWay programs q child) second (record {
            given = birth.bytes;
            suffices = enough programs q birth t.held at births handed;
            asked = [];
            way = leads_start q (entries_of programs) (entering birth.arg birth.share birth.bytes);
          }),
        ))
    runs_applied refuses (Calls helper arguments caller) k is splits keeps bytes births to = cc
    runs_applied refuses (Traps trap) k is splits keeps bytes births to = cc

  runs_task : (refuses : Bool) (o : Option Program) (k : JobState) → slice_get programs t.program ≡ o → task_step programs j n t refuses o ≡ Some k →
      AllRun programs k.buffer k.tasks
  runs_task refuses None k there to = cc
  runs_task refuses (Some p) k there to =
      runs_applied p there refuses (effect p (entries_of programs) (state_in j.buffer t)) k refl
      (splits_effect p (entries_of programs) (state_in j.buffer t)) (keeps_effect p (entries_of programs) (state_in j.buffer t))
      (bytes_effect p (entries_of programs) (state_in j.buffer t)) (births_effect p (entries_of programs) (state_in j.buffer t)) to

runs_member : (programs : List Program) (j : JobState) (n : ℕ) (refuses : Bool) (o : Option Member) (k : JobState) → slice_get j.tasks n ≡ o →
    member_step programs j n refuses o ≡ Some k → AreTiles j.tasks (length j.buffer) → AllRun programs j.buffer j.tasks →
    AllRun programs k.buffer k.tasks
runs_member programs j n refuses None k at is tiles all =
    let e : j ≡ k = cc in subst (λ (x : JobState). AllRun programs x.buffer x.tasks) e all
runs_member programs j n refuses (Some (Ended e)) k at is tiles all =
    let e : j ≡ k = cc in subst (λ (x : JobState). AllRun programs x.buffer x.tasks) e all
runs_member programs j n refuses (Some (Live t)) k at is tiles all =
    runs_task programs j n t at tiles all refuses (slice_get programs t.program) k refl is

-- what a chain gives comes from a value in its middle
middle : (o : Option JobState) (f : JobState → Option JobState) (k : JobState) → option_and_then f o ≡ Some k → (mid : JobState) × (o ≡ Some mid) × (f mid ≡ Some k)
middle None f k is = cc
middle (Some mid) f k is = (mid, refl, is)

runs_all : (programs : List Program) (j k : JobState) (moves : List Move) → run programs j moves ≡ Some k → AreTiles j.tasks (length j.buffer) →
    AllRun programs j.buffer j.tasks → AllRun programs k.buffer k.tasks
runs_all programs j k [] is tiles all = let e : j ≡ k = cc in subst (λ (x : JobState). AllRun programs x.buffer x.tasks) e all
runs_all programs j k (m ∷ ms) is tiles all =
    let through = middle (step programs j m.number m.refuses) (λ mid. run programs mid ms) k is in
    let tiled = tiles_step programs j through.0 m.number m.refuses through.1 tiles in
    runs_all programs through.0 k ms through.2 (subst (λ (i : ℕ). AreTiles through.0.tasks i) (sym tiled.1) tiled.0)
    (runs_member programs j m.number m.refuses (slice_get j.tasks m.number) through.0 refl through.1 tiles all)

root_runs : (programs : List Program) (p : Program) (credit : ℕ) (buffer : List ℕ) → slice_get programs 0 ≡ Some p → IsGiven p credit buffer →
    AllRun programs buffer (Live (root credit buffer) ∷ [])
root_runs programs p credit buffer there given zero m e =
    subst (λ (x : Member). RunsOn programs x (range_of buffer x)) (some_same (Live (root credit buffer)) m e) (
      subst (IsWithin credit) (sym (take-length buffer)) (record { credit = given.limit; short = given.short; are_bytes = given.are_bytes }),
      λ q at. subst (OnWay programs q (root credit buffer)) (sym (take-length buffer)) (record {
        given = buffer;
        suffices = subst (λ (r : Program). IsGiven r credit buffer) (one_program p q (slice_get programs 0) there at) given;
        asked = [];
        way = leads_start q (entries_of programs) (entering 0 credit buffer);
      }),
    )
root_runs programs p credit buffer there given (suc n) m e = cc

pub ran_alone : (programs : List Program) (p : Program) (credit : ℕ) (buffer : List ℕ) (moves : List Move) (last : JobState) (n : ℕ) (e : Ending) →
    slice_get programs 0 ≡ Some p → IsGiven p credit buffer → run programs (start credit buffer) moves ≡ Some last →
    slice_get last.tasks n ≡ Some (Ended e) → RanAlone programs e (take e.size (drop e.base last.buffer))
ran_alone programs p credit buffer moves last n e root_is given is there =
    runs_all programs (start credit buffer) last moves is (start_tiles (Live (root credit buffer)) (length buffer) refl refl)
    (root_runs programs p credit buffer root_is given) n (Ended e) there
