-- What a step of the code leaves stands for the machine's step.
use Rattle.std.proofs.Common.{◌≡◌, ℕ, zero, suc, ◌<◌, ◌≤◌, ◌+◌, ◌-◌, ◌⊎◌, inl, inr, List, [], ◌∷◌, ◌++◌, length, length-set, length-append, take, drop, set, ◌^◌, slice_get, refl, sym, ◌∙◌, arith, ap, subst, Bool, true, false, Option, Some, None, option_map, map, Result, Ok, Err}
use Rattle.std.proofs.lemmas.Option.{slice_get_within, slice_get-map}
use Rattle.std.proofs.lemmas.List.{set-append_left}
use Rattle.machine_model.specs.declared.program.Entry.{Entry}
use Rattle.machine_model.specs.JobState as job
use Rattle.machine_model.specs.JobState.{JobState, Task, Member, state_in, with_state, child_of, goes_on, AreTiles, member_step, task_step, step, applied, entry_of, entries_of, IsAlive}
use Rattle.machine_model.specs.Memory.{written}
use Rattle.machine_model.specs.Machine.{State, Birth, Effect, Continues, Ends, Spawns, Calls, Traps, effect, Program}
use Rattle.machine_model.proofs.Places.{set_same, push_old}
use Rattle.machine_model.proofs.Ranges.{length-written}
use Rattle.machine_model.proofs.Splits.{Splits, Births, splits_effect, births_effect}
use Rattle.machine_model.proofs.Keeps.{Keeps, keeps_member, keeps_effect}
use Rattle.machine_model.proofs.Tables.{effect_same}
use Rattle.machine_model.specs.Value.{Registers}
use Rattle.machine_model.proofs.Tiles.{tiles_step, part_long}
use Rattle.helpers.specs.Piece.{Piece}
use Rattle.helpers.specs.Table.{job_table}
use Rattle.helpers.specs.declared.spawner.SpawnRecord.{SpawnRecord}
use Rattle.verifier.specs.Checked.{Checked, program_of, cost_at}
use Rattle.interpreter.specs.declared.frame.Frame.{Frame}
use Rattle.interpreter.specs.declared.credit.Credit.{Credit}
use Rattle.interpreter.specs.declared.frame.StepOut.{StepOut}
use Rattle.interpreter.specs.declared.frame.StepOut.TheVariants.{Went, Ended}
use Rattle.interpreter.specs.Telling.{IsRecordOf}
use Rattle.interpreter.specs.Representation.{RepresentsTask, IsCovered, state_of, RepresentsState, StepEffect}
use Rattle.job_core.specs.declared.live.Live.{Live}
use Rattle.credit_book.specs.declared.event.TaskEnd.{TaskEnd}
use Rattle.job_core.specs.declared.tasks.Stepped.TheVariants as stepped
use Rattle.task_trees.specs.Families.{AreParents}
use Rattle.task_trees.proofs.FamilyLemmas.{grown_step}
use Rattle.job_core.specs.Seats.{live_of}
use Rattle.job_core.proofs.Adding.{entered, Adds}
use Rattle.job_core.specs.Representation.{WorldState, end_of, IsTaskOf, IsMemberOf, RepresentsTasks, AreEntries, RepresentsJob, Steps}
use Rattle.job_core.proofs.OwnPrograms.{nobody}
use Rattle.job_core.proofs.Keeping.{keeping, going, goes_kept, ended_end, ends_kept, set_twice, first_part, child_kept, spawns_kept}

-- what a live task is behind
pub record IsLiveAt (kept : WorldState) (j : JobState) (n : ℕ) (live : Live) : Type 0 where
  pub task : Task
  pub there : slice_get j.tasks n ≡ Some (job.Live task)
  pub checked : Checked
  pub program : slice_get kept.programs live.program ≡ Some checked
  pub own : checked.helpers ≡ job_table
  pub is : IsTaskOf checked j.buffer live task

pub some_within : {X : Type 0} (xs : List X) (n : ℕ) → n < length xs → (x : X) × (slice_get xs n ≡ Some x)
some_within [] n lt = absurd (omega arith)
some_within (x ∷ xs) zero lt = (x, refl)
some_within (x ∷ xs) (suc n) lt = some_within xs n (omega arith)

live_member : (kept : WorldState) (j : JobState) (n : ℕ) (live : Live) (m : Member) →
    slice_get kept.lives n ≡ Some (Some live) →
    slice_get j.tasks n ≡ Some m → AreEntries kept.programs kept.entries → IsMemberOf kept j.buffer n m →
    IsLiveAt kept j n live
live_member kept j n live (job.Live t) e there entries is =
    let same : is.live ≡ live = cc (sym is.there ∙ e) in
    subst (λ (x : Live). IsLiveAt kept j n x) same
    (record {
      task = t;
      there = there;
      checked = is.checked;
      program = is.program;
      own = entries.own is.live.program is.checked is.program;
      is = is.is;
    })
live_member kept j n live (job.Ended x) e there entries is =
    let none : Option Live = None in
    let clash : Some none ≡ Some (Some live) = sym is.gone ∙ e in cc

pub live_at : (kept : WorldState) (j : JobState) (n : ℕ) (live : Live) → RepresentsJob kept j →
    slice_get kept.lives n ≡ Some (Some live) →
    IsLiveAt kept j n live
live_at kept j n live behind e =
    let within = slice_get_within kept.lives n (Some live) e in
    let m = some_within j.tasks n (omega (arith, within, behind.kept_are.lives)) in
    live_member kept j n live m.0 e m.1 behind.entries (behind.kept_are.each n m.0 m.1)

program_some : (o : Option Checked) (entry : Entry) → option_map entry_of (option_map program_of o) ≡ Some entry →
    (q : Checked) × (o ≡ Some q) × (entry ≡ entry_of (program_of q))
program_some None entry e = cc
program_some (Some q) entry e = (q, refl, cc)

pub entry_program : (programs : List Checked) (number : ℕ) (entry : Entry) →
    entries_of (map program_of programs) number ≡ Some entry →
    (q : Checked) × (slice_get programs number ≡ Some q) × (entry ≡ entry_of (program_of q))
entry_program programs number entry e =
    program_some (slice_get programs number) entry
    (ap (option_map entry_of) (sym (slice_get-map program_of programs number)) ∙ e)

map_twice : (o : Option Checked) →
    option_map (λ (p : Checked). entry_of (program_of p)) o ≡ option_map entry_of (option_map program_of o)
map_twice None = refl
map_twice (Some p) = refl

pub entries_same : (programs : List Checked) (entries : List Entry) → AreEntries programs entries → (n : ℕ) →
    slice_get entries n ≡ entries_of (map program_of programs) n
entries_same programs entries are n =
    ap (λ es. slice_get es n) are.are ∙ slice_get-map (λ (p : Checked). entry_of (program_of p)) programs n
    ∙ map_twice (slice_get programs n) ∙ ap (option_map entry_of) (sym (slice_get-map program_of programs n))

-- other lists that are the same
kept_same : (kept : WorldState) (lives lives' : List (Option Live)) (ends ends' : List TaskEnd) (k : JobState) →
    lives' ≡ lives → ends' ≡ ends →
    RepresentsTasks (going kept lives ends) k → RepresentsTasks (going kept lives' ends') k
kept_same kept lives lives' ends ends' k e f are =
    subst (λ ls. RepresentsTasks (going kept ls ends') k) (sym e)
    (subst (λ es. RepresentsTasks (going kept lives es) k) (sym f) are)

-- the parents say nothing of how the tasks are kept
member_with : (kept : WorldState) (parents : List ℕ) (buffer : List ℕ) (n : ℕ) (m : Member) →
    IsMemberOf kept buffer n m →
    IsMemberOf (record kept { parents = parents }) buffer n m
member_with kept parents buffer n (job.Live t) is =
    record { live = is.live; there = is.there; checked = is.checked; program = is.program; is = is.is }
member_with kept parents buffer n (job.Ended e) is = record { gone = is.gone; bytes = is.bytes }

with_parents : (kept : WorldState) (parents : List ℕ) (k : JobState) → RepresentsTasks kept k →
    RepresentsTasks (record kept { parents = parents }) k
with_parents kept parents k are = record {
  lives = are.lives;
  ends = are.ends;
  each = λ n m e. member_with kept parents k.buffer n m (are.each n m e);
  each_end = are.each_end;
  spent = are.spent;
  returned = are.returned;
}

-- a step of task n leaves the parents, or adds n to them with a place more
abbrev Grown : ℕ → List (Option Live) → List ℕ → List (Option Live) → List ℕ → Type 0
Grown n lives parents lives' parents' =
    ((parents' ≡ parents) × (length lives' ≡ length lives))
    ⊎ ((parents' ≡ parents ++ n ∷ []) × (length lives' ≡ suc (length lives)))

module _ (kept : WorldState) (j : JobState) (n : ℕ) (live : Live) (behind : RepresentsJob kept j)
    (at : IsLiveAt kept j n live)
    (frame : Frame) (part : Piece) (credit : Credit) (base : part.base ≡ live.part.base)
    (lives : List (Option Live)) (ends : List TaskEnd) (parents : List ℕ) (silent : Type 0)
    (told : SpawnRecord → Result (Unit {0}) SpawnRecord → Type 0)
    (quiet : silent → (lives ≡ set kept.lives n None) × (ends ≡ kept.ends) × (parents ≡ kept.parents))
    (heard : (child : SpawnRecord) (reply : Result (Unit {0}) SpawnRecord) → told child reply →
    Adds n (set kept.lives n None) kept.ends kept.parents child reply lives ends parents) where
  -- the part lies in the buffer, where it is as long as the range
  pub part_fits : length part.bytes ≤ at.task.size → part.base + length part.bytes ≤ length kept.collected
  part_fits le =
      let inside = behind.tiles.inside n (job.Live at.task) at.there in
      omega (arith, inside, le, base, at.is.base, behind.size)

  abbrev after : Live
  after = record { program = live.program; frame = frame; part = part; credit = credit }

  within : n < length kept.lives
  within =
      let lt = slice_get_within j.tasks n (job.Live at.task) at.there in
      omega (arith, lt, behind.kept_are.lives)

  -- the task goes on with all of its range
  goes : (s : State) → length s.part ≡ at.task.size → RepresentsState at.checked frame part credit s →
      IsCovered at.checked frame part credit →
      (lives ≡ set kept.lives n None) × (ends ≡ kept.ends) × (parents ≡ kept.parents) →
      RepresentsTasks (going kept (set lives n (Some after)) ends) (goes_on j n at.task s)
  goes s size stands covered same =
      kept_same kept (set kept.lives n (Some after)) (set lives n (Some after)) kept.ends ends (goes_on j n at.task s)
      (ap (λ ls. set ls n (Some after)) same.0 ∙ set_twice kept.lives n None (Some after)) same.1
      (goes_kept kept j n at.task s at.checked after behind.kept_are behind.tiles at.there size at.program at.is.program
      (at.is.base ∙ sym base) stands.0 stands.1 covered)

  tasks_within : n < length j.tasks
  tasks_within = slice_get_within j.tasks n (job.Live at.task) at.there

  spawned : (birth : Birth) (taken : State) (child : SpawnRecord) →
      taken.part ++ birth.bytes ≡ take at.task.size (drop at.task.base j.buffer) →
      ((entry : Entry) × (entries_of (map program_of kept.programs) birth.program ≡ Some entry)
      × (entry.cost ≤ birth.share)
      × (entry.need ≤ length birth.bytes) × (birth.share ≤ at.task.held)) →
      RepresentsState at.checked frame part credit taken → IsCovered at.checked frame part credit →
      IsRecordOf child birth (part.base + length taken.part) →
      (child.arg < 2 ^ 64) × (lives ≡ set kept.lives n None ++ Some (live_of child) ∷ [])
      × (ends ≡ kept.ends ++ entered (length (set kept.lives n None)) child ∷ []) × (parents ≡ kept.parents ++ n ∷ []) →
      RepresentsTasks (going kept (set lives n (Some after)) ends)
      (record {
        buffer = j.buffer;
        tasks = set j.tasks n (job.Live (record (with_state at.task taken) { children = suc at.task.children }))
            ++ job.Live (child_of at.task taken birth) ∷ [];
      })
  spawned birth taken child splits births stands covered is adds =
      let t : Task = at.task in
      let parent : Task = record (with_state t taken) { children = suc t.children } in
      let long : length taken.part + length birth.bytes ≡ t.size =
      sym (length-append taken.part birth.bytes) ∙ ap length splits ∙ part_long j.buffer t
      (behind.tiles.inside n (job.Live t) at.there) in
      let q = entry_program kept.programs birth.program births.0 births.1 in
      let program : slice_get kept.programs child.program ≡ Some q.0 = ap (slice_get kept.programs) is.program ∙ q.1 in
      let cost : births.0.cost ≡ cost_at q.0 0 = ap (λ (x : Entry). x.cost) q.2 in
      let need : births.0.need ≡ q.0.need = ap (λ (x : Entry). x.need) q.2 in
      let held : t.held ≡ live.credit.held = ap (λ (s : State). s.held) at.is.state in
      let small : length birth.bytes ≤ 65536 = omega (arith, long, at.is.size, at.is.covered.small) in
      let limit : birth.share ≤ 2147483647 = omega (arith, births.4, held, at.is.covered.limit) in
      let b : part.base + length taken.part ≡ t.base + length taken.part = omega (arith, base, at.is.base) in
      let child_is = child_kept kept j t taken birth child (part.base + length taken.part) q.0 is b splits long
      (behind.entries.verified birth.program q.0 q.1) (omega (arith, need, births.3)) small
      (omega (arith, cost, births.2)) limit adds.0 in
      let parent_is : IsTaskOf at.checked j.buffer after parent = record {
        program = at.is.program;
        state = ap (λ bytes. let u : State = record {
          slot = taken.slot;
          registers = taken.registers;
          stack = taken.stack;
          part = bytes;
          held = taken.held;
          used = taken.used;
        } in u)
            (first_part j.buffer t.base t.size taken.part birth.bytes splits long) ∙ stands.0;
        base = at.is.base ∙ sym base;
        size = ap (λ (u : State). length u.part) stands.0;
        behind = stands.1;
        covered = covered;
      } in
      let is_lives : set lives n (Some after) ≡ set kept.lives n (Some after) ++ Some (live_of child) ∷ [] =
      ap (λ ls. set ls n (Some after)) adds.1
      ∙ set-append_left (set kept.lives n None) (Some (live_of child) ∷ []) n (Some after)
      (omega (arith, within, length-set kept.lives n None))
      ∙ ap (λ ls. ls ++ Some (live_of child) ∷ []) (set_twice kept.lives n None (Some after)) in
      let number : length (set kept.lives n None) ≡ length j.tasks =
      length-set kept.lives n None ∙ behind.kept_are.lives in
      let entry : TaskEnd = entered (length (set kept.lives n None)) child in
      let entry_is : entry ≡ end_of (length j.tasks) (job.Live (child_of t taken birth)) =
      ap (λ i. entered i child) number
      ∙ ap (λ i. let x : TaskEnd = record {
        number = length j.tasks;
        program = i;
        arg = child.arg;
        given = child.share;
        spent = 0;
        rest = 0;
        r0 = 0;
        ran = false;
      } in x) is.program
      ∙ ap (λ i. let x : TaskEnd = record {
        number = length j.tasks;
        program = birth.program;
        arg = i;
        given = child.share;
        spent = 0;
        rest = 0;
        r0 = 0;
        ran = false;
      } in x) is.arg
      ∙ ap (λ i. let x : TaskEnd = record {
        number = length j.tasks;
        program = birth.program;
        arg = birth.arg;
        given = i;
        spent = 0;
        rest = 0;
        r0 = 0;
        ran = false;
      } in x) is.share in
      kept_same kept (set kept.lives n (Some after) ++ Some (live_of child) ∷ []) (set lives n (Some after))
      (kept.ends ++ entry ∷ []) ends _
      is_lives adds.2
      (spawns_kept kept j n t parent (child_of t taken birth) after
      (live_of child) at.checked q.0 entry behind.kept_are at.there refl entry_is
      at.program parent_is program child_is)

  same_length : lives ≡ set kept.lives n None → length lives ≡ length kept.lives
  same_length same = ap length same ∙ length-set kept.lives n None

  -- nothing was added to the parents
  grown_none : (lives ≡ set kept.lives n None) × (ends ≡ kept.ends) × (parents ≡ kept.parents) →
      Grown n kept.lives kept.parents lives parents
  grown_none same = inl (same.2, same_length same.0)

  grown_heard : (child : SpawnRecord) (reply : Result (Unit {0}) SpawnRecord) →
      Adds n (set kept.lives n None) kept.ends kept.parents child reply lives ends parents →
      Grown n kept.lives kept.parents lives parents
  grown_heard child (Ok done) adds =
      inr (
        adds.3,
        ap length adds.1 ∙ length-append (set kept.lives n None) (Some (live_of child) ∷ [])
            ∙ omega (arith, length-set kept.lives n None),
      )
  grown_heard child (Err back) adds = grown_none adds

  -- what is kept represents the job after the effect
  pub went : (e : Effect) → Splits (take at.task.size (drop at.task.base j.buffer)) e →
      Births (entries_of (map program_of kept.programs)) at.task.held e → IsCovered at.checked frame part credit →
      StepEffect at.checked e Went frame part credit silent told nobody →
      (refuses : Bool) × (k : JobState) × (applied j n at.task refuses e ≡ Some k) × RepresentsTasks
      (going kept (set lives n (Some after)) ends) k × IsAlive k n
      × Grown n kept.lives kept.parents lives parents
  went (Continues s) splits births covered d = (
    false,
    goes_on j n at.task s,
    refl,
    goes s (splits ∙ part_long j.buffer at.task (behind.tiles.inside n (job.Live at.task) at.there)) d.0 covered
        (quiet d.1),
    (with_state at.task s, set_same j.tasks n (job.Live (with_state at.task s)) tasks_within),
    grown_none (quiet d.1),
  )
  went (Ends r0 s) splits births covered d = absurd d
  went (Spawns birth taken refused) splits births covered d =
      let size : length refused.part ≡ at.task.size =
      ap length splits.1 ∙ part_long j.buffer at.task (behind.tiles.inside n (job.Live at.task) at.there) in
      let parent : Task = record (with_state at.task taken) { children = suc at.task.children } in
      elim d [
        | inl t ↦ (
          false,
          _,
          refl,
          spawned birth taken t.1.0 splits.0 births t.0 covered t.1.1 (heard t.1.0 (Ok tt) t.1.2),
          (
            parent,
            push_old (set j.tasks n (job.Live parent)) n (job.Live (child_of at.task taken birth)) (job.Live parent)
                (set_same j.tasks n (job.Live parent) tasks_within),
          ),
          grown_heard t.1.0 (Ok tt) (heard t.1.0 (Ok tt) t.1.2),
        )
        | inr r ↦ (
          true,
          goes_on j n at.task refused,
          refl,
          goes refused size r.0 covered
              (elim r.1 [ inl back ↦ heard back.0 (Err back.0) back.2 | inr silence ↦ quiet silence ]),
          (with_state at.task refused, set_same j.tasks n (job.Live (with_state at.task refused)) tasks_within),
          elim r.1 [
            | inl back ↦ grown_none (heard back.0 (Err back.0) back.2)
            | inr silence ↦
                grown_none (quiet silence)
          ],
        )
      ]
  went (Calls helper arguments s) splits births covered d = absurd d.2
  went (Traps trap) splits births covered d = absurd d

  -- what is kept where the task has ended with this R0
  abbrev ended_kept : ℕ → WorldState
  ended_kept word =
      keeping kept lives (set ends n (ended_end n at.task credit word)) (written kept.collected part.base part.bytes)
      (kept.spent + credit.used) (kept.returned + (credit.held - credit.used))

  -- the same where the task ends
  pub ended : (e : Effect) (word : ℕ) → Splits (take at.task.size (drop at.task.base j.buffer)) e →
      Keeps at.task.held e →
      StepEffect at.checked e (Ended word) frame part credit silent told nobody →
      (k : JobState) × (applied j n at.task false e ≡ Some k) × RepresentsTasks (ended_kept word) k
      × (credit.used ≤ credit.held) × ((x : job.Ending) × (slice_get k.tasks n ≡ Some (job.Ended x)) × (x.r0 ≡ word))
      × (length part.bytes ≤ at.task.size) × (ends ≡ kept.ends) × Grown n kept.lives kept.parents lives parents
  ended (Continues s) word splits keeps d = absurd d
  ended (Spawns birth taken refused) word splits keeps d = absurd d
  ended (Calls helper arguments s) word splits keeps d = absurd d
  ended (Traps trap) word splits keeps d = absurd d
  ended (Ends r0 s) word splits keeps d =
      let t : Task = at.task in
      let x : job.Ending = job.ending_of t s r0 in
      let bytes : s.part ≡ part.bytes = ap (λ (u : State). u.part) d.1 in
      let used : s.used ≡ credit.used = ap (λ (u : State). u.used) d.1 in
      let held : s.held ≡ credit.held = ap (λ (u : State). u.held) d.1 in
      let same = quiet d.2 in
      let size : t.size ≡ length part.bytes =
      sym (part_long j.buffer t (behind.tiles.inside n (job.Live t) at.there)) ∙ ap length (sym splits ∙ bytes) in
      let are = ends_kept kept j n t s r0 part credit behind.kept_are behind.tiles behind.size at.there
      (at.is.base ∙ sym base) size
      (sym splits ∙ bytes) (sym used) (sym held) in
      let lives_are : set kept.lives n None ≡ lives = sym same.0 in
      let ends_are : set kept.ends n (ended_end n t credit r0) ≡ set ends n (ended_end n t credit word) =
      ap (λ es. set es n (ended_end n t credit r0)) (sym same.1) ∙ ap (λ w. set ends n (ended_end n t credit w))
      (sym d.0) in (
        record { buffer = j.buffer; tasks = set j.tasks n (job.Ended x) },
        refl,
        subst (λ ls. RepresentsTasks
            (keeping kept ls (set ends n (ended_end n t credit word)) (written kept.collected part.base part.bytes)
            (kept.spent + credit.used) (kept.returned + (credit.held - credit.used)))
            (record { buffer = j.buffer; tasks = set j.tasks n (job.Ended x) })) lives_are
            (subst (λ es. RepresentsTasks
            (keeping kept (set kept.lives n None) es (written kept.collected part.base part.bytes)
            (kept.spent + credit.used) (kept.returned + (credit.held - credit.used)))
            (record { buffer = j.buffer; tasks = set j.tasks n (job.Ended x) })) ends_are are),
        omega (arith, keeps.0, used, held),
        (x, set_same j.tasks n (job.Ended x) tasks_within, sym d.0),
        omega (arith, size),
        same.1,
        grown_none same,
      )

  -- the effect on the task makes the job's step
  stepped_job : (refuses : Bool) (k : JobState) →
      applied j n at.task refuses (effect (program_of at.checked) (entries_of (map program_of kept.programs))
      (state_in j.buffer at.task)) ≡ Some k →
      step (map program_of kept.programs) j n refuses ≡ Some k
  stepped_job refuses k is =
      ap (member_step (map program_of kept.programs) j n refuses) at.there
      ∙ ap (task_step (map program_of kept.programs) j n at.task refuses)
      (slice_get-map program_of kept.programs at.task.program
      ∙ ap (λ number. option_map program_of (slice_get kept.programs number)) at.is.program
      ∙ ap (option_map program_of) at.program)
      ∙ is

  -- the parents tell the places of the tasks after the step
  parents_after : (refuses : Bool) (k : JobState) (new : WorldState) →
      step (map program_of kept.programs) j n refuses ≡ Some k →
      length lives ≡ length k.tasks → Grown n kept.lives kept.parents lives new.parents → AreParents new.parents k.tasks
  parents_after refuses k new is long grown =
      let told = grown_step (map program_of kept.programs) j k n refuses kept.parents is behind.parents in
      elim told.1 [
        | inl same ↦ elim grown [
          | inl kept_same ↦ subst (λ ps. AreParents ps k.tasks) (same.1 ∙ sym kept_same.0) told.2
          | inr more ↦ absurd (omega (arith, same.0, more.1, long, behind.kept_are.lives))
        ]
        | inr more ↦ elim grown [
          | inl kept_same ↦ absurd (omega (arith, more.0, kept_same.1, long, behind.kept_are.lives))
          | inr also ↦ subst (λ ps. AreParents ps k.tasks) (more.1 ∙ sym also.0) told.2
        ]
      ]

  kept_behind : (refuses : Bool) (k : JobState) (new : WorldState) →
      step (map program_of kept.programs) j n refuses ≡ Some k →
      new.programs ≡ kept.programs → new.entries ≡ kept.entries → length new.collected ≡ length kept.collected →
      new.issued ≡ kept.issued →
      length new.lives ≡ length lives → Grown n kept.lives kept.parents lives new.parents → RepresentsTasks new k →
      RepresentsJob new k
  kept_behind refuses k new is programs entries size issued long grown are =
      let tiles = tiles_step (map program_of kept.programs) j k n refuses is behind.tiles in
      let credit = keeps_member (map program_of kept.programs) j n refuses (slice_get j.tasks n) k refl is in
      record {
        entries = subst (λ ps. AreEntries ps new.entries) (sym programs)
            (subst (λ es. AreEntries kept.programs es) (sym entries) behind.entries);
        kept_are = are;
        tiles = subst (λ (count : ℕ). AreTiles k.tasks count) (sym tiles.1) tiles.0;
        parents = parents_after refuses k new is (sym long ∙ are.lives) grown;
        size = size ∙ behind.size ∙ sym tiles.1;
        credit = credit ∙ behind.credit ∙ sym issued;
        limit = omega (arith, behind.limit, issued);
      }

  -- what the frame's step did is the effect on the task in the job
  did_here : (p : Checked) (known : ℕ → Option Entry) (out : StepOut) → p ≡ at.checked →
      ((i : ℕ) → known i ≡ slice_get kept.entries i) →
      ((registers : Registers) → RepresentsTask p live.frame registers →
      StepEffect p (effect (program_of p) known
      (state_of live.frame live.part live.credit registers)) out frame part credit silent told nobody) →
      StepEffect at.checked (effect (program_of at.checked) (entries_of (map program_of kept.programs))
      (state_in j.buffer at.task)) out frame part credit silent told nobody
  did_here p known out same entries did =
      let registers : Registers = at.task.registers in
      let first = did registers
      (subst (λ (q : Checked). RepresentsTask q live.frame registers) (sym same) at.is.behind) in
      let second = subst
      (λ (q : Checked). StepEffect q
      (effect (program_of q) known
      (state_of live.frame live.part live.credit registers)) out frame part credit silent told nobody) same first in
      subst (λ (e : Effect). StepEffect at.checked e out frame part credit silent told nobody)
      (effect_same (program_of at.checked) known (entries_of (map program_of kept.programs))
      (λ i. entries i ∙ entries_same kept.programs kept.entries behind.entries i)
      (state_of live.frame live.part live.credit registers)
      ∙ ap (effect (program_of at.checked) (entries_of (map program_of kept.programs))) (sym at.is.state))
      second

  -- what is kept after the step, with other entries
  abbrev with_entries : WorldState → List Entry → WorldState
  with_entries new entries = record new { entries = entries }

  -- and with the parents that it left
  abbrev with_both : WorldState → List Entry → WorldState
  with_both new entries = record new { entries = entries; parents = parents }

  -- what the frame's step did is a step of the job
  pub steps_went : (p : Checked) (known : ℕ → Option Entry) (new : List Entry) → p ≡ at.checked →
      ((i : ℕ) → known i ≡ slice_get kept.entries i) →
      new ≡ kept.entries → IsCovered p frame part credit →
      ((registers : Registers) → RepresentsTask p live.frame registers →
      StepEffect p (effect (program_of p) known
      (state_of live.frame live.part live.credit registers)) Went frame part credit silent told nobody) →
      Steps kept j n stepped.Went (with_both (going kept (set lives n (Some after)) ends) new)
  steps_went p known new same entries still covered did =
      let e : Effect =
      effect (program_of at.checked) (entries_of (map program_of kept.programs)) (state_in j.buffer at.task) in
      let w = went e (splits_effect (program_of at.checked) (entries_of (map program_of kept.programs))
      (state_in j.buffer at.task))
      (births_effect (program_of at.checked) (entries_of (map program_of kept.programs)) (state_in j.buffer at.task))
      (subst (λ (q : Checked). IsCovered q frame part credit) same covered) (did_here p known Went same entries did) in
      let is = stepped_job w.0 w.1 w.2 in
      let next : WorldState = going kept (set lives n (Some after)) ends in (
        w.0,
        w.1,
        is,
        kept_behind w.0 w.1 (with_both next new) is refl still refl refl (length-set lives n (Some after)) w.5
            (with_parents (with_entries next new) parents w.1
            (subst (λ es. RepresentsTasks (with_entries next es) w.1) (sym still) w.3)),
        ((at.task, at.there), w.4),
      )

  pub steps_ended : (p : Checked) (known : ℕ → Option Entry) (new : List Entry) (word : ℕ) → p ≡ at.checked →
      ((i : ℕ) → known i ≡ slice_get kept.entries i) →
      new ≡ kept.entries →
      ((registers : Registers) → RepresentsTask p live.frame registers →
      StepEffect p (effect (program_of p) known (state_of live.frame live.part live.credit registers))
      (Ended word) frame part credit silent told nobody) →
      (credit.used ≤ credit.held) × Steps kept j n (stepped.Ended word) (with_both (ended_kept word) new)
      × (part.base + length part.bytes ≤ length kept.collected) × (ends ≡ kept.ends)
  steps_ended p known new word same entries still did =
      let e : Effect =
      effect (program_of at.checked) (entries_of (map program_of kept.programs)) (state_in j.buffer at.task) in
      let w = ended e word (splits_effect (program_of at.checked) (entries_of (map program_of kept.programs))
      (state_in j.buffer at.task))
      (keeps_effect (program_of at.checked) (entries_of (map program_of kept.programs)) (state_in j.buffer at.task))
      (did_here p known (Ended word) same entries did) in
      let is = stepped_job false w.0 w.1 in
      let fits : part.base + length part.bytes ≤ length kept.collected = part_fits w.5 in (
        w.3,
        (
          false,
          w.0,
          is,
          kept_behind false w.0 (with_both (ended_kept word) new) is refl still
              (length-written kept.collected part.base part.bytes fits) refl refl w.7
              (with_parents (with_entries (ended_kept word) new) parents w.0
              (subst (λ es. RepresentsTasks (with_entries (ended_kept word) es) w.0) (sym still) w.2)),
          ((at.task, at.there), w.4),
        ),
        fits,
        w.6,
      )

skipped_member : (kept : WorldState) (j : JobState) (n : ℕ) (m : Option Member) → slice_get kept.lives n ≡ Some None →
    slice_get j.tasks n ≡ m →
    ((k : Member) → slice_get j.tasks n ≡ Some k → IsMemberOf kept j.buffer n k) →
    member_step (map program_of kept.programs) j n false m ≡ Some j
skipped_member kept j n (Some (job.Live t)) e there each =
    let is = each (job.Live t) there in let clash : Some None ≡ Some (Some is.live) = sym e ∙ is.there in cc
skipped_member kept j n (Some (job.Ended x)) e there each = refl
skipped_member kept j n None e there each = refl

-- a number whose task has ended is skipped
pub skipped : (kept : WorldState) (j : JobState) (n : ℕ) → RepresentsJob kept j → slice_get kept.lives n ≡ Some None →
    Steps kept j n stepped.Skipped kept
skipped kept j n behind e = (
  false,
  j,
  skipped_member kept j n (slice_get j.tasks n) e refl (behind.kept_are.each n),
  behind,
  (
    λ alive. let is = behind.kept_are.each n (job.Live alive.0) alive.1 in
        let clash : Some None ≡ Some (Some is.live) = sym e ∙ is.there in cc,
    refl,
  ),
)

unknown_member : (programs : List Program) (j : JobState) (n : ℕ) (m : Option Member) → slice_get j.tasks n ≡ m →
    length j.tasks ≤ n →
    member_step programs j n false m ≡ Some j
unknown_member programs j n None e le = refl
unknown_member programs j n (Some m) e le = let lt = slice_get_within j.tasks n m e in absurd (omega (arith, lt, le))

-- so is a number that no task has
pub unknown : (kept : WorldState) (j : JobState) (n : ℕ) → RepresentsJob kept j → length kept.lives ≤ n →
    Steps kept j n stepped.Skipped kept
unknown kept j n behind le = (
  false,
  j,
  unknown_member (map program_of kept.programs) j n (slice_get j.tasks n) refl
      (omega (arith, le, behind.kept_are.lives)),
  behind,
  (
    λ alive. let lt = slice_get_within j.tasks n (job.Live alive.0) alive.1 in
        absurd (omega (arith, lt, le, behind.kept_are.lives)),
    refl,
  ),
)
