-- A job's tasks run to their ends in order of number: each step is that of the live task of lowest number.
use Rattle.std.proofs.Common.{◌≡◌, ◌≢◌, ℕ, suc, ◌<◌, ◌≤◌, ◌+◌, ◌∙◌, inl, inr, List, [], ◌∷◌, ◌++◌, length, length-set, map, refl, sym, ap, subst, arith, set, slice_get, Bool, true, false, Option, Some, None, nat_lt}
use Rattle.std.proofs.lemmas.Bool.{cases_lt}
use Rattle.std.proofs.lemmas.Option.{slice_get_within}
use Rattle.machine_model.specs.Machine.{Program, Effect, Continues, Ends, Spawns, Calls, Traps, effect}
use Rattle.machine_model.specs.JobState as job
use Rattle.machine_model.specs.JobState.{JobState, Task, Member, IsAlive, IsComplete, start, step, member_step, task_step, applied, goes_on, with_state, child_of, ending_of, state_in, entries_of}
use Rattle.machine_model.proofs.Places.{set_other, pushed}
use Rattle.verifier.specs.Checked.{Checked, program_of}
use Rattle.job_core.specs.Admitted.{AdmittedJob}
use Rattle.job_core.specs.Representation.{WorldState, RepresentsJob}
use Rattle.job_core.specs.declared.tasks.Stepped.{Stepped}
use Rattle.job_core.specs.declared.tasks.Stepped.TheVariants.{Skipped, Went, Ended}
use Rattle.job_core.specs.OneTask.{GoesAlone, stays, goes, RunsTask}
use Rattle.job_core.specs.PlaysLowest.{IsLowest, GoesLowest, none_yet, one_more, IsPlayed}

-- no task of a number below n is alive
abbrev pub AreOver : JobState → ℕ → Type 0
AreOver j n = (k : ℕ) → k < n → IsAlive j k → ⊥

-- where another task is replaced, one that isn't alive stays so
over_set : (ts : List Member) (n k : ℕ) (new : Member) → k < n → ((t : Task) → slice_get ts k ≡ Some (job.Live t) → ⊥) → (t : Task) →
    slice_get (set ts n new) k ≡ Some (job.Live t) → ⊥
over_set ts n k new less dead t is =
    let ne : k ≢ n = λ e. absurd (omega (arith, less, e)) in
    dead t (sym (set_other ts n k new ne) ∙ is)

over_pushed : (ts : List Member) (n k : ℕ) (new child : Member) → k < n → n < length ts → ((t : Task) → slice_get ts k ≡ Some (job.Live t) → ⊥) → (t : Task) →
    slice_get (set ts n new ++ child ∷ []) k ≡ Some (job.Live t) → ⊥
over_pushed ts n k new child less there dead t is = elim (pushed (set ts n new) k child (job.Live t) is) [
  | inl old ↦ over_set ts n k new less dead t old
  | inr last ↦ absurd (omega (arith, last.0, less, there, length-set ts n new))
]

module _ (j : JobState) (n k : ℕ) (t : Task) (less : k < n) (within : n < length j.tasks) (dead : IsAlive j k → ⊥) where
  over_applied : (refuses : Bool) (e : Effect) (next : JobState) → applied j n t refuses e ≡ Some next → IsAlive next k → ⊥
  over_applied refuses (Continues s) next is alive =
      let same : goes_on j n t s ≡ next = cc in
      over_set j.tasks n k (job.Live (with_state t s)) less (λ u e. dead (u, e)) alive.0 (ap (λ (x : JobState). slice_get x.tasks k) same ∙ alive.1)
  over_applied refuses (Ends r0 s) next is alive =
      let made : JobState = record { buffer = j.buffer; tasks = set j.tasks n (job.Ended (ending_of t s r0)) } in
      let same : made ≡ next = cc in
      over_set j.tasks n k (job.Ended (ending_of t s r0)) less (λ u e. dead (u, e)) alive.0 (ap (λ (x : JobState). slice_get x.tasks k) same ∙ alive.1)
  over_applied true (Spawns birth taken refused) next is alive =
      let same : goes_on j n t refused ≡ next = cc in
      over_set j.tasks n k (job.Live (with_state t refused)) less (λ u e. dead (u, e)) alive.0 (ap (λ (x : JobState). slice_get x.tasks k) same ∙ alive.1)
  over_applied false (Spawns birth taken refused) next is alive =
      let parent : Task = record (with_state t taken) { children = suc t.children } in
      let made : JobState = record { buffer = j.buffer; tasks = set j.tasks n (job.Live parent) ++ job.Live (child_of t taken birth) ∷ [] } in
      let same : made ≡ next = cc in
      over_pushed j.tasks n k (job.Live parent) (job.Live (child_of t taken birth)) less within (λ u e. dead (u, e)) alive.0
      (ap (λ (x : JobState). slice_get x.tasks k) same ∙ alive.1)
  over_applied refuses (Calls helper arguments caller) next is alive = cc
  over_applied refuses (Traps trap) next is alive = cc

  over_task : (programs : List Program) (refuses : Bool) (o : Option Program) (next : JobState) → task_step programs j n t refuses o ≡ Some next → IsAlive next k → ⊥
  over_task programs refuses None next is alive = cc
  over_task programs refuses (Some p) next is alive = over_applied refuses (effect p (entries_of programs) (state_in j.buffer t)) next is alive

-- a step of a live task leaves those below it that are over
over_step : (programs : List Program) (j next : JobState) (n : ℕ) (refuses : Bool) → IsAlive j n → step programs j n refuses ≡ Some next → AreOver j n → AreOver next n
over_step programs j next n refuses alive is over k less there =
    let t = alive.0 in
    let stepped : task_step programs j n t refuses (slice_get programs t.program) ≡ Some next = ap (member_step programs j n refuses) (sym alive.1) ∙ is in
    over_task j n k t less (slice_get_within j.tasks n (job.Live t) alive.1) (over k less) programs refuses (slice_get programs t.program) next stepped there

-- steps of a task where those below it are over are steps of the lowest
along : (programs : List Program) (first : JobState) (n count : ℕ) (j last : JobState) → GoesAlone programs n j count last → AreOver j n → GoesLowest programs first j →
    GoesLowest programs first last × AreOver last n
along programs first n count j last (stays k) over so_far = (so_far, over)
along programs first n count j last (goes i k l refuses c alive is steps) over so_far =
    along programs first n c k l steps (over_step programs i k n refuses alive is over)
    (one_more i k n refuses so_far (record { alive = alive; lowest = over }) is)

-- the tasks up to a number have run to their ends
pub record AreRun (order : AdmittedJob) (n : ℕ) (kept : WorldState) : Type 0 where
  pub programs : kept.programs ≡ order.programs
  pub reached : JobState
  pub behind : RepresentsJob kept reached
  pub steps : GoesLowest (map program_of order.programs) (start order.credit order.buffer) reached
  pub over : AreOver reached n

pub none_run : (order : AdmittedJob) (kept : WorldState) → kept.programs ≡ order.programs → RepresentsJob kept (start order.credit order.buffer) → AreRun order 0 kept
none_run order kept programs behind = record {
  programs = programs;
  reached = start order.credit order.buffer;
  behind = behind;
  steps = none_yet;
  over = λ k less alive. absurd (omega (arith, less));
}

one_over : (j : JobState) (n : ℕ) → AreOver j n → (IsAlive j n → ⊥) → AreOver j (n + 1)
one_over j n over dead k less alive = elim (cases_lt k n) [
  | inl below ↦ over k below alive
  | inr above ↦ let same : k ≡ n = omega (arith, less, above) in dead (subst (λ m. IsAlive j m) same alive)
]

-- one task more
pub one_run : (order : AdmittedJob) (n count : ℕ) (came_to : Stepped) (old new : WorldState) → new.programs ≡ old.programs → (came_to ≡ Went → ⊥) →
    ((j : JobState) → RepresentsJob old j → RunsTask old j n count came_to new) → AreRun order n old → AreRun order (n + 1) new
one_run order n count Skipped old new same not runs so_far =
    let r = runs so_far.reached so_far.behind in
    record {
      programs = same ∙ so_far.programs;
      reached = so_far.reached;
      behind = subst (λ k. RepresentsJob new k) r.answers.1 r.behind;
      steps = so_far.steps;
      over = one_over so_far.reached n so_far.over r.answers.0;
    }
one_run order n count Went old new same not runs so_far = absurd (not refl)
one_run order n count (Ended r0) old new same not runs so_far =
    let r = runs so_far.reached so_far.behind in
    let steps = subst (λ (ps : List Checked). GoesAlone (map program_of ps) n so_far.reached count r.last) so_far.programs r.steps in
    let on = along (map program_of order.programs) (start order.credit order.buffer) n count so_far.reached r.last steps so_far.over so_far.steps in
    let ended = r.answers.1 in
    record {
      programs = same ∙ so_far.programs;
      reached = r.last;
      behind = r.behind;
      steps = on.0;
      over = one_over r.last n on.1 (λ alive. let clash : Some (job.Ended ended.0) ≡ Some (job.Live alive.0) = sym ended.1 ∙ alive.1 in cc);
    }

-- all of them
pub all_run : (order : AdmittedJob) (n : ℕ) (kept : WorldState) → (so_far : AreRun order n kept) → length so_far.reached.tasks ≤ n → IsComplete so_far.reached
all_run order n kept so_far past k t there =
    so_far.over k (omega (arith, past, slice_get_within so_far.reached.tasks k (job.Live t) there)) (t, there)
