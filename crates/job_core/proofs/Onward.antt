-- A task that goes on has less ahead of it.
use Rattle.std.proofs.Common.{◌≡◌, ℕ, suc, ◌<◌, List, length, map, set, slice_get, refl, sym, subst, ◌∙◌, arith, ap, Bool, true, false, Option, Some, option_map}
use Rattle.std.proofs.lemmas.Option.{slice_get_within, slice_get-map}
use Rattle.machine_model.specs.Edges.{Fact, Always, IsEdge}
use Rattle.machine_model.specs.Machine.{State, Program, Effect, Continues, Ends, Spawns, Calls, Traps, effect}
use Rattle.machine_model.specs.Following.{FollowsEdge}
use Rattle.machine_model.specs.JobState as job
use Rattle.machine_model.specs.JobState.{JobState, Task, applied, child_of, entries_of, ending_of, member_step, state_in, step, task_step, with_state}
use Rattle.machine_model.proofs.Costs.{cost_edge, price_le_cost}
use Rattle.machine_model.proofs.FollowingLemmas.{follows_edge}
use Rattle.machine_model.proofs.Places.{set_same, push_old}
use Rattle.verifier.specs.Checked.{Checked, program_of, cost_at}
use Rattle.machine_model.proofs.Pays.{price_some}
use Rattle.job_core.specs.Representation.{WorldState, RepresentsJob}

-- there is one live task under a number
one_live : (tasks : List job.Member) (n : ℕ) (t u : Task) → slice_get tasks n ≡ Some (job.Live t) → slice_get tasks n ≡ Some (job.Live u) → u ≡ t
one_live tasks n t u here there =
    let same : Some (job.Live u) ≡ Some (job.Live t) = sym there ∙ here in cc

no_live : (tasks : List job.Member) (n : ℕ) (x : job.Ending) (u : Task) → slice_get tasks n ≡ Some (job.Ended x) → slice_get tasks n ≡ Some (job.Live u) → ⊥
no_live tasks n x u here there = let clash : Some (job.Ended x) ≡ Some (job.Live u) = sym here ∙ there in cc

-- what one of two equal jobs has under a number, the other has too
same_member : (x k : JobState) (n : ℕ) (m : job.Member) → Some x ≡ Some k → slice_get x.tasks n ≡ Some m → slice_get k.tasks n ≡ Some m
same_member x k n m e is = let same : x ≡ k = cc in subst (λ (y : JobState). slice_get y.tasks n ≡ Some m) same is

-- the task is at the end of an edge of its program
record IsAlong (p : Program) (t u : Task) : Type 0 where
  fact : Fact
  edge : IsEdge p.code t.slot fact u.slot
  program : u.program ≡ t.program

-- what the effect makes of a task that goes on is at the end of an edge
module _ (p : Program) (j k : JobState) (n : ℕ) (t u : Task) (within : n < length j.tasks) (there : slice_get k.tasks n ≡ Some (job.Live u)) where
  at_end : (v : Task) (fact : Fact) → slice_get k.tasks n ≡ Some (job.Live v) → IsEdge p.code t.slot fact v.slot → v.program ≡ t.program → IsAlong p t u
  at_end v fact at edge same =
      subst (λ (x : Task). IsAlong p t x) (sym (one_live k.tasks n v u at there)) (record { fact = fact; edge = edge; program = same })

  along : (refuses : Bool) (e : Effect) → FollowsEdge p.code t.slot e → applied j n t refuses e ≡ Some k → IsAlong p t u
  along refuses (Continues s) follows is =
      at_end (with_state t s) follows.0 (same_member _ k n (job.Live (with_state t s)) is (set_same j.tasks n (job.Live (with_state t s)) within)) follows.1 refl
  along refuses (Ends r0 s) follows is =
      absurd (no_live k.tasks n (ending_of t s r0) u
      (same_member _ k n (job.Ended (ending_of t s r0)) is (set_same j.tasks n (job.Ended (ending_of t s r0)) within)) there)
  along true (Spawns birth taken refused) follows is =
      at_end (with_state t refused) Always
      (same_member _ k n (job.Live (with_state t refused)) is (set_same j.tasks n (job.Live (with_state t refused)) within)) follows.1 refl
  along false (Spawns birth taken refused) follows is =
      let parent : Task = record (with_state t taken) { children = suc t.children } in
      at_end parent Always
      (same_member _ k n (job.Live parent) is (push_old (set j.tasks n (job.Live parent)) n (job.Live (child_of t taken birth)) (job.Live parent)
      (set_same j.tasks n (job.Live parent) within))) follows.0 refl
  along refuses (Calls helper arguments s) follows is = cc
  along refuses (Traps trap) follows is = cc

  along_program : (programs : List Program) (refuses : Bool) (o : Option Program) → o ≡ Some p → task_step programs j n t refuses o ≡ Some k → IsAlong p t u
  along_program programs refuses o e is =
      let stepped : task_step programs j n t refuses (Some p) ≡ Some k = ap (task_step programs j n t refuses) (sym e) ∙ is in
      along refuses (effect p (entries_of programs) (state_in j.buffer t)) (follows_edge p (entries_of programs) (state_in j.buffer t)) stepped

-- what a live task has ahead of it is more than nothing
pub some_ahead : (kept : WorldState) (j : JobState) (n : ℕ) (t : Task) (p : Checked) → RepresentsJob kept j → slice_get j.tasks n ≡ Some (job.Live t) →
    slice_get kept.programs t.program ≡ Some p → 0 < cost_at p t.slot
some_ahead kept j n t p behind there program =
    let is = behind.kept_are.each n (job.Live t) there in
    let slot : t.slot ≡ is.live.frame.slot = ap (λ (s : State). s.slot) is.is.state in
    let same : Some is.checked ≡ Some p = sym is.program ∙ ap (slice_get kept.programs) (sym is.is.program) ∙ program in
    let costs = (behind.entries.verified is.live.program is.checked is.program).costs in
    let begins = is.is.covered.begins in
    let le = price_le_cost is.checked.code is.checked.costs is.live.frame.slot begins.0 costs begins.1 in
    let ahead : 0 < cost_at is.checked is.live.frame.slot = omega (arith, le, price_some begins.0) in
    let one : is.checked ≡ p = cc in
    subst (λ (q : Checked). 0 < cost_at q t.slot) one (subst (λ s. 0 < cost_at is.checked s) (sym slot) ahead)

-- a task that is alive after its step is one of the same program, and has less ahead of it
pub less_ahead : (kept : WorldState) (j k : JobState) (n : ℕ) (refuses : Bool) (t u : Task) (p : Checked) → RepresentsJob kept j →
    step (map program_of kept.programs) j n refuses ≡ Some k → slice_get j.tasks n ≡ Some (job.Live t) → slice_get k.tasks n ≡ Some (job.Live u) →
    slice_get kept.programs t.program ≡ Some p → (u.program ≡ t.program) × (cost_at p u.slot < cost_at p t.slot)
less_ahead kept j k n refuses t u p behind stepped there then own =
    let is = behind.kept_are.each n (job.Live t) there in
    let slot : t.slot ≡ is.live.frame.slot = ap (λ (s : State). s.slot) is.is.state in
    let same : Some is.checked ≡ Some p = sym is.program ∙ ap (slice_get kept.programs) (sym is.is.program) ∙ own in
    let one : is.checked ≡ p = cc in
    let verified = behind.entries.verified is.live.program is.checked is.program in
    let program : slice_get (map program_of kept.programs) t.program ≡ Some (program_of is.checked) =
    slice_get-map program_of kept.programs t.program
    ∙ ap (λ number. option_map program_of (slice_get kept.programs number)) is.is.program ∙ ap (option_map program_of) is.program in
    let member : task_step (map program_of kept.programs) j n t refuses (slice_get (map program_of kept.programs) t.program) ≡ Some k =
    ap (member_step (map program_of kept.programs) j n refuses) (sym there) ∙ stepped in
    let way = along_program (program_of is.checked) j k n t u (slice_get_within j.tasks n (job.Live t) there) then (map program_of kept.programs) refuses
    (slice_get (map program_of kept.programs) t.program) program member in
    let begins = is.is.covered.begins in
    let edge = subst (λ s. IsEdge is.checked.code s way.fact u.slot) slot way.edge in
    let lands = (verified.each is.live.frame.slot begins.0 is.is.behind.state begins.1 is.is.behind.known).lands way.fact u.slot edge in
    let falls = cost_edge is.checked.code is.checked.costs is.live.frame.slot u.slot way.fact begins.0 verified.costs begins.1 edge lands in
    let less : cost_at is.checked u.slot < cost_at is.checked is.live.frame.slot = omega (arith, falls, price_some begins.0) in (
      way.program,
      subst (λ (q : Checked). cost_at q u.slot < cost_at q t.slot) one
          (subst (λ s. cost_at is.checked u.slot < cost_at is.checked s) (sym slot) less),
    )
