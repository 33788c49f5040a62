-- One task that runs for a while, as steps of the definition.
use Rattle.std.proofs.Common.{◌≡◌, ℕ, zero, suc, List, [], ◌∷◌, map, refl, sym, ◌∙◌, ap, subst, slice_get, replicate, Bool, Option, Some, None, option_and_then}
use Rattle.machine_model.specs.Machine.{Program}
use Rattle.machine_model.specs.JobState as job
use Rattle.machine_model.specs.JobState.{JobState, Task, Member, Move, run, step, member_step, IsAlive}
use Rattle.verifier.specs.Checked.{Checked, program_of}
use Rattle.job_core.specs.declared.tasks.Stepped.TheVariants as stepped
use Rattle.job_core.specs.declared.live.Live.{Live}
use Rattle.job_core.specs.Representation.{WorldState, RepresentsJob, PlaysOn, Steps}
use Rattle.job_core.specs.OneTask.{GoesAlone, stays, goes, RunsTask}
use Rattle.job_core.proofs.Plays.{plays_none}
use Rattle.job_core.proofs.Simulates.{live_at}

-- what a chain gives comes from a value in its middle
middle : (o : Option JobState) (f : JobState → Option JobState) (k : JobState) → option_and_then f o ≡ Some k → (mid : JobState) × (o ≡ Some mid) × (f mid ≡ Some k)
middle None f k is = cc
middle (Some mid) f k is = (mid, refl, is)

-- a task that is alive in the end was alive at first
pub first_alive : (programs : List Program) (n count : ℕ) (j last : JobState) → GoesAlone programs n j count last → IsAlive last n → IsAlive j n
first_alive programs n count j last (stays k) alive = alive
first_alive programs n count j last (goes i k l refuses c first is steps) alive = first

-- one step more
pub goes_then : (programs : List Program) (n count : ℕ) (j k l : JobState) (refuses : Bool) → GoesAlone programs n j count k → IsAlive k n →
    step programs k n refuses ≡ Some l → GoesAlone programs n j (suc count) l
goes_then programs n count j k l refuses (stays i) alive is = goes k l l refuses 0 alive is (stays l)
goes_then programs n count j k l refuses (goes i m e r c first step_is steps) alive is =
    goes i m l r (suc c) first step_is (goes_then programs n c m k l refuses steps alive is)

-- a step of a task that is alive later
one_step : (programs : List Program) (n count : ℕ) (j mid last : JobState) (refuses : Bool) (o : Option Member) → slice_get j.tasks n ≡ o →
    member_step programs j n refuses o ≡ Some mid → step programs j n refuses ≡ Some mid → IsAlive mid n → GoesAlone programs n mid count last →
    GoesAlone programs n j (suc count) last
one_step programs n count j mid last refuses None here is whole alive steps =
    let same : mid ≡ j = cc in
    let there : slice_get j.tasks n ≡ Some (job.Live alive.0) = ap (λ (k : JobState). slice_get k.tasks n) (sym same) ∙ alive.1 in cc
one_step programs n count j mid last refuses (Some (job.Ended e)) here is whole alive steps =
    let same : mid ≡ j = cc in
    let there : slice_get j.tasks n ≡ Some (job.Live alive.0) = ap (λ (k : JobState). slice_get k.tasks n) (sym same) ∙ alive.1 in
    let clash : Some (job.Ended e) ≡ Some (job.Live alive.0) = sym here ∙ there in cc
one_step programs n count j mid last refuses (Some (job.Live t)) here is whole alive steps = goes j mid last refuses count (t, here) whole steps

-- a run that names one task alone, which is alive in the end
pub alive_all : (programs : List Program) (n count : ℕ) (moves : List Move) (j last : JobState) → map (λ (m : Move). m.number) moves ≡ replicate count n →
    run programs j moves ≡ Some last → IsAlive last n → GoesAlone programs n j count last
alive_all programs n zero [] j last numbers runs alive =
    let same : j ≡ last = cc in subst (λ k. GoesAlone programs n j 0 k) same (stays j)
alive_all programs n zero (m ∷ ms) j last numbers runs alive = cc
alive_all programs n (suc count) [] j last numbers runs alive = cc
alive_all programs n (suc count) (m ∷ ms) j last numbers runs alive =
    let number : m.number ≡ n = cc in
    let others : map (λ (x : Move). x.number) ms ≡ replicate count n = cc in
    let through = middle (step programs j m.number m.refuses) (λ mid. run programs mid ms) last runs in
    let rest = alive_all programs n count ms through.0 last others through.2 alive in
    let is : step programs j n m.refuses ≡ Some through.0 = subst (λ k. step programs j k m.refuses ≡ Some through.0) number through.1 in
    one_step programs n count j through.0 last m.refuses (slice_get j.tasks n) refl is is (first_alive programs n count through.0 last rest alive) rest

-- where what is kept has the task, the run that leads there is one of it alone
pub lonely : (old new : WorldState) (n count : ℕ) (live : Live) (j : JobState) (numbers : List ℕ) → numbers ≡ replicate count n → PlaysOn old numbers new → slice_get new.lives n ≡ Some (Some live) →
    RepresentsJob old j → (last : JobState) × GoesAlone (map program_of old.programs) n j count last × RepresentsJob new last × IsAlive last n
lonely old new n count live j numbers all leads here behind =
    let plays = leads.plays j [] (plays_none old.programs j old refl behind) in
    let at = live_at new plays.last n live plays.behind here in
    let alive : IsAlive plays.last n = (at.task, at.there) in
    (plays.last, alive_all (map program_of old.programs) n count plays.moves j plays.last (plays.numbers ∙ all) plays.runs alive, plays.behind, alive)

-- it goes on
pub runs_on : (old new : WorldState) (n count : ℕ) (live : Live) (j : JobState) (numbers : List ℕ) → numbers ≡ replicate count n → PlaysOn old numbers new → slice_get new.lives n ≡ Some (Some live) →
    RepresentsJob old j → RunsTask old j n count stepped.Went new
runs_on old new n count live j numbers all leads here behind =
    let l = lonely old new n count live j numbers all leads here behind in
    record {
      last = l.0;
      steps = l.1;
      behind = l.2;
      answers = (first_alive (map program_of old.programs) n count j l.0 l.1 l.3, l.3);
    }

-- it ends with one step more
pub runs_out : (old mid new : WorldState) (n count r0 : ℕ) (live : Live) (j : JobState) (numbers : List ℕ) → numbers ≡ replicate count n → PlaysOn old numbers mid → slice_get mid.lives n ≡ Some (Some live) →
    RepresentsJob old j → ((k : JobState) → RepresentsJob mid k → Steps mid k n (stepped.Ended r0) new) → RunsTask old j n (suc count) (stepped.Ended r0) new
runs_out old mid new n count r0 live j numbers all leads here behind steps =
    let l = lonely old mid n count live j numbers all leads here behind in
    let s = steps l.0 l.2 in
    let is : step (map program_of old.programs) l.0 n s.0 ≡ Some s.1 =
    subst (λ (ps : List Checked). step (map program_of ps) l.0 n s.0 ≡ Some s.1) leads.programs s.2 in
    record {
      last = s.1;
      steps = goes_then (map program_of old.programs) n count j l.0 s.1 s.0 l.1 l.3 is;
      behind = s.3;
      answers = (first_alive (map program_of old.programs) n count j l.0 l.1 l.3, s.4.1);
    }

-- it isn't alive
pub runs_not : (old : WorldState) (n : ℕ) (j : JobState) → RepresentsJob old j → Steps old j n stepped.Skipped old → RunsTask old j n 0 stepped.Skipped old
runs_not old n j behind steps = record { last = j; steps = stays j; behind = behind; answers = (steps.4.0, refl) }
