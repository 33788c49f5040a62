-- A run refuses nothing but spawns.
use Rattle.std.proofs.Common.{◌≡◌, ℕ, List, [], ◌∷◌, map, slice_get, refl, ◌∙◌, ap, subst, Bool, true, false, Option, Some, None, option_and_then}
use Rattle.machine_model.specs.Machine.{Program, Effect, Continues, Ends, Spawns, Calls, Traps, effect}
use Rattle.machine_model.specs.JobState.{JobState, Task, Member, Live, Ended, Move, applied, entries_of, task_step, member_step, state_in, step, run, start}
use Rattle.task_trees.specs.Answer.{IsSpawn, RefuseSpawns, PlaysToAnswer}
use Rattle.task_trees.proofs.TreeAnswers.{one_answer}

-- the same step, which refuses only where there is a spawn
record Chosen (programs : List Program) (j k : JobState) (n : ℕ) : Type 0 where
  pub refuses : Bool
  pub is : step programs j n refuses ≡ Some k
  pub spawn : refuses ≡ true → IsSpawn programs j n

untrue : {X : Type 0} → false ≡ true → X
untrue e = cc

module _ (programs : List Program) (j k : JobState) (n : ℕ) where
  taken : step programs j n false ≡ Some k → Chosen programs j k n
  taken is = record { refuses = false; is = is; spawn = λ e. untrue e }

  module _ (t : Task) (here : slice_get j.tasks n ≡ Some (Live t)) (p : Program) (there : slice_get programs t.program ≡ Some p) where
    -- the step of this task, by its effect
    stepped : (refuses : Bool) (e : Effect) → effect p (entries_of programs) (state_in j.buffer t) ≡ e →
        step programs j n refuses ≡ applied j n t refuses e
    stepped refuses e is =
        ap (member_step programs j n refuses) here ∙ ap (task_step programs j n t refuses) there ∙ ap (applied j n t refuses) is

    by_effect : (e : Effect) → effect p (entries_of programs) (state_in j.buffer t) ≡ e → applied j n t true e ≡ Some k → Chosen programs j k n
    by_effect (Continues s) is to = taken (stepped false (Continues s) is ∙ to)
    by_effect (Ends r0 s) is to = taken (stepped false (Ends r0 s) is ∙ to)
    by_effect (Spawns birth taken refused) is to = record {
      refuses = true;
      is = stepped true (Spawns birth taken refused) is ∙ to;
      spawn = λ e. record { task = t; alive = here; program = p; there = there; birth = birth; taken = taken; refused = refused; is = is };
    }
    by_effect (Calls helper arguments caller) is to = cc
    by_effect (Traps trap) is to = cc

  by_program : (t : Task) → slice_get j.tasks n ≡ Some (Live t) → (o : Option Program) → slice_get programs t.program ≡ o →
      task_step programs j n t true o ≡ Some k → Chosen programs j k n
  by_program t here None there to = cc
  by_program t here (Some p) there to = by_effect t here p there (effect p (entries_of programs) (state_in j.buffer t)) refl to

  by_member : (o : Option Member) → slice_get j.tasks n ≡ o → member_step programs j n true o ≡ Some k → Chosen programs j k n
  by_member None at to = taken (ap (member_step programs j n false) at ∙ to)
  by_member (Some (Ended e)) at to = taken (ap (member_step programs j n false) at ∙ to)
  by_member (Some (Live t)) at to = by_program t at (slice_get programs t.program) refl to

  chosen : (refuses : Bool) → step programs j n refuses ≡ Some k → Chosen programs j k n
  chosen false is = taken is
  chosen true is = by_member (slice_get j.tasks n) refl is

-- what a chain gives comes from a value in its middle
middle : (o : Option JobState) (f : JobState → Option JobState) (k : JobState) → option_and_then f o ≡ Some k → (mid : JobState) × (o ≡ Some mid) × (f mid ≡ Some k)
middle None f k is = cc
middle (Some mid) f k is = (mid, refl, is)

-- the same run, whose refusals are of spawns
record Told (programs : List Program) (j k : JobState) (moves : List Move) : Type 0 where
  pub others : List Move
  pub numbers : map (λ (m : Move). m.number) others ≡ map (λ (m : Move). m.number) moves
  pub runs : run programs j others ≡ Some k
  pub refusals : RefuseSpawns programs j others

one_job : (a b : JobState) (o : Option JobState) → o ≡ Some a → o ≡ Some b → a ≡ b
one_job a b o e f = cc

told : (programs : List Program) (j k : JobState) (moves : List Move) → run programs j moves ≡ Some k → Told programs j k moves
told programs j k [] is = record { others = []; numbers = refl; runs = is; refusals = tt }
told programs j k (m ∷ ms) is =
    let through = middle (step programs j m.number m.refuses) (λ mid. run programs mid ms) k is in
    let c = chosen programs j through.0 m.number m.refuses through.1 in
    let later = told programs through.0 k ms through.2 in
    let move : Move = record { number = m.number; refuses = c.refuses } in
    record {
      others = move ∷ later.others;
      numbers = ap (λ (ns : List ℕ). m.number ∷ ns) later.numbers;
      runs = ap (λ o. option_and_then (λ mid. run programs mid later.others) o) c.is ∙ later.runs;
      refusals = (
        c.spawn,
        λ x there. subst (λ (y : JobState). RefuseSpawns programs y later.others)
            (one_job through.0 x (step programs j m.number c.refuses) c.is there) later.refusals,
      );
    }

pub plays_to_answer : (programs : List Program) (credit : ℕ) (buffer : List ℕ) (moves : List Move) (last : JobState) →
    run programs (start credit buffer) moves ≡ Some last →
    PlaysToAnswer programs credit buffer (map (λ (m : Move). m.number) moves) last
plays_to_answer programs credit buffer moves last is =
    let t = told programs (start credit buffer) last moves is in
    record {
      moves = t.others;
      numbers = t.numbers;
      runs = t.runs;
      refusals = t.refusals;
      answer = λ refused over. one_answer programs credit buffer t.others last t.runs refused over;
    }
