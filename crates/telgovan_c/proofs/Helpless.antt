-- A program runs alone in the same way where nobody answers as where no function is registered.
use Rattle.std.specs.Prelude.{◌≡◌, ℕ, zero, suc, List, [], Option, None, if◌then◌else◌, nat_lt, Bool, true, false, slice_index_or, ◌-◌}
use Rattle.std.proofs.Common.{refl}
use Rattle.machine_model.specs.Machine.{State, Program, Effect, Continues, Ends, Spawns, Calls, Traps, effect}
use Rattle.machine_model.specs.Alone.{MayAnswer, EndsWithin, Follows, no_entries}
use Rattle.virtual_machine.specs.Executes.{ExecutesOn}
use Rattle.helpers.specs.Table.{Table, job_table}
use Rattle.virtual_machine.specs.Functions.{HaveFunctions, call_answers}
use Rattle.virtual_machine.specs.declared.registered.Registered.{Registered}
use Rattle.task_trees.specs.Solo.{entering}
use Rattle.verifier.specs.Checked.{program_of}
use Rattle.run_trace.specs.Traces.{unanswered}

none_there : {R : Type 0} (is_low : Bool) (place : ℕ) → if◌then◌else◌ {A = Option R} is_low None (slice_index_or [] place None) ≡ None
none_there true place = refl
none_there false place = refl

pub nobody : {X : Type 0} {g : _} (functions : List (Option (Registered X g))) → functions ≡ [] → (helper : ℕ) (arguments : List ℕ) (answer : ℕ) → call_answers functions helper arguments answer → ⊥
nobody {X} {g} functions empty helper arguments answer (f, there, may) =
    let gone = none_there {R = Registered X g} (nat_lt helper 64) (helper - 64) in
    absurd (cc (gone, rw empty at there))

-- a program that may call no helper of a caller's asks for no function
pub have_none : {R : Type 0} (table : Table) (functions : List (Option R)) → table ≡ job_table → HaveFunctions table functions
have_none table functions own place arity there = absurd (cc (rw own at there))

follows_unanswered : (may : MayAnswer) (none : (helper : ℕ) (arguments : List ℕ) (answer : ℕ) → may helper arguments answer → ⊥) (f g : State → Type 0) (more : (s : State) → f s → g s) (r0 : ℕ) (last : State) (e : Effect) → Follows may f r0 last e → Follows unanswered g r0 last e
follows_unanswered may none f g more r0 last (Continues next) on = more next on
follows_unanswered may none f g more r0 last (Ends word state) on = on
follows_unanswered may none f g more r0 last (Spawns birth taken refused) on = on
follows_unanswered may none f g more r0 last (Calls helper arguments caller) on = absurd (none helper arguments on.0 on.1)
follows_unanswered may none f g more r0 last (Traps trap) on = on

ends_unanswered : (p : Program) (may : MayAnswer) (none : (helper : ℕ) (arguments : List ℕ) (answer : ℕ) → may helper arguments answer → ⊥) (r0 : ℕ) (last : State) (n : ℕ) (s : State) → EndsWithin p may r0 last n s → EndsWithin p unanswered r0 last n s
ends_unanswered p may none r0 last zero s on = on
ends_unanswered p may none r0 last (suc n) s on =
    follows_unanswered may none (EndsWithin p may r0 last n) (EndsWithin p unanswered r0 last n) (ends_unanswered p may none r0 last n) r0 last (effect p no_entries s) on

pub executes_alone : (program : _) (may : MayAnswer) (none : (helper : ℕ) (arguments : List ℕ) (answer : ℕ) → may helper arguments answer → ⊥) (arg credit : ℕ) (bytes : List ℕ) (r0 used : ℕ) (left : List ℕ) → ExecutesOn program may arg credit bytes r0 used left → ExecutesOn program unanswered arg credit bytes r0 used left
executes_alone program may none arg credit bytes r0 used left e = record {
  p = e.p;
  runnable = e.runnable;
  runs = record {
    last = e.runs.last;
    ends = (e.runs.ends.0, ends_unanswered (program_of e.p) may none r0 e.runs.last e.runs.ends.0 (entering arg credit bytes) e.runs.ends.1);
    uses = e.runs.uses;
    leaves = e.runs.leaves;
  };
}
