-- The seat of a task that is over is that of a run, or of one that wasn't run.
use Rattle.std.proofs.Common.{◌≡◌, ℕ, zero, suc, ◌<◌, ◌^◌, List, [], ◌∷◌, ◌++◌, map, Bool, true, false, Result, Option, Some, None, refl, sym, ap, ◌∙◌, subst, arith}
use Rattle.std.specs.Prelude.{slice_get}
use Rattle.helpers.specs.Piece.{Piece}
use Rattle.helpers.specs.declared.spawner.SpawnRecord.{SpawnRecord}
use Rattle.machine_model.specs.Machine.{Program}
use Rattle.verifier.specs.Checked.{Checked, program_of}
use Rattle.credit_book.specs.declared.task.Outcome.{Outcome}
use Rattle.credit_book.specs.declared.task.Ticket.{Ticket}
use Rattle.task_trees.specs.Solo.{SpawnRequest}
use Rattle.virtual_machine.specs.Through.{GoesThrough}
use Rattle.task_register.specs.declared.seats.TaskStart.{TaskStart}
use Rattle.task_register.specs.declared.seats.SeatedTask.{SeatedTask}
use Rattle.task_register.specs.declared.seats.TaskResult.{TaskResult}
use Rattle.task_register.specs.Handing.{IsSeatOf, ended_with}
use Rattle.task_register.specs.Rule.{with_one_more}
use Rattle.job_answer.specs.SpawnTree.{taken}
use Rattle.job_answer.specs.Gathered.{RanByItself, handed}
use Rattle.job_answer.specs.Children.{AddsEachChild, HasAdded, start_of}
use Rattle.job_answer.specs.OneAnswer.{IsNotRun, RunsOrNot, runs_by}
use Rattle.job_answer.proofs.ChildrenLemmas.{has_borne}
use Rattle.workers.specs.Outcomes.{IsOutcome, IsRunOf, IsUnrun, by_ran}
use Rattle.workers.specs.Seats.{HasOneMore, IsTaskOver, task_in}

-- the task of a ticket, with these children
abbrev seated_as : Ticket → ℕ → List TaskStart → SeatedTask
seated_as ticket parent children = record {
  number = ticket.number;
  birth = record {
    parent = parent;
    program = ticket.program;
    share = ticket.held;
    arg = ticket.arg;
    base = ticket.part.base;
    bytes = ticket.part.bytes;
  };
  children = children;
}

begun_as : (ticket : Ticket) (task : SeatedTask) → IsSeatOf ticket task → task ≡ seated_as ticket task.birth.parent []
begun_as ticket task s = λ i. record {
  number = s.number i;
  birth = record {
    parent = task.birth.parent;
    program = s.program i;
    share = s.share i;
    arg = s.arg i;
    base = s.base i;
    bytes = s.bytes i;
  };
  children = s.none i;
}

-- what the seat knows once the task has handed over what it was given
left_as : (ticket : Ticket) (task own : SeatedTask) (asked : List SpawnRequest) → IsSeatOf ticket task → HasAdded ticket.part.base task asked own →
    own ≡ seated_as ticket task.birth.parent (map (handed ticket.number ticket.part.base) (taken asked))
left_as ticket task own asked s h =
    let begun = begun_as ticket task s in
    let number : own.number ≡ ticket.number = h.number ∙ s.number in
    let birth = h.birth ∙ ap (λ (o : SeatedTask). o.birth) begun in
    let children : own.children ≡ map (handed ticket.number ticket.part.base) (taken asked) =
    h.children ∙ ap (λ l. l ++ map (handed task.number ticket.part.base) (taken asked)) s.none
    ∙ ap (λ n. map (handed n ticket.part.base) (taken asked)) s.number in
    λ i. record { number = number i; birth = birth i; children = children i }

mapped : (programs : List Checked) (n : ℕ) (p : Checked) → slice_get programs n ≡ Some p → slice_get (map program_of programs) n ≡ Some (program_of p)
mapped [] n p e = absurd (cc)
mapped (x ∷ xs) zero p e = ap (λ (o : Option Checked). some_program o) e
  where
    some_program : Option Checked → Option Program
    some_program None = None
    some_program (Some c) = Some (program_of c)
mapped (x ∷ xs) (suc n) p e = mapped xs n p e

run_is : (programs : List Checked) (ticket : Ticket) (through : List SpawnRequest → Type 0) (outcome : Outcome) (whole : Bool) (parent : ℕ) (run : IsRunOf programs ticket through outcome whole) →
    RanByItself (map program_of programs) (ended_with (seated_as ticket parent (map (handed ticket.number ticket.part.base) (taken run.run.alone.asked))) outcome whole)
run_is programs ticket through outcome whole parent run = record {
  program = program_of run.program;
  there = mapped programs ticket.program run.program run.named;
  suffices = run.suffices;
  asked = run.run.alone.asked;
  last = run.run.alone.last;
  alone = run.run.alone.alone;
  used = run.run.alone.used_is;
  bytes = run.run.alone.bytes_are;
  base = run.run.base;
  children = refl;
  told = run.run.alone.told;
}

unrun_is : (ticket : Ticket) (outcome : Outcome) (whole : Bool) (parent : ℕ) → IsUnrun ticket outcome → whole ≡ false →
    IsNotRun (ended_with (seated_as ticket parent []) outcome whole)
unrun_is ticket outcome whole parent u not_whole = record {
  used = u.used;
  r0 = u.r0;
  base = ap (λ (q : Piece). q.base) u.part;
  bytes = ap (λ (q : Piece). q.bytes) u.part;
  children = refl;
  whole = not_whole;
}

module _ {S : Type 0} (old new : S) (turn : S → Option SeatedTask) (spawns : S → SpawnRecord → Result (Unit {0}) SpawnRecord → S → Type 0)
    (adds : AddsEachChild (λ s. task_in (turn s)) spawns) (programs : List Checked) (holds : TaskResult → Type 0)
    (allows : (o : TaskResult) → RunsOrNot (map program_of programs) o → holds o) (ticket : Ticket) (task : SeatedTask)
    (there : turn old ≡ Some task) (seat : IsSeatOf ticket task) (few : ticket.number < 2 ^ 32) (outcome : Outcome) (whole : Bool) where
  -- a seat of a task that has a number is there
  is_there : (o : Option SeatedTask) (own : SeatedTask) → task_in o ≡ own → own.number ≡ ticket.number → o ≡ Some own
  is_there None own is number =
      let big : 4294967296 ≡ ticket.number = ap (λ (t : SeatedTask). t.number) is ∙ number in
      absurd (omega (arith, big, few))
  is_there (Some t) own is number = ap Some is

  over_ran : outcome.ran ≡ true → IsRunOf programs ticket (λ asked. GoesThrough spawns ticket.part.base old asked new) outcome whole → IsTaskOver holds (turn new) outcome whole
  over_ran ran run =
      let asked = run.run.alone.asked in
      let added = has_borne (λ s. task_in (turn s)) spawns adds ticket.part.base old new asked run.run.alone.went in
      let first : HasAdded ticket.part.base task asked (task_in (turn new)) =
      subst (λ (t : SeatedTask). HasAdded ticket.part.base t asked (task_in (turn new))) (ap task_in there) added in
      let own : SeatedTask = seated_as ticket task.birth.parent (map (handed ticket.number ticket.part.base) (taken asked)) in
      let is : task_in (turn new) ≡ own = left_as ticket task (task_in (turn new)) asked seat first in
      record {
        task = own;
        there = is_there (turn new) own is refl;
        number = sym run.run.number;
        runs = allows (ended_with own outcome whole)
            (subst (λ (b : Bool). runs_by b (map program_of programs) (ended_with own outcome whole)) (sym ran) (run_is programs ticket _ outcome whole task.birth.parent run));
      }

  over_unrun : outcome.ran ≡ false → IsUnrun ticket outcome → whole ≡ false → new ≡ old → IsTaskOver holds (turn new) outcome whole
  over_unrun ran unrun not_whole same =
      let own : SeatedTask = seated_as ticket task.birth.parent [] in
      record {
        task = own;
        there = ap turn same ∙ there ∙ ap Some (begun_as ticket task seat);
        number = sym unrun.number;
        runs = allows (ended_with own outcome whole)
            (subst (λ (b : Bool). runs_by b (map program_of programs) (ended_with own outcome whole)) (sym ran) (unrun_is ticket outcome whole task.birth.parent unrun not_whole));
      }

  by_either : (b : Bool) → outcome.ran ≡ b →
      by_ran b (IsRunOf programs ticket (λ asked. GoesThrough spawns ticket.part.base old asked new) outcome whole) (IsUnrun ticket outcome × (whole ≡ false) × (new ≡ old)) →
      IsTaskOver holds (turn new) outcome whole
  by_either true ran h = over_ran ran h
  by_either false ran h = over_unrun ran h.0 h.1 h.2

  pub is_over : IsOutcome programs ticket (λ asked. GoesThrough spawns ticket.part.base old asked new) (new ≡ old) outcome whole → IsTaskOver holds (turn new) outcome whole
  is_over h = by_either outcome.ran refl h

-- a child more, and no other change of what is known
pub one_more_is : (old new : Option SeatedTask) (child : SpawnRecord) → HasOneMore old child new →
    task_in new ≡ with_one_more (task_in old) (start_of (task_in old).number child)
one_more_is old new child h =
    ap task_in h.after ∙ ap (λ (o : Option SeatedTask). with_one_more (task_in o) (start_of (task_in o).number child)) (sym h.there)

-- an outcome is of its ticket's job
pub job_is : (programs : List Checked) (ticket : Ticket) (through : List SpawnRequest → Type 0) (silent : Type 0) (outcome : Outcome) (whole : Bool) →
    IsOutcome programs ticket through silent outcome whole → outcome.job ≡ ticket.job
job_is programs ticket through silent outcome whole h = by_either outcome.ran h
  where
    by_either : (b : Bool) → by_ran b (IsRunOf programs ticket through outcome whole) (IsUnrun ticket outcome × (whole ≡ false) × silent) → outcome.job ≡ ticket.job
    by_either true run = run.run.job
    by_either false unrun = unrun.0.job

-- and it has its ticket's number
pub number_is : (programs : List Checked) (ticket : Ticket) (through : List SpawnRequest → Type 0) (silent : Type 0) (outcome : Outcome) (whole : Bool) →
    IsOutcome programs ticket through silent outcome whole → outcome.number ≡ ticket.number
number_is programs ticket through silent outcome whole h = by_either outcome.ran h
  where
    by_either : (b : Bool) → by_ran b (IsRunOf programs ticket through outcome whole) (IsUnrun ticket outcome × (whole ≡ false) × silent) → outcome.number ≡ ticket.number
    by_either true run = run.run.number
    by_either false unrun = unrun.0.number
