-- The run of a single program, step by step.
use Rattle.std.proofs.Common.{◌≡◌, ℕ, zero, suc, ◌<◌, ◌≤◌, ◌^◌, arith, length, refl, sym, subst, ap, ◌∙◌, List, Result, Some}
use Rattle.machine_model.specs.Value.{Registers}
use Rattle.machine_model.specs.Machine.{State, Effect, Continues, Ends, Spawns, Calls, Traps, answered, effect}
use Rattle.virtual_machine.proofs.Asking.{Asks, asks_effect}
use Rattle.machine_model.proofs.Splits.{Splits, splits_effect, Births, births_effect}
use Rattle.machine_model.specs.Alone.{MayAnswer, Follows, EndsWithin, EndsAlone, no_entries}
use Rattle.task_trees.specs.Solo.{entering}
use Rattle.machine_model.specs.JobState.{entry_registers}
use Rattle.helpers.specs.Piece.{Piece}
use Rattle.helpers.specs.Table.{arity_in}
use Rattle.helpers.specs.declared.spawner.SpawnRecord.{SpawnRecord}
use Rattle.verifier.specs.Checked.{Checked, IsVerified, program_of, cost_at}
use Rattle.interpreter.specs.declared.frame.Frame.{Frame}
use Rattle.interpreter.specs.declared.credit.Credit.{Credit}
use Rattle.interpreter.specs.declared.frame.StepOut.TheVariants.{Went, Ended}
use Rattle.interpreter.specs.Representation.{RepresentsTask, IsCovered, StepEffect, state_of, entry_frame}
use Rattle.interpreter.specs.Stretch.{ContinuesFor, spent_on}
use Rattle.interpreter.proofs.Enters.{behind_entry, covered_entry}

-- The frame represents a task, and leads from the start to wherever that task leads.
pub record IsUnderWay (p : Checked) (may : MayAnswer) (start : State) (frame : Frame) (part : Piece) (credit : Credit) : Type 0 where
  pub covered : IsCovered p frame part credit
  pub registers : Registers
  pub behind : RepresentsTask p frame registers
  pub leads : (r0 : ℕ) (last : State) → EndsAlone (program_of p) may (state_of frame part credit registers) r0 last →
      EndsAlone (program_of p) may start r0 last
  pub size : length part.bytes ≡ length start.part

-- the program runs to its end from a task whose effect is known
pub more : (p : Checked) (may : MayAnswer) (s next : State) (r0 : ℕ) (last : State) →
    ((n : ℕ) → EndsWithin (program_of p) may r0 last n next → Follows may (EndsWithin (program_of p) may r0 last n) r0 last (effect (program_of p) no_entries s)) →
    EndsAlone (program_of p) may next r0 last → EndsAlone (program_of p) may s r0 last
more p may s next r0 last follows ends = (suc ends.0, follows ends.0 ends.1)

-- what a step that went on leaves of a task: the next one, whose end is its own
pub record Onward (p : Checked) (may : MayAnswer) (s : State) (frame : Frame) (part : Piece) (credit : Credit) (silent : Type 0) : Type 0 where
  pub registers : Registers
  pub behind : RepresentsTask p frame registers
  pub leads : (r0 : ℕ) (last : State) → EndsAlone (program_of p) may (state_of frame part credit registers) r0 last →
      EndsAlone (program_of p) may s r0 last
  pub size : length part.bytes ≡ length s.part
  pub quiet : silent

-- what the spawner may answer where it is called is what the run asks for, and it stays as it is
abbrev pub AreAnswers : Checked → MayAnswer → (ℕ → List ℕ → ℕ → Type 0) → Type 0 → Type 0
AreAnswers p may asked quiet = (helper arity : ℕ) (arguments : List ℕ) (answer : ℕ) → (0 < helper → 5 < helper) →
    arity_in p.helpers helper ≡ Some arity → asked helper arguments answer → may helper arguments answer × quiet

module _ (p : Checked) (may : MayAnswer) (s : State) (frame : Frame) (part : Piece) (credit : Credit) (quiet : Type 0)
    (told : SpawnRecord → Result (Unit {0}) SpawnRecord → Type 0) (asked : ℕ → List ℕ → ℕ → Type 0) (are : AreAnswers p may asked quiet) where
  went : (e : Effect) → effect (program_of p) no_entries s ≡ e → Splits s.part e → Births no_entries s.held e → Asks (program_of p) s.part e →
      StepEffect p e Went frame part credit quiet told asked → Onward p may s frame part credit quiet
  went (Continues next) is splits births asks did = record {
    registers = next.registers;
    behind = did.0.1;
    leads = λ r0 last ends. more p may s next r0 last (λ n within. rw is within) (rw did.0.0 ends);
    size = sym (ap (λ (t : State). length t.part) did.0.0) ∙ splits;
    quiet = did.1;
  }
  went (Ends r0 last) is splits births asks did = absurd did
  went (Spawns birth taken refused) is splits births asks did = cc (births.1)
  went (Calls helper arguments caller) is splits births asks did =
      let answer = did.0 in
      let next : State = answered caller answer in
      let both = are helper asks.2 arguments answer asks.1 asks.3 did.2 in
      record {
        registers = next.registers;
        behind = did.1.1;
        leads = λ r0 last ends. more p may s next r0 last (λ n within. rw is (answer, both.0, within)) (rw did.1.0 ends);
        size = sym (ap (λ (t : State). length t.part) did.1.0) ∙ ap length asks.0;
        quiet = both.1;
      }
  went (Traps trap) is splits births asks did = absurd did

-- a task that starts is under way
pub enters : (p : Checked) (may : MayAnswer) (arg credit len : ℕ) (part : Piece) (frame : Frame) → arg < 2 ^ 64 → IsVerified p → p.need ≤ length part.bytes →
    len ≡ length part.bytes → length part.bytes ≤ 65536 → cost_at p 0 ≤ credit → credit ≤ 2147483647 → frame ≡ entry_frame len arg →
    IsUnderWay p may (entering arg credit part.bytes) frame part (record { held = credit; used = 0 })
enters p may arg credit len part frame fits v need size small cost limit is =
    let entered : frame ≡ entry_frame (length part.bytes) arg = is ∙ ap (λ n. entry_frame n arg) size in
    subst (λ f. IsUnderWay p may (entering arg credit part.bytes) f part (record { held = credit; used = 0 })) (sym entered) (record {
      covered = covered_entry p part credit arg v need small cost limit fits;
      registers = entry_registers (length part.bytes) arg;
      behind = behind_entry p (length part.bytes) arg v need small fits;
      leads = λ r0 last ends. ends;
      size = refl;
    })

module _ (p : Checked) (may : MayAnswer) (start : State) (f : Frame) (part : Piece) (credit : Credit) (way : IsUnderWay p may start f part credit)
    (f' : Frame) (part' : Piece) (credit' : Credit) (quiet : Type 0) (told : SpawnRecord → Result (Unit {0}) SpawnRecord → Type 0)
    (asked : ℕ → List ℕ → ℕ → Type 0) where
  -- the task ahead of the step
  abbrev before : State
  before = state_of f part credit way.registers

  -- a step that goes on
  pub goes_on : AreAnswers p may asked quiet → StepEffect p (effect (program_of p) no_entries before) Went f' part' credit' quiet told asked →
      IsCovered p f' part' credit' → IsUnderWay p may start f' part' credit' × quiet
  goes_on are did covered =
      let on = went p may before f' part' credit' quiet told asked are (effect (program_of p) no_entries before) refl
      (splits_effect (program_of p) no_entries before) (births_effect (program_of p) no_entries before)
      (asks_effect (program_of p) no_entries before) did in (
        record {
          covered = covered;
          registers = on.registers;
          behind = on.behind;
          leads = λ r0 last ends. way.leads r0 last (on.leads r0 last ends);
          size = on.size ∙ way.size;
        },
        on.quiet,
      )

  ended : (word : ℕ) (e : Effect) → effect (program_of p) no_entries before ≡ e → Splits part.bytes e →
      StepEffect p e (Ended word) f' part' credit' quiet told asked →
      (last : State) × EndsAlone (program_of p) may start word last × (part'.bytes ≡ last.part) × (length part'.bytes ≡ length start.part) × quiet
      × (credit'.used ≡ last.used)
  ended word (Continues next) is splits did = absurd did
  ended word (Ends r0 last) is splits did =
      let left : part'.bytes ≡ last.part = sym (ap (λ (t : State). t.part) did.1) in
      (last, way.leads word last (1, rw is (did.0, refl)), left, ap length (left ∙ splits) ∙ way.size, did.2, sym (ap (λ (t : State). t.used) did.1))
  ended word (Spawns birth taken refused) is splits did = absurd did
  ended word (Calls helper arguments caller) is splits did = absurd did
  ended word (Traps trap) is splits did = absurd did

  -- a step at which the task ends
  pub ends : (word : ℕ) → StepEffect p (effect (program_of p) no_entries before) (Ended word) f' part' credit' quiet told asked →
      (last : State) × EndsAlone (program_of p) may start word last × (part'.bytes ≡ last.part) × (length part'.bytes ≡ length start.part) × quiet
      × (credit'.used ≡ last.used)
  ends word did = ended word (effect (program_of p) no_entries before) refl (splits_effect (program_of p) no_entries before) did

-- a stretch of instructions that go on
pub goes_far : (p : Checked) (may : MayAnswer) (start : State) (f : Frame) (part : Piece) (credit : Credit) → IsUnderWay p may start f part credit →
    (n : ℕ) (mid : Frame) (mid_part : Piece) → ContinuesFor p credit n f part mid mid_part → IsUnderWay p may start mid mid_part (spent_on credit n)
goes_far p may start f part credit way zero mid mid_part goes =
    let none : credit ≡ spent_on credit zero = ap (λ u. let c : Credit = record { held = credit.held; used = u } in c) (omega arith) in
    rw (goes.0, goes.1) (subst (λ c. IsUnderWay p may start f part c) none way)
goes_far p may start f part credit way (suc n) mid mid_part goes =
    let before = goes_far p may start f part credit way n goes.0 goes.1 goes.2 in
    let next = goes.3.goes no_entries before.registers before.behind in
    (goes_on p may start goes.0 goes.1 (spent_on credit n) before mid mid_part (spent_on credit (suc n)) (Unit {0}) (λ child reply. ⊥)
    (λ helper arguments answer. ⊥) (λ helper arity arguments answer over is asked. absurd asked) (rw next.2 ((refl, next.1), tt)) goes.3.covered).0
