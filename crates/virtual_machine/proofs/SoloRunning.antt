-- The run of one task by itself, step by step.
use Rattle.std.proofs.Common.{◌≡◌, ℕ, zero, suc, ◌+◌, arith, List, [], ◌∷◌, ◌++◌, length, inl, inr, refl, sym, ap, subst, Result, true, false}
use Rattle.machine_model.specs.Value.{Registers}
use Rattle.machine_model.specs.Machine.{State, Entries, Effect, Continues, Ends, Spawns, Calls, Traps, effect}
use Rattle.machine_model.proofs.OwnHelpers.{HasOwnHelpers, IsOwn, own_effect}
use Rattle.helpers.specs.Piece.{Piece}
use Rattle.helpers.specs.declared.spawner.SpawnRecord.{SpawnRecord}
use Rattle.verifier.specs.Checked.{Checked, program_of}
use Rattle.interpreter.specs.declared.frame.Frame.{Frame}
use Rattle.interpreter.specs.declared.credit.Credit.{Credit}
use Rattle.interpreter.specs.declared.frame.StepOut.TheVariants.{Went, Ended}
use Rattle.interpreter.specs.Representation.{RepresentsTask, StepEffect, state_of}
use Rattle.interpreter.specs.Stretch.{ContinuesFor, spent_on}
use Rattle.interpreter.specs.Telling.{Took, NotSpawned}
use Rattle.task_trees.specs.Solo.{SpawnRequest, Solo}
use Rattle.virtual_machine.specs.Through.{Replied, GoesThrough, RunsAlone, whole_after, none_refused}
use Rattle.std.specs.Prelude.{Bool, slice_index}
use Rattle.std.proofs.Common.{◌==◌, ◌∙◌}
use Rattle.machine_model.specs.Value.{Num, IsWordOf}
use Rattle.machine_model.specs.Machine.{Program, spawned, paid}
use Rattle.machine_model.proofs.Effects.{if_holds, effect_holds}
use Rattle.interpreter.specs.Refusals.{TellsRefusedSpawn}
use Rattle.task_trees.proofs.SoloParts.{LeadsFrom, leads_start, leads_goes, leads_taken, leads_refused, leads_end}

-- ---- what a spawn answers

-- R0 is 0 where it is taken, and 6 where it is refused
abbrev AnswersSpawn : Effect → Type 0
AnswersSpawn (Continues s) = Unit {0}
AnswersSpawn (Ends r0 s) = Unit {0}
AnswersSpawn (Spawns birth taken refused) = (taken.registers 0 ≡ Num 0) × (refused.registers 0 ≡ Num 6)
AnswersSpawn (Calls helper arguments caller) = Unit {0}
AnswersSpawn (Traps trap) = Unit {0}

answers_spawned : (s : State) (program share cut arg answer : ℕ) → AnswersSpawn (spawned s program share cut arg answer)
answers_spawned s program share cut arg answer = if_holds AnswersSpawn (answer == 0) _ _ (λ _. (refl, refl)) (λ _. tt)

answers_effect : (p : Program) (entries : Entries) (s : State) → AnswersSpawn (effect p entries s)
answers_effect p entries s = effect_holds AnswersSpawn p entries s (λ _. tt) (λ i amount there is_price le. record {
  traps = λ _. tt;
  goes = λ next fact leads left. tt;
  ends = λ r0. tt;
  spawns = λ program share cut arg on. answers_spawned (paid s amount) program share cut arg _;
  calls = λ helper arity arguments on is other. tt;
})

-- the first word of a frame, where R0 is a number
first_word : (c : Checked) (f : Frame) (registers : Registers) (n : ℕ) → RepresentsTask c f registers → registers 0 ≡ Num n → slice_index f.words 0 ≡ n
first_word c f registers n stands is = subst (λ v. IsWordOf (slice_index f.words 0) v) is (stands.words 0 (omega arith))

-- one spawn more
swap : (p q r : Bool) → whole_after p (whole_after q r) ≡ whole_after q (whole_after p r)
swap true true r = refl
swap true false r = refl
swap false true r = refl
swap false false r = refl

none_push : (asked : List SpawnRequest) (a : SpawnRequest) → none_refused (asked ++ a ∷ []) ≡ whole_after a.refused (none_refused asked)
none_push [] a = refl
none_push (b ∷ asked) a = ap (whole_after b.refused) (none_push asked a) ∙ swap b.refused a.refused (none_refused asked)

-- The frame represents a task, and leads from the start to wherever that task leads, while the spawner went through what was asked for.
pub record IsUnderWay (c : Checked) (entries : Entries) (start : State) (through : List SpawnRequest → Type 0)
    (frame : Frame) (part : Piece) (credit : Credit) (whole : Bool) : Type 0 where
  pub registers : Registers
  pub stands : RepresentsTask c frame registers
  pub asked : List SpawnRequest
  pub told : whole ≡ none_refused asked
  pub way : LeadsFrom (program_of c) entries start asked (state_of frame part credit registers)
  pub went : through asked

-- the same after a stretch, in which the spawner isn't called
pub stretch_on : (c : Checked) (entries : Entries) (start : State) (through : List SpawnRequest → Type 0) (whole : Bool) (credit : Credit) (n : ℕ)
    (frame mid : Frame) (part mid_part : Piece) → ContinuesFor c credit n frame part mid mid_part →
    IsUnderWay c entries start through frame part credit whole → IsUnderWay c entries start through mid mid_part (spent_on credit n) whole
stretch_on c entries start through whole credit zero frame mid part mid_part goes way =
    let paid : credit ≡ spent_on credit 0 = ap (λ (n : ℕ). let k : Credit = record { held = credit.held; used = n } in k) (omega arith) in
    subst (λ (k : Credit). IsUnderWay c entries start through mid mid_part k whole) paid
    (subst (λ (q : Piece). IsUnderWay c entries start through mid q credit whole) (sym goes.1)
    (subst (λ (f : Frame). IsUnderWay c entries start through f part credit whole) (sym goes.0) way))
stretch_on c entries start through whole credit (suc n) frame mid part mid_part goes way =
    let w = stretch_on c entries start through whole credit n frame goes.0 part goes.1 goes.2 way in
    let on = goes.3.goes entries w.registers w.stands in
    record {
      registers = on.0;
      stands = on.1;
      asked = w.asked;
      told = w.told;
      way = leads_goes (program_of c) entries start w.asked (state_of goes.0 goes.1 (spent_on credit n) w.registers) w.way
          (state_of mid mid_part (spent_on credit (suc n)) on.0) on.2;
      went = w.went;
    }

module _ {S : Type 0} (spawns : S → SpawnRecord → Result (Unit {0}) SpawnRecord → S → Type 0) (base : ℕ) where
  -- one more reply
  through_push : (old mid new : S) (asked : List SpawnRequest) (a : SpawnRequest) → GoesThrough spawns base old asked mid → Replied spawns base mid a new →
      GoesThrough spawns base old (asked ++ a ∷ []) new
  through_push old mid new [] a went reply = (new, subst (λ (s : S). Replied spawns base s a new) went reply, refl)
  through_push old mid new (b ∷ asked) a went reply = (went.0, went.1, through_push went.0 mid new asked a went.2 reply)

  module _ (c : Checked) (entries : Entries) (start : State) (old mid new : S)
      (f : Frame) (part : Piece) (credit : Credit)
      (whole flag : Bool)
      (way : IsUnderWay c entries start (λ asked. GoesThrough spawns base old asked mid) f part credit whole)
      (f' : Frame) (part' : Piece) (credit' : Credit) (same : part'.base ≡ base) (calls : ℕ → List ℕ → ℕ → Type 0) where
    -- the task ahead of the step
    abbrev before : State
    before = state_of f part credit way.registers

    abbrev IsOnWay : Type 0
    IsOnWay = IsUnderWay c entries start (λ asked. GoesThrough spawns base old asked new) f' part' credit' (whole_after flag whole)

    quiet : (asked : List SpawnRequest) → new ≡ mid → GoesThrough spawns base old asked mid → GoesThrough spawns base old asked new
    quiet asked silent went = subst (λ (s : S). GoesThrough spawns base old asked s) (sym silent) went

    went_on : (e : Effect) → effect (program_of c) entries before ≡ e → IsOwn e → AnswersSpawn e → TellsRefusedSpawn flag (slice_index f'.words 0) e →
        StepEffect c e Went f' part' credit' (new ≡ mid) (λ child reply. spawns mid child reply new) calls → IsOnWay
    went_on (Continues next) is own answers tells did = record {
      registers = next.registers;
      stands = did.0.1;
      asked = way.asked;
      told = ap (λ b. whole_after b whole) tells ∙ way.told;
      way = subst (LeadsFrom (program_of c) entries start way.asked) did.0.0
          (leads_goes (program_of c) entries start way.asked before way.way next is);
      went = quiet way.asked did.1 way.went;
    }
    went_on (Ends r0 last) is own answers tells did = absurd did
    went_on (Spawns birth taken refused) is own answers tells did = elim did [
      | inl done ↦
          let a : SpawnRequest = record { birth = birth; at = length taken.part; refused = false } in
          let zero_is = first_word c f' taken.registers 0 done.0.1 answers.0 in
          let told_no : flag ≡ false = tells ∙ ap (λ n. n == 6) zero_is in
          record {
            registers = taken.registers;
            stands = done.0.1;
            asked = way.asked ++ a ∷ [];
            told = ap (λ b. whole_after b whole) told_no ∙ way.told ∙ sym (none_push way.asked a);
            way = subst (LeadsFrom (program_of c) entries start (way.asked ++ a ∷ [])) done.0.0
                (leads_taken (program_of c) entries start way.asked before way.way birth taken refused is);
            went = through_push old mid new way.asked a way.went
                (subst (λ (b : ℕ). Took birth (b + length taken.part) (λ child reply. spawns mid child reply new)) same done.1);
          }
      | inr done ↦
          let a : SpawnRequest = record { birth = birth; at = length taken.part; refused = true } in
          let six_is = first_word c f' refused.registers 6 done.0.1 answers.1 in
          let told_so : flag ≡ true = tells ∙ ap (λ n. n == 6) six_is in
          record {
            registers = refused.registers;
            stands = done.0.1;
            asked = way.asked ++ a ∷ [];
            told = ap (λ b. whole_after b whole) told_so ∙ sym (none_push way.asked a);
            way = subst (LeadsFrom (program_of c) entries start (way.asked ++ a ∷ [])) done.0.0
                (leads_refused (program_of c) entries start way.asked before way.way birth taken refused is);
            went = through_push old mid new way.asked a way.went
                (subst (λ (b : ℕ). NotSpawned birth (b + length taken.part) (λ child reply. spawns mid child reply new) (new ≡ mid)) same done.1);
          }
    ]
    went_on (Calls helper arguments caller) is own answers tells did = absurd own
    went_on (Traps trap) is own answers tells did = absurd did

    -- a step that goes on
    pub goes_on : HasOwnHelpers (program_of c) → TellsRefusedSpawn flag (slice_index f'.words 0) (effect (program_of c) entries before) →
        StepEffect c (effect (program_of c) entries before) Went f' part' credit' (new ≡ mid) (λ child reply. spawns mid child reply new) calls → IsOnWay
    goes_on own tells did = went_on (effect (program_of c) entries before) refl (own_effect (program_of c) entries before own)
        (answers_effect (program_of c) entries before) tells did

    ended : (word r0 : ℕ) (e : Effect) → effect (program_of c) entries before ≡ e → TellsRefusedSpawn flag r0 e →
        StepEffect c e (Ended word) f' part' credit' (new ≡ mid) (λ child reply. spawns mid child reply new) calls →
        RunsAlone (program_of c) entries start (λ asked. GoesThrough spawns base old asked new) word credit'.used part'.bytes (whole_after flag whole)
    ended word r0 (Continues next) is tells did = absurd did
    ended word r0 (Ends word' last) is tells did = record {
      asked = way.asked;
      last = last;
      alone = subst (λ (n : ℕ). Solo (program_of c) entries start way.asked n last) (sym did.0)
          (leads_end (program_of c) entries start way.asked before way.way word' last is);
      told = ap (λ b. whole_after b whole) tells ∙ way.told;
      used_is = sym (ap (λ (s : State). s.used) did.1);
      bytes_are = sym (ap (λ (s : State). s.part) did.1);
      went = quiet way.asked did.2 way.went;
    }
    ended word r0 (Spawns birth taken refused) is tells did = absurd did
    ended word r0 (Calls helper arguments caller) is tells did = absurd did
    ended word r0 (Traps trap) is tells did = absurd did

    -- a step at which the task ends
    pub ends : (word r0 : ℕ) → TellsRefusedSpawn flag r0 (effect (program_of c) entries before) →
        StepEffect c (effect (program_of c) entries before) (Ended word) f' part' credit' (new ≡ mid) (λ child reply. spawns mid child reply new) calls →
        RunsAlone (program_of c) entries start (λ asked. GoesThrough spawns base old asked new) word credit'.used part'.bytes (whole_after flag whole)
    ends word r0 tells did = ended word r0 (effect (program_of c) entries before) refl tells did

-- a task that starts is under way
pub enters : (c : Checked) (entries : Entries) (through : List SpawnRequest → Type 0) (frame : Frame) (part : Piece) (credit : Credit)
    (registers : Registers) → RepresentsTask c frame registers → through [] →
    IsUnderWay c entries (state_of frame part credit registers) through frame part credit true
enters c entries through frame part credit registers stands went =
    record { registers = registers; stands = stands; asked = []; told = refl; way = leads_start (program_of c) entries (state_of frame part credit registers); went = went }
