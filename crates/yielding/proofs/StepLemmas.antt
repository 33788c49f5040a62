-- What the run of one instruction has come to.
use Rattle.std.proofs.Common.{◌≡◌, ℕ, ◌≤◌, List, Result, refl, sym, subst, ap, true}
use Rattle.insn_codec.specs.declared.insn.Insn.TheVariants.{Call}
use Rattle.machine_model.specs.Value.{Registers}
use Rattle.machine_model.specs.Machine.{State, Effect, Continues, Ends, Spawns, Calls, Traps, answered, effect}
use Rattle.machine_model.specs.Alone.{no_entries}
use Rattle.machine_model.proofs.OwnHelpers.{IsOwn}
use Rattle.machine_model.proofs.Splits.{Births, births_effect}
use Rattle.helpers.specs.Piece.{Piece}
use Rattle.helpers.specs.declared.spawner.SpawnRecord.{SpawnRecord}
use Rattle.verifier.specs.Checked.{Checked, program_of}
use Rattle.interpreter.specs.declared.frame.Frame.{Frame}
use Rattle.interpreter.specs.declared.frame.ControlPoint.{ControlPoint}
use Rattle.interpreter.specs.declared.frame.ControlPoint.TheVariants as onto
use Rattle.interpreter.specs.declared.frame.StepOut.TheVariants.{Went, Ended}
use Rattle.interpreter.specs.declared.credit.Credit.{Credit}
use Rattle.interpreter.specs.Representation.{AtInsn, RepresentsState, RepresentsTask, StepEffect, lent, out_of, state_of}
use Rattle.yielding.specs.Leading.{IsAnswered}
use Rattle.yielding.specs.Pieces.{StepsTo}
use Rattle.yielding.specs.Stops.{RunsByItself}
use Rattle.yielding.proofs.AskLemmas.{asks, has_arity}
use Rattle.yielding.proofs.OwnCalls.{own_stop}

module _ (p : Checked) (f : Frame) (part : Piece) (credit : Credit) (f' : Frame) (bytes' : List ℕ) (credit' : Credit) (silent : Type 0)
    (told : SpawnRecord → Result (Unit {0}) SpawnRecord → Type 0) where
  module _ (called : ℕ → List ℕ → ℕ → Type 0) where
    went_to : (slot : ℕ) (held : ℕ) (e : Effect) → IsOwn e → Births no_entries held e → StepEffect p e Went f' (lent bytes') credit' silent told called →
        StepsTo p e (onto.At slot) f' bytes' credit'
    went_to slot held (Continues next) own births did = (next, refl, did.0)
    went_to slot held (Ends r0 last) own births did = absurd did
    went_to slot held (Spawns birth taken refused) own births did = cc (births.1)
    went_to slot held (Calls helper arguments caller) own births did = absurd own
    went_to slot held (Traps trap) own births did = absurd did

    ended_with : (word : ℕ) (e : Effect) → StepEffect p e (Ended word) f' (lent bytes') credit' silent told called →
        StepsTo p e (onto.Ended word) f' bytes' credit'
    ended_with word (Continues next) did = absurd did
    ended_with word (Ends r0 last) did =
        (last, ap (λ (n : ℕ). Ends n last) (sym did.0), sym (ap (λ (s : State). s.part) did.1), sym (ap (λ (s : State). s.used) did.1))
    ended_with word (Spawns birth taken refused) did = absurd did
    ended_with word (Calls helper arguments caller) did = absurd did
    ended_with word (Traps trap) did = absurd did

    steps_by : (next : ControlPoint) (held : ℕ) (e : Effect) → IsOwn e → Births no_entries held e →
        StepEffect p e (out_of next) f' (lent bytes') credit' silent told called → StepsTo p e next f' bytes' credit'
    steps_by (onto.At slot) held e own births did = went_to slot held e own births did
    steps_by (onto.Ended word) held e own births did = ended_with word e did

    -- an instruction that the task runs by itself
    pub stepped : (next : ControlPoint) → RunsByItself p f part credit →
        ((registers : Registers) → RepresentsTask p f registers →
        StepEffect p (effect (program_of p) no_entries (state_of f part credit registers)) (out_of next) f' (lent bytes') credit' silent told called) →
        (s : State) → RepresentsState p f part credit s → StepsTo p (effect (program_of p) no_entries s) next f' bytes' credit'
    stepped next by_itself did s stands =
        let now : State = state_of f part credit s.registers in
        subst (λ (r : State). StepsTo p (effect (program_of p) no_entries r) next f' bytes' credit') (sym stands.0)
        (steps_by next now.held (effect (program_of p) no_entries now) (own_stop p f part credit by_itself s.registers)
        (births_effect (program_of p) no_entries now) (did s.registers stands.1))

  -- a call that the host has answered
  module _ (answer : ℕ) where
    -- whoever is called gives the answer
    abbrev gives : ℕ → List ℕ → ℕ → Type 0
    gives helper arguments word = word ≡ answer

    answered_by : (helper : ℕ) (arguments : List ℕ) (s caller : State) (e : Effect) → effect (program_of p) no_entries s ≡ Calls helper arguments caller →
        e ≡ Calls helper arguments caller → StepEffect p e Went f' (lent bytes') credit' silent told gives →
        (first : State) × IsAnswered (program_of p) true answer s first × RepresentsState p f' (lent bytes') credit' first
    answered_by helper arguments s caller e calls is did =
        let done : StepEffect p (Calls helper arguments caller) Went f' (lent bytes') credit' silent told gives =
        subst (λ (d : Effect). StepEffect p d Went f' (lent bytes') credit' silent told gives) is did in (
          answered caller answer,
          (helper, arguments, caller, calls, refl),
          subst (λ (word : ℕ). RepresentsState p f' (lent bytes') credit' (answered caller word)) done.2 done.1,
        )

    pub was_answered : (helper : ℕ) → 64 ≤ helper → AtInsn p f part credit (Call helper) →
        ((registers : Registers) → RepresentsTask p f registers →
        StepEffect p (effect (program_of p) no_entries (state_of f part credit registers)) Went f' (lent bytes') credit' silent told gives) →
        (s : State) → RepresentsState p f part credit s →
        (first : State) × IsAnswered (program_of p) true answer s first × RepresentsState p f' (lent bytes') credit' first
    was_answered helper far at did s stands =
        let now : State = state_of f part credit s.registers in
        let arity = has_arity p f part credit helper at in
        let is = asks p f part credit helper arity.0 at far arity.1 s.registers stands.1 in
        subst (λ (r : State). (first : State) × IsAnswered (program_of p) true answer r first × RepresentsState p f' (lent bytes') credit' first)
        (sym stands.0) (answered_by helper _ now _ (effect (program_of p) no_entries now) is is (did s.registers stands.1))

    -- a call doesn't end the task
    pub never_ends : (helper word : ℕ) → 64 ≤ helper → AtInsn p f part credit (Call helper) →
        ((registers : Registers) → RepresentsTask p f registers →
        StepEffect p (effect (program_of p) no_entries (state_of f part credit registers)) (Ended word) f' (lent bytes') credit' silent told gives) → ⊥
    never_ends helper word far at did =
        let behind = at.covered.some in
        let arity = has_arity p f part credit helper at in
        let is = asks p f part credit helper arity.0 at far arity.1 behind.0 behind.1 in
        subst (λ (e : Effect). StepEffect p e (Ended word) f' (lent bytes') credit' silent told gives) is (did behind.0 behind.1)
