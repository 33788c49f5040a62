-- All instructions of a program that aren't allowed.
use Rattle.std.specs.Prelude.{◌≡◌, ℕ, zero, suc, ◌≤◌, List, [], ◌∷◌, ◌++◌, length, map, All, Option, Some, None}
use Rattle.machine_model.specs.Edges.{insn_at}
use Rattle.machine_model.specs.Limits.{max_part}
use Rattle.helpers.specs.Table.{Table}
use Rattle.insn_codec.specs.declared.insn.Insn.{Insn}
use Rattle.insn_codec.specs.declared.insn.Placed.{Placed}
use Rattle.insn_codec.specs.Spelling.{IsProgram}
use Rattle.flow_graph.specs.Program.{code_of}
use Rattle.instruction_rules.specs.declared.rule.Rule.{Rule}
use Rattle.instruction_rules.specs.States.{fault}
use Rattle.verifier.specs.declared.refusals.Refusal.{Refusal}
use Rattle.verifier.specs.InStates.{Subject, InState, Reached, in_state}
use Rattle.verifier.specs.RefusalCodes.{refusal_at}
use Rattle.verifier.specs.Refusals.{HasFlow}
use Rattle.verifier.specs.Verdict.{IsFaulty}
use Rattle.explain.specs.declared.explanation.Explanation.{Explanation}
use Rattle.explain.specs.declared.explanation.RefusalContext.{RefusalContext}
use Rattle.explain.specs.Lines.{AreLinesFor, IsPlaceIn}
use Rattle.explain.specs.Told.{IsKnownIn, IsTold, ruled_slot}

-- the rule of the lowest number that an instruction breaks where this arrives, if it is a state
abbrev pub broken_by : Subject → Option Insn → InState → Option Rule
broken_by p (Some i) (Reached state) = fault p.need p.helpers i state
broken_by p o a = None

-- the rule that the instruction at the slot breaks there
abbrev pub broken_at : Subject → ℕ → Option Rule
broken_at p slot = broken_by p (insn_at p.code slot) (in_state p slot)

abbrev pub refusal_of : ℕ → Option Rule → List Refusal
refusal_of slot None = []
refusal_of slot (Some rule) = refusal_at slot rule ∷ []

-- a refusal for each slot below n whose instruction breaks a rule, in their order
abbrev pub refusals_below : Subject → ℕ → List Refusal
refusals_below p zero = []
refusals_below p (suc n) = refusals_below p n ++ refusal_of n (broken_at p n)

-- The instruction at some slot isn't allowed. Told are its refusal and its place, and a way there
-- with the state that arrives.
pub record IsFaultTold (p : Subject) (placed : List Placed) (lines : List (ℕ × List ℕ))
    (why : Explanation) : Type 0 where
  pub slot : ℕ
  pub rule : Rule
  pub faulty : IsFaulty p slot rule
  pub refusal : why.refusal ≡ refusal_at slot rule
  pub place : IsPlaceIn placed lines slot why.place
  pub known : (known : RefusalContext) × (why.known ≡ Some known) × IsKnownIn p slot known

-- told are exactly the slots whose instruction isn't allowed, from the lowest on
pub record AreFaultsTold (p : Subject) (placed : List Placed) (lines : List (ℕ × List ℕ))
    (list : List Explanation) : Type 0 where
  pub all : map (λ why. why.refusal) list ≡ refusals_below p (length p.code)
  pub each : All (IsFaultTold p placed lines) list

-- What is told of a program: where it has no graph the one refusal, and else each instruction that
-- isn't allowed.
pub data AreTold (need : ℕ) (code : List ℕ) (helpers : Table) (source : Option (List ℕ))
    (list : List Explanation) : Type 0 where
  no_graph : (why : Explanation) → IsTold need code helpers source why
      → ruled_slot why.refusal ≡ None → list ≡ why ∷ [] → AreTold need code helpers source list
  faults : need ≤ max_part → (placed : List Placed) → IsProgram placed code
      → HasFlow (code_of placed) → (lines : List (ℕ × List ℕ)) → AreLinesFor code source lines
      → AreFaultsTold (record { need = need; helpers = helpers; code = code_of placed }) placed
      lines list → AreTold need code helpers source list
