-- Which programs are allowed.
use Rattle.std.specs.Prelude.{◌≡◌, ℕ, ◌<◌, List, length, slice_index_or, Option, Some, None}
use Rattle.insn_codec.specs.declared.insn.Insn.{Insn}
use Rattle.machine_model.specs.Edges.{insn_at}
use Rattle.instruction_rules.specs.declared.state.AbsState.{AbsState}
use Rattle.instruction_rules.specs.declared.rule.Rule.{Rule}
use Rattle.instruction_rules.specs.declared.rule.Rule.TheVariants as rule
use Rattle.instruction_rules.specs.States.{fault}
use Rattle.verifier.specs.declared.refusals.Refusal.{Refusal}
use Rattle.verifier.specs.declared.refusals.Refusal.TheVariants.{UnsetRead, OutOfStack, OutOfPart, BadKind, PointerRange, FramePointer, NoHelper, NoMemory}
use Rattle.verifier.specs.InStates.{Subject, InState, Unreached, Reached, in_state}

-- where a state arrives at the slot, its instruction is allowed
abbrev pub IsAllowedAt : Subject → ℕ → Type 0
IsAllowedAt p slot = (i : Insn) (state : AbsState) → insn_at p.code slot ≡ Some i
    → in_state p slot ≡ Reached state →
    fault p.need p.helpers i state ≡ None

-- a state arrives at the slot, and this is the rule of the lowest number that its instruction
-- breaks there
pub record IsFaulty (p : Subject) (slot : ℕ) (rule : Rule) : Type 0 where
  pub insn : Insn
  pub state : AbsState
  pub there : insn_at p.code slot ≡ Some insn
  pub arrives : in_state p slot ≡ Reached state
  pub applies : fault p.need p.helpers insn state ≡ Some rule

-- it is the lowest slot of those
pub record IsFirstFaulty (p : Subject) (slot : ℕ) (rule : Rule) : Type 0 where
  pub faulty : IsFaulty p slot rule
  pub least : (s : ℕ) → s < slot → IsAllowedAt p s

abbrev pub in_state_of : Option AbsState → InState
in_state_of None = Unreached
in_state_of (Some state) = Reached state

-- the table has what arrives at each slot, and each instruction is allowed there
pub record IsTable (p : Subject) (states : List (Option AbsState)) : Type 0 where
  pub slots : length states ≡ length p.code
  pub each : (s : ℕ) → s < length p.code → in_state_of (slice_index_or states s None) ≡ in_state p s
  pub allowed : (s : ℕ) → IsAllowedAt p s

-- the refusal tells the first instruction that isn't allowed
abbrev pub RefusesStates : Subject → Refusal → Type 0
RefusesStates p (UnsetRead slot) = IsFirstFaulty p slot rule.UnsetRead
RefusesStates p (OutOfStack slot) = IsFirstFaulty p slot rule.OutOfStack
RefusesStates p (OutOfPart slot) = IsFirstFaulty p slot rule.OutOfPart
RefusesStates p (BadKind slot) = IsFirstFaulty p slot rule.BadKind
RefusesStates p (PointerRange slot) = IsFirstFaulty p slot rule.PointerRange
RefusesStates p (FramePointer slot) = IsFirstFaulty p slot rule.FramePointer
RefusesStates p (NoHelper slot) = IsFirstFaulty p slot rule.NoHelper
RefusesStates p NoMemory = Unit {0}
RefusesStates p refusal = ⊥
