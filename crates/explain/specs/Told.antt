-- What is told of a program: that it is accepted, or its one refusal and why.
use Rattle.std.specs.Prelude.{◌≡◌, ◌≢◌, ℕ, List, Option, Some, None}
use Rattle.helpers.specs.Table.{Table}
use Rattle.insn_codec.specs.declared.insn.Insn.{Insn}
use Rattle.insn_codec.specs.declared.insn.Placed.{Placed}
use Rattle.insn_codec.specs.Spelling.{IsProgram}
use Rattle.machine_model.specs.Edges.{insn_at}
use Rattle.flow_graph.specs.Program.{code_of}
use Rattle.verifier.specs.declared.refusals.Refusal.{Refusal}
use Rattle.verifier.specs.declared.refusals.Refusal.TheVariants.{NeedTooLarge, Codec, Flow, UnsetRead, OutOfStack, OutOfPart, BadKind, PointerRange, FramePointer, NoHelper, NoMemory}
use Rattle.verifier.specs.Checked.{Checked}
use Rattle.verifier.specs.InStates.{Subject, Reached, in_state}
use Rattle.verifier.specs.RefusalCodes.{slot_of_refusal}
use Rattle.verifier.specs.Refusals.{RefusesProgram, IsAccepted}
use Rattle.explain.specs.declared.explanation.Explanation.{Explanation}
use Rattle.explain.specs.declared.explanation.RefusalContext.{RefusalContext}
use Rattle.explain.specs.Needs.{IsEnoughOf}
use Rattle.explain.specs.Lines.{IsPlaceOf}
use Rattle.explain.specs.Ways.{IsWayTo}

abbrev pub IsAllowed : ℕ → List ℕ → Table → Type 0
IsAllowed need code helpers = (v : Checked) × IsAccepted need code helpers v

-- the slot of the instruction that isn't allowed, where the refusal is of one
abbrev pub ruled_slot : Refusal → Option ℕ
ruled_slot NeedTooLarge = None
ruled_slot (Codec fault) = None
ruled_slot (Flow fault) = None
ruled_slot (UnsetRead slot) = Some slot
ruled_slot (OutOfStack slot) = Some slot
ruled_slot (OutOfPart slot) = Some slot
ruled_slot (BadKind slot) = Some slot
ruled_slot (PointerRange slot) = Some slot
ruled_slot (FramePointer slot) = Some slot
ruled_slot (NoHelper slot) = Some slot
ruled_slot NoMemory = None

-- A way along the program's edges leads to the slot, and the state is the one that arrives there.
-- Where the instruction leaves the part there, it is told with which needs it doesn't.
pub record IsKnownIn (p : Subject) (slot : ℕ) (known : RefusalContext) : Type 0 where
  pub way : IsWayTo p.code slot known.way.items
  pub arrives : in_state p slot ≡ Reached known.state
  pub enough : (i : Insn) → insn_at p.code slot ≡ Some i
      → IsEnoughOf p.helpers i known.state p.need known.enough

-- the same of the program that the bytes spell
pub record IsKnownAt (need : ℕ) (code : List ℕ) (helpers : Table) (slot : ℕ)
    (known : RefusalContext) :
    Type 0 where
  pub placed : List Placed
  pub program : IsProgram placed code
  pub there : IsKnownIn (record { need = need; helpers = helpers; code = code_of placed }) slot
      known

-- what is known at the slot, if there is one
abbrev pub IsKnownOf : ℕ → List ℕ → Table → Option ℕ → Option RefusalContext → Type 0
IsKnownOf need code helpers None known = known ≡ None
IsKnownOf need code helpers (Some slot) known =
    (one : RefusalContext) × (known ≡ Some one) × IsKnownAt need code helpers slot one

-- The program is refused so, by the instruction at this place, where this is known.
pub record IsTold (need : ℕ) (code : List ℕ) (helpers : Table) (source : Option (List ℕ))
    (why : Explanation) : Type 0 where
  pub refused : RefusesProgram need code helpers why.refusal
  pub lasting : why.refusal ≢ NoMemory
  pub place : IsPlaceOf code source (slot_of_refusal why.refusal) why.place
  pub known : IsKnownOf need code helpers (ruled_slot why.refusal) why.known
