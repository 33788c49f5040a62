-- The basic blocks of a program, and its instructions as places.
use Rattle.std.specs.Prelude.{◌≡◌, ◌⊎◌, ℕ, ◌+◌, ◌-◌, ◌≤◌, ◌<◌, List, [], ◌∷◌, All, length, map, slice_get, slice_index, Option, Some, None, option_map, string_bytes}
use Rattle.insn_codec.specs.declared.insn.Placed.{Placed}
use Rattle.disassembler.specs.Line.{line_text}
use Rattle.machine_model.specs.Edges.{Always, Begins, Code, IsEdge}
use Rattle.machine_model.specs.Paths.{IsCost}
use Rattle.flow_graph.specs.Cycles.{IsJoint}
use Rattle.flow_graph.specs.Flow.{AreNext}
use Rattle.instruction_rules.specs.declared.state.AbsState.{AbsState}
use Rattle.verifier.specs.InStates.{InState, Reached, Subject, in_state}
use Rattle.explain.specs.declared.blocks.Block.{Block}
use Rattle.explain.specs.declared.explanation.InstructionPlace.{InstructionPlace}

-- the slots of the instructions, in their order
abbrev pub slots_in : List Placed → List ℕ
slots_in placed = map (λ one. one.slot) placed

-- the only edge from the one slot leads to the other, and no other edge leads there
pub record IsStraight (code : Code) (from to : ℕ) : Type 0 where
  pub edge : IsEdge code from Always to
  pub sole : (k : ℕ) → IsJoint code k to → k ≡ from

-- what is told of the registers where this arrives
abbrev pub IsToldOf : InState → Option AbsState → Type 0
IsToldOf a (Some state) = a ≡ Reached state
IsToldOf a None = (state : AbsState) → a ≡ Reached state → ⊥

-- Of the instructions from the first on each leads straight to the next, up to the end, where that
-- ceases. The cost and what is known are those ahead of the first, the edges those of the last.
pub record IsBlock (p : Subject) (slots : List ℕ) (block : Block) : Type 0 where
  pub some : block.first < block.end
  pub within : block.end ≤ length slots
  pub straight : (k : ℕ) → block.first ≤ k → k + 1 < block.end
      → IsStraight p.code (slice_index slots k) (slice_index slots (k + 1))
  pub ceases : (block.end ≡ length slots)
      ⊎ (IsStraight p.code (slice_index slots (block.end - 1)) (slice_index slots block.end) → ⊥)
  pub cost : IsCost p.code (slice_index slots block.first) block.cost
  pub known : IsToldOf (in_state p (slice_index slots block.first)) block.known
  pub next : AreNext p.code (slice_index slots (block.end - 1)) block.next

-- the blocks follow each other, from the one number to the other
abbrev pub IsTiled : List Block → ℕ → ℕ → Type 0
IsTiled [] from to = from ≡ to
IsTiled (block ∷ rest) from to = (block.first ≡ from) × IsTiled rest block.end to

-- each instruction is in exactly one of the blocks, which are as long as can be
pub record AreBlocks (p : Subject) (placed : List Placed) (blocks : List Block) : Type 0 where
  pub tiled : IsTiled blocks 0 (length placed)
  pub each : All (IsBlock p (slots_in placed)) blocks

-- the instruction of this number: its slot, its text, and the number of its line
pub record IsNumbered (placed : List Placed) (lines : List (ℕ × List ℕ)) (k : ℕ)
    (place : InstructionPlace) :
    Type 0 where
  pub one : Placed
  pub there : slice_get placed k ≡ Some one
  pub slot : place.slot ≡ one.slot
  pub text : string_bytes place.text ≡ line_text one.insn
  pub line : place.line ≡ option_map (λ line. line.0) (slice_get lines k)

-- the places of all instructions, in their order
pub record AreInstructionPlaces (placed : List Placed) (lines : List (ℕ × List ℕ))
    (places : List InstructionPlace) :
    Type 0 where
  pub long : length places ≡ length placed
  pub each : (k : ℕ) (place : InstructionPlace) → slice_get places k ≡ Some place
      → IsNumbered placed lines k place

-- Used by private contracts and proofs alone: an instruction of the code begins at each slot.
abbrev pub AreBegun : Code → List ℕ → Type 0
AreBegun code slots = (k : ℕ) → k < length slots → Begins code (slice_index slots k)
