-- Lists of placed instructions, as a decoder gives them, and the code that they make.
use Rattle.std.specs.Prelude.{◌≡◌, ◌≤◌, ◌<◌, List, [], ◌∷◌, ◌++◌, length, map, Some, None}
use Rattle.insn_codec.specs.Limits.{max_slots}
use Rattle.insn_codec.specs.declared.insn.Insn.{Insn}
use Rattle.insn_codec.specs.declared.insn.Insn.TheVariants.{LoadWide}
use Rattle.insn_codec.specs.declared.insn.Placed.{Placed}
use Rattle.insn_codec.specs.Spelling.{placed_from}
use Rattle.machine_model.specs.Edges.{Code}

-- after a wide instruction's first slot is one where none begins
abbrev pub second_slot : Insn → Code
second_slot (LoadWide dst value) = None ∷ []
second_slot i = []

abbrev pub code_of_insn : Insn → Code
code_of_insn i = Some i ∷ second_slot i

-- the slots of the instructions, one after the other
abbrev pub code_of : List Placed → Code
code_of [] = []
code_of (p ∷ placed) = code_of_insn p.insn ++ code_of placed

-- one or more instructions in turn from slot 0 on, in at most 4096 slots
pub record IsDecoded (placed : List Placed) : Type 0 where
  pub any : 0 < length placed
  pub in_turn : placed ≡ placed_from 0 (map (λ p. p.insn) placed)
  pub few : length (code_of placed) ≤ max_slots
