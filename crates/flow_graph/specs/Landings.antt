-- What the faults of a program's edges mean.
use Rattle.std.specs.Prelude.{◌≡◌, ℕ, ℤ, ◌+◌, ◌≤◌, ◌<◌, length, Option, Some, None, IsSome}
use Rattle.insn_codec.specs.declared.insn.Insn.{Insn}
use Rattle.insn_codec.specs.declared.insn.Insn.TheVariants.{Jump, Jump32, JumpIf, Exit}
use Rattle.machine_model.specs.Edges.{Code, Fact, IsEdge, Begins, target}
use Rattle.flow_graph.specs.Program.{code_of_insn}

-- the instruction is a jump by this offset, with a condition or without
abbrev pub JumpsBy : Insn → ℤ → Type 0
JumpsBy (Jump offset) by = offset ≡ by
JumpsBy (Jump32 offset) by = offset ≡ by
JumpsBy (JumpIf w c dst src offset) by = offset ≡ by
JumpsBy i by = ⊥

-- the next instruction may follow: this is neither a jump without a condition nor an exit
abbrev pub FallsThrough : Insn → Type 0
FallsThrough (Jump offset) = ⊥
FallsThrough (Jump32 offset) = ⊥
FallsThrough Exit = ⊥
FallsThrough i = Unit {0}

-- a target lies below slot 0, or not under the number of slots
abbrev pub IsOut : Code → Option ℕ → Type 0
IsOut code None = Unit {0}
IsOut code (Some to) = length code ≤ to

-- a target is a slot of the code where no instruction begins
abbrev pub IsInto : Code → Option ℕ → Type 0
IsInto code to = (slot : ℕ) × (to ≡ Some slot) × (slot < length code) × (Begins code slot → ⊥)

-- 21
abbrev pub JumpsOut : Code → ℕ → Insn → Type 0
JumpsOut code slot i = (offset : ℤ) × JumpsBy i offset × IsOut code (target slot offset)

-- 22
abbrev pub JumpsInto : Code → ℕ → Insn → Type 0
JumpsInto code slot i = (offset : ℤ) × JumpsBy i offset × IsInto code (target slot offset)

-- 24: nothing stands after an instruction that falls through
abbrev pub IsLast : Code → ℕ → Insn → Type 0
IsLast code slot i = FallsThrough i × (length code ≤ slot + length (code_of_insn i))

-- its target, where it jumps, isn't below slot 0, and each of its edges leads to an instruction
pub record IsSettled (code : Code) (slot : ℕ) (i : Insn) : Type 0 where
  pub targets : (offset : ℤ) → JumpsBy i offset → IsSome (target slot offset)
  pub lands : (fact : Fact) (s : ℕ) → IsEdge code slot fact s → Begins code s
