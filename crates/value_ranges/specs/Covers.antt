-- Which values an abstract value stands for.
use Rattle.std.specs.Prelude.{◌≡◌, ◌<◌, ◌^◌, ◌⊎◌, Some}
use Rattle.value_ranges.specs.Numbers.{Among}
use Rattle.value_ranges.specs.Span.{Between}
use Rattle.machine_model.specs.Value.{Value}
use Rattle.machine_model.specs.Value as value
use Rattle.machine_model.specs.Outcomes.{outcome_of}
use Rattle.insn_codec.specs.declared.insn.Insn.{Insn}
use Rattle.value_ranges.specs.declared.abs.Abs.{Abs}
use Rattle.value_ranges.specs.declared.abs.Abs.TheVariants.{Unset, Num, Stack, Part}

-- v is among the values that a stands for; a number has 64 bits, and lies in both ranges
abbrev pub Covers : Abs → Value → Type 0
Covers Unset v = Unit {0}
Covers (Num n) (value.Num x) = Among n x × (x < 2 ^ 64)
Covers (Stack p) (value.Stack k) = Between p k
Covers (Part p) (value.Part k) = Between p k
Covers _ _ = ⊥

-- on covered values the instruction has a result, and r covers it
abbrev pub CoversOutcomes : Insn → Abs → Abs → Abs → Type 0
CoversOutcomes i a b r =
    (x y : Value) → Covers a x → Covers b y → (z : Value) × (outcome_of i x y ≡ Some z) × Covers r z

-- what one of the two covers, r covers
abbrev pub CoversBoth : Abs → Abs → Abs → Type 0
CoversBoth a b r = (v : Value) → Covers a v ⊎ Covers b v → Covers r v
