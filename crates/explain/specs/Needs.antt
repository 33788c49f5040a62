-- The needs with which an access lies within the part, where the registers are so.
use Rattle.std.specs.Prelude.{◌≡◌, ◌↔◌, ◌≤◌, ◌<◌, ℕ, Option, Some, None}
use Rattle.machine_model.specs.Limits.{max_part}
use Rattle.helpers.specs.Table.{Table}
use Rattle.insn_codec.specs.declared.insn.Insn.{Insn}
use Rattle.instruction_rules.specs.declared.rule.Rule.TheVariants.{OutOfPart}
use Rattle.instruction_rules.specs.declared.state.AbsState.{AbsState}
use Rattle.instruction_rules.specs.States.{fault}
use Rattle.explain.specs.declared.needs.Enough.{Enough}
use Rattle.explain.specs.declared.needs.Enough.TheVariants.{From, Never}

-- the instruction may leave the part in a program of this need
abbrev pub LeavesPart : Table → Insn → AbsState → ℕ → Type 0
LeavesPart helpers i state need = fault need helpers i state ≡ Some OutOfPart

-- it leaves the part with exactly the needs below this one, or with each that a program may have
abbrev pub IsEnough : Table → Insn → AbsState → Enough → Type 0
IsEnough helpers i state (From least) =
    (least ≤ max_part) × ((need : ℕ) → LeavesPart helpers i state need ↔ (need < least))
IsEnough helpers i state Never = (need : ℕ) → need ≤ max_part → LeavesPart helpers i state need

-- what is told where the program has this need: nothing where the instruction doesn't leave the
-- part
abbrev pub IsEnoughOf : Table → Insn → AbsState → ℕ → Option Enough → Type 0
IsEnoughOf helpers i state need None = LeavesPart helpers i state need → ⊥
IsEnoughOf helpers i state need (Some enough) =
    LeavesPart helpers i state need × IsEnough helpers i state enough
