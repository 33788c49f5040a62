-- Used by private contracts and proofs alone: what a stretch of instructions stopped at.
use Rattle.std.specs.Prelude.{◌≡◌, ℕ, ◌<◌, ◌≤◌, ◌⊎◌}
use Rattle.insn_codec.specs.declared.insn.Insn.TheVariants.{Call, Exit}
use Rattle.helpers.specs.Piece.{Piece}
use Rattle.verifier.specs.Checked.{Checked}
use Rattle.interpreter.specs.declared.frame.Frame.{Frame}
use Rattle.interpreter.specs.declared.credit.Credit.{Credit}
use Rattle.interpreter.specs.declared.stretch.Pause.{Pause}
use Rattle.interpreter.specs.declared.stretch.Pause.TheVariants as pause
use Rattle.interpreter.specs.Representation.{AtInsn}
use Rattle.yielding.specs.declared.stops.Stop.{Stop}
use Rattle.yielding.specs.declared.stops.Stop.TheVariants.{AtLimit, ByItself, Asks}

abbrev pub IsStopOf : Pause → Stop → Type 0
IsStopOf pause.AtLimit stop = stop ≡ AtLimit
IsStopOf pause.Exits stop = stop ≡ ByItself
IsStopOf (pause.Calls helper region) stop =
    ((helper < 64) × (stop ≡ ByItself)) ⊎ ((64 ≤ helper) × (stop ≡ Asks helper))

-- the instruction at the frame's slot ends the task, or calls a helper that isn't the host's
abbrev pub RunsByItself : Checked → Frame → Piece → Credit → Type 0
RunsByItself p frame part credit =
    AtInsn p frame part credit Exit
    ⊎ ((helper : ℕ) × (helper < 64) × AtInsn p frame part credit (Call helper))

-- why a stretch that may have so many instructions has no more than it has
abbrev pub Halts : Checked → Frame → Piece → Credit → ℕ → ℕ → Stop → Type 0
Halts p frame part credit ran limit AtLimit = ran ≡ limit
Halts p frame part credit ran limit ByItself = (ran < limit) × RunsByItself p frame part credit
Halts p frame part credit ran limit (Asks helper) =
    (ran < limit) × (64 ≤ helper) × AtInsn p frame part credit (Call helper)
