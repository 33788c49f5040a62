-- A piece of a task's run, over what is kept of the task.
use Rattle.std.specs.Prelude.{◌≡◌, ℕ, List, Bool, true, false}
use Rattle.machine_model.specs.Machine.{State, Effect, Continues, Ends}
use Rattle.helpers.specs.Piece.{Piece}
use Rattle.verifier.specs.Checked.{Checked, program_of}
use Rattle.interpreter.specs.declared.frame.Frame.{Frame}
use Rattle.interpreter.specs.declared.frame.ControlPoint.{ControlPoint}
use Rattle.interpreter.specs.declared.frame.ControlPoint.TheVariants as onto
use Rattle.interpreter.specs.declared.credit.Credit.{Credit}
use Rattle.interpreter.specs.Representation.{IsCovered, RepresentsState, lent}
use Rattle.yielding.specs.declared.event.PieceEnd.{PieceEnd}
use Rattle.yielding.specs.declared.event.PieceEnd.TheVariants.{AtLimit, Asks, Ended}
use Rattle.yielding.specs.Leading.{IsAnswered, IsPieceRun}
use Rattle.yielding.specs.Standing.{IsAsking}

-- what one instruction leads to that asks nothing of the host
abbrev pub StepsTo : Checked → Effect → ControlPoint → Frame → List ℕ → Credit → Type 0
StepsTo p effect (onto.At slot) frame bytes credit =
    (next : State) × (effect ≡ Continues next) × RepresentsState p frame (lent bytes) credit next
StepsTo p effect (onto.Ended r0) frame bytes credit =
    (last : State) × (effect ≡ Ends r0 last) × (bytes ≡ last.part) × (credit.used ≡ last.used)

-- what a piece leaves of the task whose state this is
abbrev pub Leaves : Checked → Frame → List ℕ → Credit → PieceEnd → State → Type 0
Leaves p frame bytes credit AtLimit last = RepresentsState p frame (lent bytes) credit last
Leaves p frame bytes credit (Asks question) last =
    RepresentsState p frame (lent bytes) credit last
Leaves p frame bytes credit (Ended r0) last = (bytes ≡ last.part) × (credit.used ≡ last.used)

-- whatever state the frame stands for, the piece of `limit` instructions at most that begins there
abbrev pub RunsPiece : Checked → ℕ → Frame → List ℕ → Credit → PieceEnd → Frame → List ℕ → Credit
    → Type 0
RunsPiece p limit frame bytes credit event frame' bytes' credit' =
    (s : State) → RepresentsState p frame (lent bytes) credit s →
    (last : State) × IsPieceRun (program_of p) limit s event last
    × Leaves p frame' bytes' credit' event last

-- the same, where the call that waits, if one does, is answered first
abbrev pub GoesPiece : Checked → Bool → ℕ → ℕ → Frame → List ℕ → Credit → PieceEnd → Frame → List ℕ
    → Credit → Type 0
GoesPiece p waits answer limit frame bytes credit event frame' bytes' credit' =
    (s : State) → RepresentsState p frame (lent bytes) credit s →
    (first : State) × IsAnswered (program_of p) waits answer s first × (last : State)
    × IsPieceRun (program_of p) limit first event last × Leaves p frame' bytes' credit' event last

-- the task may go on as the event says
abbrev pub MayResume : Checked → Frame → Piece → Credit → PieceEnd → Type 0
MayResume p frame part credit AtLimit = IsCovered p frame part credit
MayResume p frame part credit (Asks question) = IsAsking p frame part credit
MayResume p frame part credit (Ended r0) = Unit {0}

-- ---- the least that a piece uses

abbrev pub one_if : Bool → ℕ
one_if true = 1
one_if false = 0

abbrev pub limit_of : ℕ → PieceEnd → ℕ
limit_of limit AtLimit = limit
limit_of limit (Asks question) = 0
limit_of limit (Ended r0) = 0
