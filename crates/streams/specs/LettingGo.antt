-- What waits behind what may go out.
use Rattle.std.specs.Prelude.{List, ℕ, ◌++◌}
use Rattle.streams.specs.declared.fault.StreamFault.{StreamFault}
use Rattle.streams.specs.declared.fault.StreamFault.TheVariants.{ReadFailed, WriteFailed, NoMemory}

-- Within a piece that isn't answered to its end: these replies wait, and behind them the one that found
-- no memory; or some, where they couldn't be written. No read fails there.
abbrev pub LetsGoBut : {A : Type 0} → StreamFault → (A → List ℕ → Type 0) → A → List ℕ → Type 0
LetsGoBut ReadFailed lets_go s waits = ⊥
LetsGoBut WriteFailed lets_go s waits = (left : List ℕ) × lets_go s left
LetsGoBut NoMemory lets_go s waits = (lost : List ℕ) × lets_go s (waits ++ lost)
