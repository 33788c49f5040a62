-- An effect depends on what is known of the programs number by number.
use Rattle.std.proofs.Common.{◌≡◌, ℕ, ap}
use std.Path.{fun_ext}
use Rattle.machine_model.specs.Machine.{State, Program, Entries, effect}

pub effect_same : (p : Program) (f g : Entries) → ((n : ℕ) → f n ≡ g n) → (s : State) → effect p f s ≡ effect p g s
effect_same p f g same s = ap (λ e. effect p e s) (fun_ext same)
