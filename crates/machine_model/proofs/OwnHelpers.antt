-- A program whose helpers are the machine's own never calls one of a caller's.
use Rattle.std.proofs.Common.{◌≡◌, ℕ, ◌<◌, ◌≤◌, ◌==◌, arith, Some}
use Rattle.machine_model.specs.Machine.{State, Program, Entries, Effect, Continues, Ends, Spawns, Calls, Traps, spawned, paid, effect}
use Rattle.machine_model.proofs.Effects.{if_holds, effect_holds}

-- nobody but the machine is called
abbrev pub IsOwn : Effect → Type 0
IsOwn (Continues s) = Unit {0}
IsOwn (Ends r0 s) = Unit {0}
IsOwn (Spawns birth taken refused) = Unit {0}
IsOwn (Calls helper arguments caller) = ⊥
IsOwn (Traps trap) = Unit {0}

-- each helper that is registered is one of the machine's own, of ids 1 to 5
abbrev pub HasOwnHelpers : Program → Type 0
HasOwnHelpers p = (id arity : ℕ) → p.registered id ≡ Some arity → (0 < id) × (id ≤ 5)

own_spawned : (s : State) (program share cut arg answer : ℕ) → IsOwn (spawned s program share cut arg answer)
own_spawned s program share cut arg answer = if_holds IsOwn (answer == 0) _ _ (λ _. tt) (λ _. tt)

pub own_effect : (p : Program) (entries : Entries) (s : State) → HasOwnHelpers p → IsOwn (effect p entries s)
own_effect p entries s own = effect_holds IsOwn p entries s (λ _. tt) (λ i amount there is_price le. record {
  traps = λ _. tt;
  goes = λ next fact leads left. tt;
  ends = λ r0. tt;
  spawns = λ program share cut arg on. own_spawned (paid s amount) program share cut arg _;
  calls = λ helper arity arguments on is other.
      let both = own helper arity is in let over : 5 < helper = other both.0 in absurd (omega (arith, both.1, over));
})
