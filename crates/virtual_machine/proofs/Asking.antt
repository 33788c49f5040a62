-- Whom a program may call.
use Rattle.std.proofs.Common.{◌≡◌, ◌≢◌, ℕ, zero, suc, ◌-◌, ◌<◌, ◌==◌, nat_lt, refl, arith, Bool, true, false, List, Option, Some, None, slice_index_or, if◌then◌else◌}
use Rattle.machine_model.specs.Machine.{State, Program, Entries, Effect, Continues, Ends, Spawns, Calls, Traps, spawned, paid, effect}
use Rattle.machine_model.proofs.Effects.{if_holds, effect_holds}
use Rattle.helpers.specs.Table.{Table, own_arity, arity_in}
use Rattle.virtual_machine.specs.Functions.{HaveFunctions, function_of}

-- a call asks for a helper that is registered and isn't one of the machine's own, and leaves the part as it was
abbrev pub Asks : Program → List ℕ → Effect → Type 0
Asks p part (Continues s) = Unit {0}
Asks p part (Ends r0 s) = Unit {0}
Asks p part (Spawns birth taken refused) = Unit {0}
Asks p part (Calls helper arguments caller) =
    (caller.part ≡ part) × (0 < helper → 5 < helper) × (arity : ℕ) × (p.registered helper ≡ Some arity)
Asks p part (Traps trap) = Unit {0}

asks_spawned : (p : Program) (s : State) (program share cut arg answer : ℕ) → Asks p s.part (spawned s program share cut arg answer)
asks_spawned p s program share cut arg answer = if_holds (Asks p s.part) (answer == 0) _ _ (λ _. tt) (λ _. tt)

pub asks_effect : (p : Program) (entries : Entries) (s : State) → Asks p s.part (effect p entries s)
asks_effect p entries s = effect_holds (Asks p s.part) p entries s (λ _. tt) (λ i amount there is_price le. record {
  traps = λ _. tt;
  goes = λ next fact leads left. tt;
  ends = λ r0. tt;
  spawns = λ program share cut arg on. asks_spawned p (paid s amount) program share cut arg _;
  calls = λ helper arity arguments on is other. (refl, other, arity, is);
})

-- no other helper of the machine's own
own_none : (id arity : ℕ) → (0 < id → 5 < id) → own_arity id ≡ Some arity → ⊥
own_none zero arity over is = cc
own_none (suc zero) arity over is = absurd (omega (arith, over (omega arith)))
own_none (suc (suc zero)) arity over is = absurd (omega (arith, over (omega arith)))
own_none (suc (suc (suc zero))) arity over is = absurd (omega (arith, over (omega arith)))
own_none (suc (suc (suc (suc zero)))) arity over is = absurd (omega (arith, over (omega arith)))
own_none (suc (suc (suc (suc (suc zero))))) arity over is = absurd (omega (arith, over (omega arith)))
own_none (suc (suc (suc (suc (suc (suc id)))))) arity over is = cc

in_two : (table : Table) (helper arity : ℕ) (b : Bool) → (0 < helper → 5 < helper) →
    (if b then own_arity helper else slice_index_or table (helper - 64) None) ≡ Some arity →
    (b ≡ false) × (slice_index_or table (helper - 64) None ≡ Some arity)
in_two table helper arity true over is = absurd (own_none helper arity over is)
in_two table helper arity false over is = (refl, is)

there_is : {R : Type 0} (o : Option R) → o ≢ None → (f : R) × (o ≡ Some f)
there_is None not = absurd (not refl)
there_is (Some f) not = (f, refl)

-- where each helper has a function, the one that is called has one
pub has_function : {R : Type 0} (table : Table) (functions : List (Option R)) (helper arity : ℕ) → HaveFunctions table functions →
    (0 < helper → 5 < helper) → arity_in table helper ≡ Some arity → (f : R) × (function_of functions helper ≡ Some f)
has_function table functions helper arity have over is =
    let both = in_two table helper arity (nat_lt helper 64) over is in
    rw both.0 (there_is (slice_index_or functions (helper - 64) None) (have (helper - 64) arity both.1))
