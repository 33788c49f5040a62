-- A step keeps the length of a part, and a spawn splits it.
use Rattle.std.proofs.Common.{◌≡◌, ℕ, ◌≤◌, ◌+◌, ◌-◌, length, refl, sym, ◌∙◌, arith, false, List, ◌++◌, Option, Some, None, ◌==◌, nat_lt, take-append-drop}
use Rattle.std.proofs.lemmas.List.{length-drop}
use Rattle.std.proofs.lemmas.Bool.Decides.{nat_tests}
use Rattle.machine_model.specs.declared.program.Entry.{Entry}
use Rattle.machine_model.specs.Bytes.{AllBytes}
use Rattle.machine_model.specs.Spawn.{answer_of}
use Rattle.machine_model.specs.Machine.{State, Program, Entries, Effect, Continues, Ends, Spawns, Calls, Traps, spawned, paid, effect}
use Rattle.machine_model.proofs.Effects.{if_holds, effect_holds}
use Rattle.machine_model.proofs.Keeps.{unless, leaves}

-- what the effect leaves of the part, or hands on
abbrev pub Splits : List ℕ → Effect → Type 0
Splits part (Continues s) = length s.part ≡ length part
Splits part (Ends r0 s) = s.part ≡ part
Splits part (Spawns birth taken refused) = (taken.part ++ birth.bytes ≡ part) × (refused.part ≡ part)
Splits part (Calls helper arguments caller) = Unit {0}
Splits part (Traps trap) = Unit {0}

splits_spawned : (s : State) (program share cut arg answer : ℕ) → Splits s.part (spawned s program share cut arg answer)
splits_spawned s program share cut arg answer =
    if_holds (Splits s.part) (answer == 0) _ _ (λ t. (take-append-drop (length s.part - cut) s.part, refl)) (λ _. refl)

pub splits_effect : (p : Program) (entries : Entries) (s : State) → Splits s.part (effect p entries s)
splits_effect p entries s = effect_holds (Splits s.part) p entries s (λ _. tt) (λ i amount there is_price le. record {
  traps = λ _. tt;
  goes = λ next fact leads left. left.size;
  ends = λ r0. refl;
  spawns = λ program share cut arg on. splits_spawned (paid s amount) program share cut arg _;
  calls = λ helper arity arguments on is other. tt;
})

-- what stands behind a spawn that passes its tests: a program whose cost and need the birth meets, and enough credit
abbrev pub Births : Entries → ℕ → Effect → Type 0
Births entries held (Continues s) = Unit {0}
Births entries held (Ends r0 s) = Unit {0}
Births entries held (Spawns birth taken refused) =
    (entry : Entry) × (entries birth.program ≡ Some entry) × (entry.cost ≤ birth.share) × (entry.need ≤ length birth.bytes) × (birth.share ≤ held)
Births entries held (Calls helper arguments caller) = Unit {0}
Births entries held (Traps trap) = Unit {0}

-- a spawn that passes its tests names a program, whose cost and need it meets
backed : (child : Option Entry) (share cut held used after len need : ℕ) → answer_of child share cut held used after len need ≡ 0 →
    (entry : Entry) × (child ≡ Some entry) × (entry.cost ≤ share) × (entry.need ≤ cut)
backed None share cut held used after len need z = absurd (omega arith)
backed (Some child) share cut held used after len need z =
    let two = unless (nat_lt share child.cost) 2 _ (omega arith) z in
    let three = unless (nat_lt held (share + used + after)) 3 _ (omega arith) two.1 in
    let four = unless (nat_lt cut child.need) 4 _ (omega arith) three.1 in
    let a : nat_lt share child.cost ≡ false = two.0 in
    let b : nat_lt cut child.need ≡ false = four.0 in
    (child, refl, grind (arith, nat_tests), grind (arith, nat_tests))

births_spawned : (entries : Entries) (s : State) (program share cut arg after need answer : ℕ) →
    answer ≡ answer_of (entries program) share cut s.held s.used after (length s.part) need →
    Births entries s.held (spawned s program share cut arg answer)
births_spawned entries s program share cut arg after need answer is =
    if_holds (Births entries s.held) (answer == 0) _ _
    (λ t. let z : answer ≡ 0 = grind (arith, nat_tests) in
    let b = backed (entries program) share cut s.held s.used after (length s.part) need (sym is ∙ z) in
    let l = leaves (entries program) share cut s.held s.used after (length s.part) need (sym is ∙ z) in
    let d = length-drop (length s.part - cut) s.part in
    (b.0, b.1, b.2, omega (arith, d, l.bytes, b.3), omega (arith, l.credit)))
    (λ _. tt)

pub births_effect : (p : Program) (entries : Entries) (s : State) → Births entries s.held (effect p entries s)
births_effect p entries s = effect_holds (Births entries s.held) p entries s (λ _. tt) (λ i amount there is_price le. record {
  traps = λ _. tt;
  goes = λ next fact leads left. tt;
  ends = λ r0. tt;
  spawns = λ program share cut arg on. births_spawned entries (paid s amount) program share cut arg _ p.need _ refl;
  calls = λ helper arity arguments on is other. tt;
})

-- a part of bytes stays one where the task goes on
abbrev pub KeepsBytes : List ℕ → Effect → Type 0
KeepsBytes part (Continues s) = AllBytes part → AllBytes s.part
KeepsBytes part (Ends r0 s) = Unit {0}
KeepsBytes part (Spawns birth taken refused) = Unit {0}
KeepsBytes part (Calls helper arguments caller) = Unit {0}
KeepsBytes part (Traps trap) = Unit {0}

bytes_spawned : (s : State) (program share cut arg answer : ℕ) → KeepsBytes s.part (spawned s program share cut arg answer)
bytes_spawned s program share cut arg answer = if_holds (KeepsBytes s.part) (answer == 0) _ _ (λ _. tt) (λ _ h. h)

pub bytes_effect : (p : Program) (entries : Entries) (s : State) → KeepsBytes s.part (effect p entries s)
bytes_effect p entries s = effect_holds (KeepsBytes s.part) p entries s (λ _. tt) (λ i amount there is_price le. record {
  traps = λ _. tt;
  goes = λ next fact leads left. left.bytes;
  ends = λ r0. tt;
  spawns = λ program share cut arg on. bytes_spawned (paid s amount) program share cut arg _;
  calls = λ helper arity arguments on is other. tt;
})
