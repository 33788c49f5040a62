-- Credit is neither made nor lost by a step.
use Rattle.std.proofs.Common.{◌≡◌, ℕ, suc, ◌<◌, ◌≤◌, ◌+◌, length, refl, sym, ◌∙◌, arith, Bool, true, false, ap, slice_set, slice_get, List, [], ◌∷◌, ◌++◌, Option, Some, None, option_and_then, ◌==◌, nat_lt, if◌then◌else◌, sum_by, get_or}
use Rattle.std.proofs.lemmas.List.Sums.{sum_by-set, sum_by-append}
use Rattle.std.proofs.lemmas.Option.{slice_get_within, get_or_from_slice_get}
use Rattle.std.proofs.lemmas.Bool.Decides.{nat_tests}
use Rattle.machine_model.specs.declared.program.Entry.{Entry}
use Rattle.machine_model.specs.Spawn.{answer_of}
use Rattle.machine_model.specs.Machine.{State, Program, Entries, Effect, Continues, Ends, Spawns, Calls, Traps, spawned, paid, effect, cost_at}
use Rattle.machine_model.proofs.Effects.{if_holds, effect_holds}
use Rattle.machine_model.specs.JobState.{Task, Ending, goes_on, ending_of, with_state, child_of, Member, Live, Ended, JobState, Move, run, step, member_step, task_step, applied, credit_of, held_by, returned_by, spent_by, state_in, entries_of}

-- what a spawn that passes its tests leaves
pub record Leaves (share cut held used after len need : ℕ) : Type 0 where
  pub credit : share + used + after ≤ held
  pub bytes : cut + need ≤ len

pub unless : (b : Bool) (m n : ℕ) → 0 < m → (if b then m else n) ≡ 0 → (b ≡ false) × (n ≡ 0)
unless true m n over z = absurd (omega arith)
unless false m n over z = (refl, z)

pub leaves : (child : Option Entry) (share cut held used after len need : ℕ) →
    answer_of child share cut held used after len need ≡ 0 → Leaves share cut held used after len need
leaves None share cut held used after len need z = absurd (omega arith)
leaves (Some child) share cut held used after len need z =
    let two = unless (nat_lt share child.cost) 2 _ (omega arith) z in
    let three = unless (nat_lt held (share + used + after)) 3 _ (omega arith) two.1 in
    let four = unless (nat_lt cut child.need) 4 _ (omega arith) three.1 in
    let five = unless (nat_lt len (cut + need)) 5 0 (omega arith) four.1 in
    let a : nat_lt held (share + used + after) ≡ false = three.0 in
    let b : nat_lt len (cut + need) ≡ false = five.0 in
    record { credit = grind (arith, nat_tests); bytes = grind (arith, nat_tests) }

-- what the effect leaves of the credit, or hands on
abbrev pub Keeps : ℕ → Effect → Type 0
Keeps held (Continues s) = s.held ≡ held
Keeps held (Ends r0 s) = (s.used ≤ s.held) × (s.held ≡ held)
Keeps held (Spawns birth taken refused) = (taken.held + birth.share ≡ held) × (refused.held ≡ held)
Keeps held (Calls helper arguments caller) = Unit {0}
Keeps held (Traps trap) = Unit {0}

keeps_spawned : (s : State) (program share cut arg answer : ℕ) → (answer ≡ 0 → share ≤ s.held) →
    Keeps s.held (spawned s program share cut arg answer)
keeps_spawned s program share cut arg answer few =
    if_holds (Keeps s.held) (answer == 0) _ _
    (λ t. let z : answer ≡ 0 = grind (arith, nat_tests) in let le : share ≤ s.held = few z in (omega arith, refl))
    (λ _. refl)

pub keeps_effect : (p : Program) (entries : Entries) (s : State) → Keeps s.held (effect p entries s)
keeps_effect p entries s = effect_holds (Keeps s.held) p entries s (λ _. tt) (λ i amount there is_price le. record {
  traps = λ _. tt;
  goes = λ next fact leads left. left.held;
  ends = λ r0. (le, refl);
  spawns = λ program share cut arg on. keeps_spawned (paid s amount) program share cut arg _ (λ z.
      let l = leaves (entries program) share cut s.held (s.used + amount) (cost_at p (s.slot + 1)) (length s.part) p.need z in
      omega (arith, l.credit));
  calls = λ helper arity arguments on is other. tt;
})

-- the sum over the members, where one of them is replaced
pub replaced : (f : Member → ℕ) (ms : List Member) (n : ℕ) (old new : Member) → slice_get ms n ≡ Some old →
    sum_by f (slice_set ms n new) + f old ≡ sum_by f ms + f new
replaced f ms n old new at =
    let is : get_or ms n old ≡ old = get_or_from_slice_get ms n old old at in
    let e = sum_by-set f ms n new old (slice_get_within ms n old at) in
    omega (arith, e, ap f is)

-- all the credit of the members
abbrev weight : List Member → ℕ
weight ms = sum_by held_by ms + sum_by returned_by ms + sum_by spent_by ms

weight-set : (ms : List Member) (n : ℕ) (old new : Member) → slice_get ms n ≡ Some old →
    weight (slice_set ms n new) + (held_by old + returned_by old + spent_by old) ≡ weight ms + (held_by new + returned_by new + spent_by new)
weight-set ms n old new here =
    omega (arith, replaced held_by ms n old new here, replaced returned_by ms n old new here, replaced spent_by ms n old new here)

weight-push : (ms : List Member) (new : Member) → weight (ms ++ new ∷ []) ≡ weight ms + (held_by new + returned_by new + spent_by new)
weight-push ms new = omega (arith, sum_by-append held_by ms (new ∷ []), sum_by-append returned_by ms (new ∷ []), sum_by-append spent_by ms (new ∷ []))

-- an effect that keeps the task's credit keeps the job's
keeps_applied : (j : JobState) (n : ℕ) (t : Task) (refuses : Bool) (e : Effect) (k : JobState) → slice_get j.tasks n ≡ Some (Live t) →
    Keeps t.held e → applied j n t refuses e ≡ Some k → credit_of k ≡ credit_of j
keeps_applied j n t refuses (Continues s) k here keeps is =
    let e : goes_on j n t s ≡ k = cc in
    ap credit_of (sym e) ∙ omega (arith, weight-set j.tasks n (Live t) (Live (with_state t s)) here, keeps)
keeps_applied j n t refuses (Ends r0 s) k here keeps is =
    let ending : Ending = ending_of t s r0 in
    let made : JobState = record { buffer = j.buffer; tasks = slice_set j.tasks n (Ended ending) } in
    let e : made ≡ k = cc in
    ap credit_of (sym e) ∙ omega (arith, weight-set j.tasks n (Live t) (Ended ending) here, keeps.0, keeps.1)
keeps_applied j n t true (Spawns birth taken refused) k here keeps is =
    let e : goes_on j n t refused ≡ k = cc in
    ap credit_of (sym e) ∙ omega (arith, weight-set j.tasks n (Live t) (Live (with_state t refused)) here, keeps.1)
keeps_applied j n t false (Spawns birth taken refused) k here keeps is =
    let parent : Task = record (with_state t taken) { children = suc t.children } in
    let made : JobState = record { buffer = j.buffer; tasks = slice_set j.tasks n (Live parent) ++ Live (child_of t taken birth) ∷ [] } in
    let e : made ≡ k = cc in
    ap credit_of (sym e)
    ∙ omega (arith, weight-push (slice_set j.tasks n (Live parent)) (Live (child_of t taken birth)), weight-set j.tasks n (Live t) (Live parent) here, keeps.0)
keeps_applied j n t refuses (Calls helper arguments caller) k here keeps is = cc
keeps_applied j n t refuses (Traps trap) k here keeps is = cc

keeps_task : (programs : List Program) (j : JobState) (n : ℕ) (t : Task) (refuses : Bool) (o : Option Program) (k : JobState) →
    slice_get j.tasks n ≡ Some (Live t) → task_step programs j n t refuses o ≡ Some k → credit_of k ≡ credit_of j
keeps_task programs j n t refuses None k at is = cc
keeps_task programs j n t refuses (Some p) k at is =
    keeps_applied j n t refuses (effect p (entries_of programs) (state_in j.buffer t)) k at (keeps_effect p (entries_of programs) (state_in j.buffer t)) is

pub keeps_member : (programs : List Program) (j : JobState) (n : ℕ) (refuses : Bool) (o : Option Member) (k : JobState) →
    slice_get j.tasks n ≡ o → member_step programs j n refuses o ≡ Some k → credit_of k ≡ credit_of j
keeps_member programs j n refuses None k at is = let e : k ≡ j = cc in ap credit_of e
keeps_member programs j n refuses (Some (Ended e)) k at is = let e : k ≡ j = cc in ap credit_of e
keeps_member programs j n refuses (Some (Live t)) k at is = keeps_task programs j n t refuses (slice_get programs t.program) k at is

-- what a chain gives comes from a value in its middle
middle : (o : Option JobState) (f : JobState → Option JobState) (k : JobState) → option_and_then f o ≡ Some k → (mid : JobState) × (o ≡ Some mid) × (f mid ≡ Some k)
middle None f k is = cc
middle (Some mid) f k is = (mid, refl, is)

pub credit_of-run : (programs : List Program) (j k : JobState) (moves : List Move) → run programs j moves ≡ Some k → credit_of k ≡ credit_of j
credit_of-run programs j k [] is = let e : k ≡ j = cc in ap credit_of e
credit_of-run programs j k (m ∷ ms) is =
    let through = middle (step programs j m.number m.refuses) (λ mid. run programs mid ms) k is in
    credit_of-run programs through.0 k ms through.2
    ∙ keeps_member programs j m.number m.refuses (slice_get j.tasks m.number) through.0 refl through.1
