use Rattle.std.proofs.Common.{◌≡◌, ◌-◌, ◌+◌, ℕ, suc, arith, refl, subst, sym}
use Rattle.reference.specs.declared.records.Running.{Running}
use Rattle.machine_model.specs.Alone.{MayAnswer, EndsWithin, alone}
use Rattle.machine_model.specs.Machine.{Program, State}
use Rattle.reference.specs.Records.{program_of, state_of}
use Rattle.reference.proofs.AloneLemmas.{Leads, leads_same, leads_goes, leads_calls, never_ends, ends_there, stays_at_trap, spawns_nothing, stays_at_last, far_there, far_call}
use Rattle.reference.proofs.RunLemmas.{same_error}
use Rattle.std.proofs.lemmas.Result.{err_from_is_err_and}
use Rattle.reference.proofs.alone.run_alone.Goals as goal
use Rattle.reference.proofs.alone.run_alone.Goals.{in-Continues, in-Calls+in_ok-state-in-Calls}

pub loop-init : goal.loop-init
loop-init g c = leads_same _ _ _ _ _ _ (omega arith) c.start_alone-state.ensures

pub returns-in-Ends-clause-ends : goal.returns-in-Ends-clause-ends
returns-in-Ends-clause-ends g c = λ r0 last e.
    let p : Program = program_of c.args.program.now in
    let may : MayAnswer = λ id arguments answer. goal.F-post g c.args.helper.now id arguments answer in
    let first : State = alone c.args.credit c.args.part.items in
    let s : State = state_of c.loop.state in
    let left : ℕ = c.args.steps - c.loop.counter in
    let less : ℕ = c.args.steps - (c.loop.counter + 1) in
    let one : left ≡ suc less = omega (arith, c.loop-test.true) in
    let there = ends_there p may c.args.steps first left less s one c.loop.invariant c.in-Ends.r0 (state_of c.in-Ends.last)
    (rw c.in-Ends.is at c.in_ok-next.ensures.value) in
    let same : (c.in-Ends.r0, c.in-Ends.last) ≡ (r0, last) = cc in
    subst (λ (x : ℕ × Running). EndsWithin p may x.0 (state_of x.1) c.args.steps first) {x = (c.in-Ends.r0, c.in-Ends.last)} {y = (r0, last)} same there

pub returns-in-Traps-clause-stays : goal.returns-in-Traps-clause-stays
returns-in-Traps-clause-stays g c = λ _.
    let p : Program = program_of c.args.program.now in
    let may : MayAnswer = λ id arguments answer. goal.F-post g c.args.helper.now id arguments answer in
    let first : State = alone c.args.credit c.args.part.items in
    let s : State = state_of c.loop.state in
    let left : ℕ = c.args.steps - c.loop.counter in
    let less : ℕ = c.args.steps - (c.loop.counter + 1) in
    let one : left ≡ suc less = omega (arith, c.loop-test.true) in
    stays_at_trap p may c.args.steps first left less s one c.loop.invariant _ (rw c.in-Traps.is at c.in_ok-next.ensures.value)

pub returns-in-Spawns-clause-stays : goal.returns-in-Spawns-clause-stays
returns-in-Spawns-clause-stays g c = λ _.
    let p : Program = program_of c.args.program.now in
    let may : MayAnswer = λ id arguments answer. goal.F-post g c.args.helper.now id arguments answer in
    let first : State = alone c.args.credit c.args.part.items in
    let s : State = state_of c.loop.state in
    let left : ℕ = c.args.steps - c.loop.counter in
    let less : ℕ = c.args.steps - (c.loop.counter + 1) in
    let one : left ≡ suc less = omega (arith, c.loop-test.true) in
    absurd (spawns_nothing p may c.args.steps first left less s one c.loop.invariant _ _ _ (rw c.in-Spawns.is at c.in_ok-next.ensures.value))

pub loop-preserved : goal.loop-preserved
loop-preserved g c =
    let p : Program = program_of c.args.program.now in
    let may : MayAnswer = λ id arguments answer. goal.F-post g c.args.helper.now id arguments answer in
    let first : State = alone c.args.credit c.args.part.items in
    let s : State = state_of c.loop.state in
    let left : ℕ = c.args.steps - c.loop.counter in
    let less : ℕ = c.args.steps - (c.loop.counter + 1) in
    let one : left ≡ suc less = omega (arith, c.loop-test.true) in
    elim c.match-branch-2.branch [
      | in-Continues w ↦
          subst (λ (t : Running). Leads p may c.args.steps first less (state_of t)) (sym w.state-is)
          (leads_goes p may c.args.steps first left less s one c.loop.invariant (state_of w.in-Continues.next)
          (rw w.in-Continues.is at c.in_ok-next.ensures.value))
      | in-Calls+in_ok-state-in-Calls w ↦
          let called = w.in_ok-state-in-Calls.ensures.next in
          subst (λ (t : Running). Leads p may c.args.steps first less (state_of t)) (sym w.state-is)
          (leads_calls p may c.args.steps first left less s one c.loop.invariant w.in-Calls.id w.in-Calls.arguments
          (state_of w.in-Calls.caller) (state_of w.in_ok-state-in-Calls.state) called.0
          (rw w.in-Calls.is at c.in_ok-next.ensures.value) called.1 called.2)
    ]

pub returns-clause-stays : goal.returns-clause-stays
returns-clause-stays g c = λ _.
    stays_at_last _ _ _ _ _ _ (omega (arith, c.loop-test.false)) c.loop.invariant

pub returns-in-Traps-clause-never : goal.returns-in-Traps-clause-never
returns-in-Traps-clause-never g c = λ none one.
    never_ends (program_of c.args.program.now) (λ id arguments answer. goal.F-post g c.args.helper.now id arguments answer) one c.args.steps
    (alone c.args.credit c.args.part.items) (returns-in-Traps-clause-stays g c none)

pub returns-in-Spawns-clause-never : goal.returns-in-Spawns-clause-never
returns-in-Spawns-clause-never g c = λ none one.
    never_ends (program_of c.args.program.now) (λ id arguments answer. goal.F-post g c.args.helper.now id arguments answer) one c.args.steps
    (alone c.args.credit c.args.part.items) (returns-in-Spawns-clause-stays g c none)

pub returns-clause-never : goal.returns-clause-never
returns-clause-never g c = λ none one.
    never_ends (program_of c.args.program.now) (λ id arguments answer. goal.F-post g c.args.helper.now id arguments answer) one c.args.steps
    (alone c.args.credit c.args.part.items) (returns-clause-stays g c none)

pub returns-in_err-next-clause-far : goal.returns-in_err-next-clause-far
returns-in_err-next-clause-far g c = λ is.
    let p : Program = program_of c.args.program.now in
    let may : MayAnswer = λ id arguments answer. goal.F-post g c.args.helper.now id arguments answer in
    let first : State = alone c.args.credit c.args.part.items in
    let s : State = state_of c.loop.state in
    let left : ℕ = c.args.steps - c.loop.counter in
    let less : ℕ = c.args.steps - (c.loop.counter + 1) in
    let one : left ≡ suc less = omega (arith, c.loop-test.true) in
    let q = err_from_is_err_and c.from_residual.result c.from_residual.ensures.1 in
    far_there p may c.args.steps first left less s one c.loop.invariant (c.in_err-next.ensures.far (same_error _ _ _ _ q.1 q.2 is))

pub returns-in_err-state-in-Calls-clause-far : goal.returns-in_err-state-in-Calls-clause-far
returns-in_err-state-in-Calls-clause-far g c = λ _.
    let p : Program = program_of c.args.program.now in
    let may : MayAnswer = λ id arguments answer. goal.F-post g c.args.helper.now id arguments answer in
    let first : State = alone c.args.credit c.args.part.items in
    let s : State = state_of c.loop.state in
    let left : ℕ = c.args.steps - c.loop.counter in
    let less : ℕ = c.args.steps - (c.loop.counter + 1) in
    let one : left ≡ suc less = omega (arith, c.loop-test.true) in
    far_call p may c.args.steps first left less s one c.loop.invariant c.in-Calls.id c.in-Calls.arguments (state_of c.in-Calls.caller)
    (rw c.in-Calls.is at c.in_ok-next.ensures.value) (c.in_err-state-in-Calls.ensures.large c.in_err-state-in-Calls.field-0.0 refl)
