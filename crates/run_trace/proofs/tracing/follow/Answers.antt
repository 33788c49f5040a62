use Rattle.std.proofs.Common.{◌≡◌, ◌<◌, ◌-◌, ◌∙◌, suc, length, map, inl, inr, ap, refl, subst, sym, arith}
use Rattle.std.proofs.lemmas.Result.{err_from_is_err_and}
use Rattle.machine_model.specs.Alone.{no_entries}
use Rattle.machine_model.specs.Machine.{State, Continues, Ends, effect}
use Rattle.explain.specs.Lines.{numbered_text}
use Rattle.reference.specs.Records.{GoesFar, birth_from, program_of, state_of, trap_of}
use Rattle.reference.proofs.AloneLemmas.{alone_effect}
use Rattle.reference.proofs.RunLemmas.{same_error}
use Rattle.run_trace.specs.Steps.{IsStep}
use Rattle.run_trace.proofs.Following.{begins_in, ending_on, far_here, far_on, fares_last, fares_on, lead_end, lead_on, never_calls, never_spawns, never_traps}
use Rattle.run_trace.proofs.tracing.follow.Goals as goal

pub returns-in_err-next-clause-far : goal.returns-in_err-next-clause-far
returns-in_err-next-clause-far c = λ is.
    let q = err_from_is_err_and c.from_residual-in_err-next.result c.from_residual-in_err-next.ensures.1 in
    let here = c.in_err-next.ensures.far (same_error _ _ _ _ q.1 q.2 is) in
    c.run.invariant.far 1 (far_here (program_of c.args.program.now) (state_of c.run.state) (elim here [
      | inl past ↦ inl past
      | inr goes ↦ inr (subst GoesFar (alone_effect (program_of c.args.program.now) (state_of c.run.state)) goes)
    ]))

pub step_between-requires-clause-begins : goal.step_between-requires-clause-begins
step_between-requires-clause-begins c =
    begins_in c.args.listing.now.placed.now (program_of c.args.program.now) (state_of c.run.state) (state_of c.in_ok-before.before) c.requires.reference c.run.invariant.ends
    c.in_ok-before.ensures

pub step_between-requires-clause-size : goal.step_between-requires-clause-size
step_between-requires-clause-size c =
    let goes : effect (program_of c.args.program.now) no_entries (state_of c.run.state) ≡ Continues (state_of c.in-Continues.next) =
    sym ((rw c.in-Continues.is at c.in_ok-next.ensures.value) ∙ alone_effect (program_of c.args.program.now) (state_of c.run.state)) in
    (fares_on (program_of c.args.program.now) (state_of c.run.state) (state_of c.in-Continues.next) goes).3
    ∙ sym (ap (λ (s : State). length s.part) c.in_ok-before.ensures)

pub step_between-requires-in-Ends-clause-begins : goal.step_between-requires-in-Ends-clause-begins
step_between-requires-in-Ends-clause-begins c =
    begins_in c.args.listing.now.placed.now (program_of c.args.program.now) (state_of c.run.state) (state_of c.in_ok-before.before) c.requires.reference c.run.invariant.ends
    c.in_ok-before.ensures

pub step_between-requires-in-Ends-clause-size : goal.step_between-requires-in-Ends-clause-size
step_between-requires-in-Ends-clause-size c =
    let ends : effect (program_of c.args.program.now) no_entries (state_of c.run.state) ≡ Ends c.in-Ends.r0 (state_of c.in-Ends.last) =
    sym ((rw c.in-Ends.is at c.in_ok-next.ensures.value) ∙ alone_effect (program_of c.args.program.now) (state_of c.run.state)) in
    fares_last (program_of c.args.program.now) (state_of c.run.state) (state_of c.in-Ends.last) c.in-Ends.r0 ends
    ∙ sym (ap (λ (s : State). length s.part) c.in_ok-before.ensures)

pub returns-in-Ends-clause-steps : goal.returns-in-Ends-clause-steps
returns-in-Ends-clause-steps c =
    let ends : effect (program_of c.args.program.now) no_entries (state_of c.run.state) ≡ Ends c.in-Ends.r0 (state_of c.in-Ends.last) =
    sym ((rw c.in-Ends.is at c.in_ok-next.ensures.value) ∙ alone_effect (program_of c.args.program.now) (state_of c.run.state)) in
    let one = subst (λ (s : State). IsStep c.args.listing.now.placed.now (map numbered_text c.args.listing.now.lines.now) s c.in_ok-step_between-in-Ends.field-0 (state_of c.in-Ends.last))
    c.in_ok-before.ensures c.in_ok-step_between-in-Ends.ensures in
    record {
      last = state_of c.in-Ends.last;
      steps = rw c.in_ok-push-in-Ends.ensures.items
          (lead_end (program_of c.args.program.now) c.args.listing.now.placed.now (map numbered_text c.args.listing.now.lines.now) (state_of c.args.start) (state_of c.run.state)
          (state_of c.in-Ends.last) c.run.steps.items c.in_ok-step_between-in-Ends.field-0 c.in-Ends.r0 c.run.invariant.leads ends one);
      used = refl;
      left = refl;
    }

pub unreachable-requires : goal.unreachable-requires
unreachable-requires c =
    never_spawns (program_of c.args.program.now) (state_of c.run.state) c.run.invariant.ends (birth_from c.in-Spawns.field-0) (state_of c.in-Spawns.field-1) (state_of c.in-Spawns.field-2)
    (sym ((rw c.in-Spawns.is at c.in_ok-next.ensures.value) ∙ alone_effect (program_of c.args.program.now) (state_of c.run.state)))

pub unreachable-requires-in-Calls : goal.unreachable-requires-in-Calls
unreachable-requires-in-Calls c =
    never_calls (program_of c.args.program.now) (state_of c.run.state) c.run.invariant.ends c.in-Calls.field-0 c.in-Calls.field-1 (state_of c.in-Calls.field-2)
    (sym ((rw c.in-Calls.is at c.in_ok-next.ensures.value) ∙ alone_effect (program_of c.args.program.now) (state_of c.run.state)))

pub unreachable-requires-in-Traps : goal.unreachable-requires-in-Traps
unreachable-requires-in-Traps c =
    never_traps (program_of c.args.program.now) (state_of c.run.state) c.run.invariant.ends (trap_of c.in-Traps.field-0)
    (sym ((rw c.in-Traps.is at c.in_ok-next.ensures.value) ∙ alone_effect (program_of c.args.program.now) (state_of c.run.state)))

pub run-smaller : goal.run-smaller
run-smaller c =
    let goes : effect (program_of c.args.program.now) no_entries (state_of c.run.state) ≡ Continues (state_of c.in-Continues.next) =
    sym ((rw c.in-Continues.is at c.in_ok-next.ensures.value) ∙ alone_effect (program_of c.args.program.now) (state_of c.run.state)) in
    let f = fares_on (program_of c.args.program.now) (state_of c.run.state) (state_of c.in-Continues.next) goes in
    let less : c.in-Continues.next.held - c.in-Continues.next.used < c.run.state.held - c.run.state.used = omega (arith, f.0, f.1, f.2) in
    less

pub run-preserved : goal.run-preserved
run-preserved c =
    let goes : effect (program_of c.args.program.now) no_entries (state_of c.run.state) ≡ Continues (state_of c.in-Continues.next) =
    sym ((rw c.in-Continues.is at c.in_ok-next.ensures.value) ∙ alone_effect (program_of c.args.program.now) (state_of c.run.state)) in
    let one = subst (λ (s : State). IsStep c.args.listing.now.placed.now (map numbered_text c.args.listing.now.lines.now) s c.in_ok-step_between-in-Continues.field-0
    (state_of c.in-Continues.next)) c.in_ok-before.ensures c.in_ok-step_between-in-Continues.ensures in
    rw c.in_ok-push-in-Continues.ensures.items (record {
      leads = lead_on (program_of c.args.program.now) c.args.listing.now.placed.now (map numbered_text c.args.listing.now.lines.now) (state_of c.args.start) (state_of c.run.state)
          (state_of c.in-Continues.next) c.run.steps.items c.in_ok-step_between-in-Continues.field-0 c.run.invariant.leads goes one;
      ends = ending_on (program_of c.args.program.now) (state_of c.run.state) c.run.invariant.ends (state_of c.in-Continues.next) goes;
      far = λ n far. c.run.invariant.far (suc n) (far_on (program_of c.args.program.now) (state_of c.run.state) (state_of c.in-Continues.next) n goes far);
    })
