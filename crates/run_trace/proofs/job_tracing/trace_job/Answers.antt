use Rattle.std.proofs.Common.{◌≡◌, ◌∙◌, sym, take, map, false, get_or, slice_get, Some}
use Rattle.std.proofs.lemmas.Option.{slice_get-get_or}
use Rattle.std.proofs.lemmas.Result.{err_from_is_err_and}
use Rattle.reference.specs.declared.records.ReferenceMove.{ReferenceMove}
use Rattle.reference.specs.Records.{job_of, move_of}
use Rattle.reference.proofs.RunLemmas.{from_start, move_at, run_done, run_off, run_on, same_error}
use Rattle.run_trace.specs.Spelled.{listings_of, programs_of}
use Rattle.run_trace.proofs.JobLemmas.{told_next}
use Rattle.run_trace.proofs.job_tracing.trace_job.Goals as goal

pub returns-in_err-told-clause-far : goal.returns-in_err-told-clause-far
returns-in_err-told-clause-far c = λ is.
    let p = err_from_is_err_and c.from_residual-in_err-told.result c.from_residual-in_err-told.ensures.1 in
    let far = c.in_err-told.ensures.far (same_error _ _ _ _ p.1 p.2 is) in
    let none : ReferenceMove = record { number = 0; refuses = false } in
    let m : ReferenceMove = get_or c.args.moves.now c.loop-entry.entry-index none in
    record {
      count = c.loop-entry.entry-index;
      job = job_of c.loop-entry.job;
      runs = from_start (programs_of c.args.programs.now) _ _ (take c.loop-entry.entry-index (map move_of c.args.moves.now)) (sym c.in_ok-job.ensures.value)
          ∙ c.loop-entry.invariant.done;
      next = move_of m;
      there = move_at c.args.moves.now c.loop-entry.entry-index m
          (slice_get-get_or c.args.moves.now c.loop-entry.entry-index none c.loop-entry-test.true);
      step = far;
    }

pub returns-in_err-step-clause-far : goal.returns-in_err-step-clause-far
returns-in_err-step-clause-far c = λ is.
    let p = err_from_is_err_and c.from_residual-in_err-step.result c.from_residual-in_err-step.ensures.1 in
    let far = rw c.deref.ensures.value at (c.in_err-step.ensures.far (same_error _ _ _ _ p.1 p.2 is)) in
    let none : ReferenceMove = record { number = 0; refuses = false } in
    let m : ReferenceMove = get_or c.args.moves.now c.loop-entry.entry-index none in
    record {
      count = c.loop-entry.entry-index;
      job = job_of c.loop-entry.job;
      runs = from_start (programs_of c.args.programs.now) _ _ (take c.loop-entry.entry-index (map move_of c.args.moves.now)) (sym c.in_ok-job.ensures.value)
          ∙ c.loop-entry.invariant.done;
      next = move_of m;
      there = move_at c.args.moves.now c.loop-entry.entry-index m
          (slice_get-get_or c.args.moves.now c.loop-entry.entry-index none c.loop-entry-test.true);
      step = far;
    }

pub returns-then-not-branch-clause-steps : goal.returns-then-not-branch-clause-steps
returns-then-not-branch-clause-steps c =
    let none : ReferenceMove = record { number = 0; refuses = false } in
    let m : ReferenceMove = get_or c.args.moves.now c.loop-entry.entry-index none in
    let here : slice_get c.args.moves.now c.loop-entry.entry-index ≡ Some m =
    slice_get-get_or c.args.moves.now c.loop-entry.entry-index none c.loop-entry-test.true in
    let off = rw (c.if-not-branch.true, c.deref.ensures.value) at c.in_ok-step.ensures.value in
    sym (run_off (programs_of c.args.programs.now) (job_of c.loop-entry.job) (job_of c.step.new.job) c.args.moves.now c.loop-entry.entry-index m here off
    ∙ c.loop-entry.invariant.rest
    ∙ from_start (programs_of c.args.programs.now) _ _ (map move_of c.args.moves.now) c.in_ok-job.ensures.value)

pub loop-entry-preserved : goal.loop-entry-preserved
loop-entry-preserved c =
    let none : ReferenceMove = record { number = 0; refuses = false } in
    let m : ReferenceMove = get_or c.args.moves.now c.loop-entry.entry-index none in
    let here : slice_get c.args.moves.now c.loop-entry.entry-index ≡ Some m =
    slice_get-get_or c.args.moves.now c.loop-entry.entry-index none c.loop-entry-test.true in
    let went = rw (c.if-not-branch.false, c.deref.ensures.value) at c.in_ok-step.ensures.value in
    record {
      rest =
          run_on (programs_of c.args.programs.now) (job_of c.loop-entry.job) (job_of c.step.new.job) c.args.moves.now c.loop-entry.entry-index m here went
          ∙ c.loop-entry.invariant.rest;
      done =
          run_done (programs_of c.args.programs.now) _ (job_of c.loop-entry.job) (job_of c.step.new.job) c.args.moves.now c.loop-entry.entry-index m here
          c.loop-entry.invariant.done went;
      told = told_next (listings_of c.args.programs.now) (programs_of c.args.programs.now) c.args.moves.now c.loop-entry.entry-index m (job_of c.in_ok-job.job)
          (job_of c.loop-entry.job) (job_of c.step.new.job) c.loop-entry.steps.items c.in_ok-steps.steps.items c.in_ok-told.told here c.loop-entry.invariant.told
          (sym went) (c.in_ok-told.ensures.told (job_of c.step.new.job) (sym went)) c.in_ok-steps.ensures;
    }
