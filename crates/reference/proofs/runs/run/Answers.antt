use Rattle.std.proofs.lemmas.Result.{err_from_is_err_and}
use Rattle.std.proofs.Common.{◌≡◌, ◌∙◌, sym, take, map, false, get_or, slice_get, Some}
use Rattle.std.proofs.lemmas.Option.{slice_get-get_or}
use Rattle.reference.specs.declared.records.ReferenceMove.{ReferenceMove}
use Rattle.reference.specs.Records.{job_of, program_of, move_of}
use Rattle.reference.proofs.RunLemmas.{move_at, run_on, run_off, run_done, from_start, same_error}
use Rattle.reference.proofs.runs.run.Goals as goal

pub returns-then-not-branch-clause-value : goal.returns-then-not-branch-clause-value
returns-then-not-branch-clause-value c =
    let none : ReferenceMove = record { number = 0; refuses = false } in
    let m : ReferenceMove = get_or c.args.moves.now c.loop-entry.entry-index none in
    let here : slice_get c.args.moves.now c.loop-entry.entry-index ≡ Some m =
    slice_get-get_or c.args.moves.now c.loop-entry.entry-index none c.loop-entry-test.true in
    let off = rw c.if-not-branch.true at c.in_ok-step.ensures.value in
    run_off (map program_of c.args.programs.now) (job_of c.loop-entry.job) (job_of c.step.new.job) c.args.moves.now c.loop-entry.entry-index m here off
    ∙ c.loop-entry.invariant.rest
    ∙ from_start (map program_of c.args.programs.now) _ _ (map move_of c.args.moves.now) c.in_ok-job.ensures.value

pub loop-entry-preserved : goal.loop-entry-preserved
loop-entry-preserved c =
    let none : ReferenceMove = record { number = 0; refuses = false } in
    let m : ReferenceMove = get_or c.args.moves.now c.loop-entry.entry-index none in
    let here : slice_get c.args.moves.now c.loop-entry.entry-index ≡ Some m =
    slice_get-get_or c.args.moves.now c.loop-entry.entry-index none c.loop-entry-test.true in
    let went = rw c.if-not-branch.false at c.in_ok-step.ensures.value in
    record {
      rest =
          run_on (map program_of c.args.programs.now) (job_of c.loop-entry.job) (job_of c.step.new.job) c.args.moves.now c.loop-entry.entry-index m here went
          ∙ c.loop-entry.invariant.rest;
      done =
          run_done (map program_of c.args.programs.now) _ (job_of c.loop-entry.job) (job_of c.step.new.job) c.args.moves.now c.loop-entry.entry-index m here
          c.loop-entry.invariant.done went;
    }

pub returns-in_err-step-clause-far : goal.returns-in_err-step-clause-far
returns-in_err-step-clause-far c = λ is.
    let p = err_from_is_err_and c.from_residual-in_err-step.result c.from_residual-in_err-step.ensures.1 in
    let far = c.in_err-step.ensures.far (same_error _ _ _ _ p.1 p.2 is) in
    let none : ReferenceMove = record { number = 0; refuses = false } in
    let m : ReferenceMove = get_or c.args.moves.now c.loop-entry.entry-index none in
    record {
      count = c.loop-entry.entry-index;
      job = job_of c.loop-entry.job;
      runs = from_start (map program_of c.args.programs.now) _ _ (take c.loop-entry.entry-index (map move_of c.args.moves.now)) (sym c.in_ok-job.ensures.value)
          ∙ c.loop-entry.invariant.done;
      next = move_of m;
      there = move_at c.args.moves.now c.loop-entry.entry-index m
          (slice_get-get_or c.args.moves.now c.loop-entry.entry-index none c.loop-entry-test.true);
      step = far;
    }
