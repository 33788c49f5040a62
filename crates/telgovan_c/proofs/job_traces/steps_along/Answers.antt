use Rattle.std.proofs.lemmas.Result.{IfOk-weaker}
use Rattle.run_trace.specs.Spelled.{listings_of, programs_of}
use Rattle.telgovan_c.proofs.JobTraceLemmas.{steps_told}
use Rattle.telgovan_c.proofs.ListingLemmas.{listed_of}
use Rattle.telgovan_c.proofs.job_traces.steps_along.Goals as goal

pub trace_job-requires : goal.trace_job-requires
trace_job-requires c = listed_of c.args.programs.now _ _ c.in_ok-listed.ensures

pub returns-clause-steps : goal.returns-clause-steps
returns-clause-steps c =
    let steps = rw (c.deref.ensures.value, c.in_ok-moves.ensures, c.in_ok-own.ensures) at c.trace_job.ensures.steps in
    IfOk-weaker c.trace_job.result _ _
    (λ told h. steps_told c.args.programs.now c.args.credit c.args.buffer.now c.args.schedule.now (listings_of c.in_ok-listed.listed) (programs_of c.in_ok-listed.listed) told c.in_ok-listed.ensures h) steps

pub returns-clause-far : goal.returns-clause-far
returns-clause-far c = λ is.
    let far = rw (c.deref.ensures.value, c.in_ok-moves.ensures, c.in_ok-own.ensures) at c.trace_job.ensures.far in
    record { listings = listings_of c.in_ok-listed.listed; programs = programs_of c.in_ok-listed.listed; spelled = c.in_ok-listed.ensures; far = far is }
