use Rattle.std.proofs.lemmas.Result.{IfOk-weaker}
use Rattle.bpfjobs_cli.specs.Shown.{no_job}
use Rattle.bpfjobs_cli.proofs.Spelling.{listed_of}
use Rattle.bpfjobs_cli.proofs.Telling.{told_steps}
use Rattle.bpfjobs_cli.proofs.views.steps_of.Goals as goal

pub returns-in_default : goal.returns-in_default
returns-in_default c = no_job (rw c.in_default.is at c.in_ok-job.ensures)

pub trace_job-requires : goal.trace_job-requires
trace_job-requires c =
    let job = rw c.in-Some.is at c.in_ok-job.ensures in
    listed_of job.object.programs.items _ _ job.spelled

pub returns : goal.returns
returns c =
    let job = rw c.in-Some.is at c.in_ok-job.ensures in
    let steps = rw (c.deref-2.ensures.value, c.in_ok-moves.ensures, c.deref.ensures.value) at c.trace_job.ensures.steps in
    IfOk-weaker c.trace_job.result _ _ (λ told h. told_steps c.args.input.now c.in-Some.job told job h) steps
