use Rattle.std.proofs.Common.{ap, ◌∙◌, length, List, ℕ, refl, subst}
use Rattle.job_core.specs.declared.admission.AdmitFault.TheVariants.{NoMemory}
use Rattle.job_core.specs.Admission.{IsAdmittedFrom, RefusesJob}
use Rattle.telgovan_c.specs.Jobs.{played, refused}
use Rattle.telgovan_c.proofs.JobLemmas.{buffer_stays}
use Rattle.telgovan_c.proofs.jobs.play_programs.Goals as goal

pub returns-in_default : goal.returns-in_default
returns-in_default c = refused NoMemory c.requires.limits refl refl c.refused_report.ensures

-- what is left of the buffer is as long as it was
pub write_report-requires : goal.write_report-requires
write_report-requires c = record {
  same = buffer_stays c.in-Ok-admit.job c.in-Ok-play_lowest.report c.in-Ok-play_lowest.ensures
      ∙ ap length (c.in-Ok-admit.ensures.admitted.same_buffer ∙ c.in-Ok.ensures);
}

pub returns-in-Ok-play_lowest : goal.returns-in-Ok-play_lowest
returns-in-Ok-play_lowest c =
    let admitted = subst (λ (bytes : List ℕ). IsAdmittedFrom c.args.programs.now c.args.credit bytes c.in-Ok-admit.job) c.in-Ok.ensures c.in-Ok-admit.ensures.admitted in
    played c.in-Ok-admit.job admitted c.in-Ok-play_lowest.report c.in-Ok-play_lowest.ensures c.write_report.ensures.buffer c.write_report.ensures.tasks
    c.write_report.ensures.report

pub returns-in-Err-play_lowest : goal.returns-in-Err-play_lowest
returns-in-Err-play_lowest c = refused NoMemory c.requires.limits refl refl c.refused_report-in-Err-play_lowest.ensures

pub returns-in-Err : goal.returns-in-Err
returns-in-Err c =
    let why = subst (λ (bytes : List ℕ). RefusesJob c.args.programs.now c.args.credit bytes c.in-Err.fault) c.in-Ok.ensures c.in-Err.ensures.refused in
    refused c.in-Err.fault why refl refl c.refused_report-in-Err.ensures
