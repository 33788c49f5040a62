use Rattle.std.proofs.Common.{List, ℕ, refl, subst}
use Rattle.job_core.specs.declared.admission.AdmitFault.TheVariants.{NoMemory}
use Rattle.job_core.specs.declared.admission.ProgramBytes.{ProgramBytes}
use Rattle.job_core.specs.Admission.{IsAdmittedFrom, RefusesJob}
use Rattle.telgovan_c.proofs.admitting.admit_programs.Goals as goal

pub returns-in_default : goal.returns-in_default
returns-in_default c = record {
  admitted = tt;
  refused = record { fault = NoMemory; refused = c.requires.limits; tells = c.refused_report.ensures };
}

-- the copy of the buffer has its bytes
pub returns-in-Ok-admit : goal.returns-in-Ok-admit
returns-in-Ok-admit c =
    let of_programs = subst (λ (programs : List ProgramBytes). IsAdmittedFrom programs c.args.credit c.in-Ok.own.items c.in-Ok-admit.job) c.deref.ensures.value c.in-Ok-admit.ensures.admitted in
    record {
      admitted = record {
        same = refl;
        admitted = subst (λ (bytes : List ℕ). IsAdmittedFrom c.args.programs.items c.args.credit bytes c.in-Ok-admit.job) c.in-Ok.ensures of_programs;
      };
      refused = tt;
    }

pub returns-in-Err : goal.returns-in-Err
returns-in-Err c =
    let of_programs = subst (λ (programs : List ProgramBytes). RefusesJob programs c.args.credit c.in-Ok.own.items c.in-Err.fault) c.deref.ensures.value c.in-Err.ensures.refused in
    record {
      admitted = tt;
      refused = record {
        fault = c.in-Err.fault;
        refused = subst (λ (bytes : List ℕ). RefusesJob c.args.programs.items c.args.credit bytes c.in-Err.fault) c.in-Ok.ensures of_programs;
        tells = c.refused_report-in-Err.ensures;
      };
    }
