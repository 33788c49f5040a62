use Rattle.std.proofs.Common.{Err, ap, refl}
use Rattle.telgovan_c.specs.JobTraces.{goes, no_memory, too_far, traps}
use Rattle.telgovan_c.proofs.job_traces.trace_programs.Goals as goal

pub returns-in-Ok-Some : goal.returns-in-Ok-Some
returns-in-Ok-Some c =
    goes c.in-Ok-Some.steps.items (rw c.in-Ok-Some.field-0-is at c.in-Ok-Some.ensures.steps) (rw c.deref.ensures.value at c.write_job_steps.ensures)

pub returns-in-Ok-None : goal.returns-in-Ok-None
returns-in-Ok-None c = traps (rw c.in-Ok-None.field-0-is at c.in-Ok-None.ensures.steps) refl c.refused_text.ensures

pub returns-in-Err-NoMemory : goal.returns-in-Err-NoMemory
returns-in-Err-NoMemory c = no_memory refl c.refused_text-in-Err-NoMemory.ensures

pub returns-in-Err-TooLarge : goal.returns-in-Err-TooLarge
returns-in-Err-TooLarge c =
    too_far (c.in-Err-TooLarge.ensures.far (ap Err c.in-Err-TooLarge.field-0-is)) refl c.refused_text-in-Err-TooLarge.ensures
