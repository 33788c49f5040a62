use Rattle.std.proofs.Common.{◌∙◌, ap, refl}
use Rattle.telgovan_c.specs.JobTraces.{admitted, refused}
use Rattle.telgovan_c.specs.Texts.{refused_text}
use Rattle.telgovan_c.proofs.job_traces.trace_pieces.Goals as goal

pub returns-in-Ok : goal.returns-in-Ok
returns-in-Ok c =
    admitted c.in-Ok.found.programs.items c.in-Ok.found.job c.in-Ok.ensures.admitted (rw c.deref.ensures.value at c.trace_programs.ensures)

pub returns-in-Err : goal.returns-in-Err
returns-in-Err c =
    refused c.in-Err.told c.in-Err.ensures.refused refl (c.refused_text.ensures ∙ ap (refused_text c.in-Err.told.status) c.program_told.ensures)
