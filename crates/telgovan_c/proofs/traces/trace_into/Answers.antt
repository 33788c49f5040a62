use Rattle.std.proofs.Common.{refl}
use Rattle.telgovan_c.specs.Traces.{accepted, refused}
use Rattle.telgovan_c.proofs.traces.trace_into.Goals as goal

pub returns-in-Ok : goal.returns-in-Ok
returns-in-Ok c = accepted c.in-Ok.program (rw c.job.ensures at c.in-Ok.ensures) c.trace_program.ensures

pub returns : goal.returns
returns c =
    refused c.in-Err.refusal (rw c.job.ensures at c.in-Err.ensures) refl (rw (c.from.ensures, c.code.ensures, c.place_of.ensures, c.slot.ensures) at c.refused_text.ensures)
