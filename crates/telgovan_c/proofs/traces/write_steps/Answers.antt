use Rattle.std.proofs.Common.{option_map}
use Rattle.std.specs.Prelude.{string_bytes}
use Rattle.telgovan_c.specs.Traces.{written}
use Rattle.telgovan_c.proofs.traces.write_steps.Goals as goal

pub returns-in-Ok-lines_of : goal.returns-in-Ok-lines_of
returns-in-Ok-lines_of c =
    written (option_map (λ text. text.now) c.source_in.result) c.source_in.ensures c.in-Ok.trace c.in-Ok.ensures.steps (string_bytes c.in-Ok-lines_of.text)
    (rw c.deref.ensures.value at c.in-Ok-lines_of.ensures) (rw c.as_bytes.ensures.value at c.write_into.ensures)
