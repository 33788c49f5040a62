use Rattle.std.proofs.Common.{refl}
use Rattle.std.specs.Prelude.{string_bytes}
use Rattle.telgovan_c.specs.Explains.{allowed, refused}
use Rattle.telgovan_c.proofs.explains.explain_into.Goals as goal

pub returns-in-Ok : goal.returns-in-Ok
returns-in-Ok c =
    let told = rw (c.job.ensures, c.in-Ok-Some.field-0-is) at c.in-Ok-Some.ensures in
    refused _ c.source_in.ensures c.in-Ok-Some.why told (string_bytes c.in-Ok.text) c.in-Ok.ensures
    (rw c.as_bytes-text.ensures.value at c.place_into.ensures) (rw c.as_bytes-text.ensures.value at c.with_text.ensures)

pub returns-in-Ok-None : goal.returns-in-Ok-None
returns-in-Ok-None c =
    let found = rw (c.job.ensures, c.in-Ok-None.field-0-is) at c.in-Ok-None.ensures in
    allowed found.0 found.1 refl c.without_text-in-Ok-None.ensures
