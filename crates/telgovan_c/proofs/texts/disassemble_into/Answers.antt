use Rattle.std.proofs.Common.{refl}
use Rattle.std.specs.Prelude.{string_bytes}
use Rattle.telgovan_c.specs.Texts.{listed, refused}
use Rattle.telgovan_c.proofs.texts.disassemble_into.Goals as goal

pub returns-in-Ok : goal.returns-in-Ok
returns-in-Ok c =
    let found = c.in-Ok.ensures.found in
    listed (string_bytes c.in-Ok.lines) found.0 found.1 (rw c.as_bytes.ensures.value at c.write_into.ensures)

pub returns-in-Err : goal.returns-in-Err
returns-in-Err c =
    refused c.in-Err.fault c.in-Err.ensures.refused refl (rw (c.from.ensures, c.code.ensures, c.place_of.ensures, c.slot.ensures) at c.refused_text.ensures)
