use Rattle.std.proofs.Common.{refl}
use Rattle.telgovan_c.specs.Texts.{assembled, refused}
use Rattle.telgovan_c.proofs.texts.assemble_into.Goals as goal

pub returns-in-Ok-assemble : goal.returns-in-Ok-assemble
returns-in-Ok-assemble c =
    let cases = c.in-Ok.ensures.cases in
    let found = rw cases.0 at c.in-Ok-assemble.ensures.found in
    assembled c.in-Ok-assemble.bytes.items found.0 cases.1 found.1 (rw c.deref.ensures.value at c.write_into.ensures)

pub returns-in-Err-assemble : goal.returns-in-Err-assemble
returns-in-Err-assemble c =
    let cases = c.in-Ok.ensures.cases in
    let why = rw cases.0 at c.in-Err-assemble.ensures.refused in
    refused c.in-Err-assemble.fault cases.1 why refl (rw (c.from.ensures, c.code.ensures, c.line.ensures) at c.refused_text-in-Err-assemble.ensures)
