use Rattle.std.proofs.Common.{rules}
use Rattle.explain.proofs.SourceTexts.{source_found, source_refused}
use Rattle.explain.proofs.instruction_places.is_source_of.Goals as goal

pub returns-in-Ok : goal.returns-in-Ok
returns-in-Ok c =
    source_found c.args.source.now c.args.code.now c.in-Ok.bytes.items c.in-Ok.ensures.found.0 c.eq.result c.in-Ok.ensures.found.1
    (rw c.as_slice.ensures.value at c.eq.ensures)

pub returns-in-Err : goal.returns-in-Err
returns-in-Err c = source_refused c.args.source.now c.args.code.now _ c.in-Err.ensures.refused (search rules)
