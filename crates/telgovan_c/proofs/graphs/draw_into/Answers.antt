use Rattle.std.proofs.Common.{option_map, refl}
use Rattle.std.specs.Prelude.{string_bytes}
use Rattle.telgovan_c.specs.Graphs.{drawn, refused}
use Rattle.telgovan_c.proofs.graphs.draw_into.Goals as goal

pub returns-in-Ok-drawing_of : goal.returns-in-Ok-drawing_of
returns-in-Ok-drawing_of c =
    drawn (option_map (λ text. text.now) c.source_in.result) c.source_in.ensures c.in-Ok.picture (rw c.job.ensures at c.in-Ok.ensures) (string_bytes c.in-Ok-drawing_of.text)
    (rw c.as_bytes.ensures.value at c.write_drawing.ensures)

pub returns : goal.returns
returns c =
    let why = rw c.job.ensures at c.in-Err.ensures in
    refused c.in-Err.refusal why.0 why.1 refl (rw (c.from.ensures, c.code.ensures, c.place_of.ensures, c.slot.ensures) at c.refused_text-in-Err.ensures)
