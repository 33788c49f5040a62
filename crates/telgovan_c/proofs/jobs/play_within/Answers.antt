use Rattle.std.proofs.Common.{◌≡◌, ◌<◌, ◌∙◌, ap, arith, length, refl}
use Rattle.telgovan_c.specs.Jobs.{missing, missing_report, of_programs}
use Rattle.telgovan_c.proofs.jobs.play_within.Goals as goal

pub returns-then-len-pieces : goal.returns-then-len-pieces
returns-then-len-pieces c =
    let programs = c.in-Ok.programs in
    let less : length programs.items < length c.args.pieces.now = omega (arith, c.if-len-pieces.true, c.len.ensures, programs.ok.0) in
    let place : c.len-then-len-pieces.result ≡ length programs.items = omega (arith, c.len-then-len-pieces.ensures, programs.ok.0) in
    missing c.requires.limits (length programs.items) (c.in-Ok.ensures.stops less) refl refl (c.missing_report.ensures ∙ ap missing_report place)

pub returns-else-len-pieces : goal.returns-else-len-pieces
returns-else-len-pieces c =
    let programs = c.in-Ok.programs in
    of_programs programs.items (omega (arith, c.if-len-pieces.false, c.len.ensures, programs.ok.0, c.in-Ok.ensures.most)) c.in-Ok.ensures.each
    (rw c.deref.ensures.value at c.play_programs.ensures)
