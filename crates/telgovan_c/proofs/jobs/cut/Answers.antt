use Rattle.std.proofs.Common.{◌∙◌, refl}
use Rattle.std.specs.Prelude.{get_or}
use Rattle.std.proofs.lemmas.Option.{slice_get-get_or}
use Rattle.job_core.specs.declared.admission.ProgramBytes.{ProgramBytes}
use Rattle.telgovan_c.specs.declared.jobs.CodePiece.{CodePiece}
use Rattle.telgovan_c.proofs.JobLemmas.{cut_more, cut_stops}
use Rattle.telgovan_c.proofs.jobs.cut.Goals as goal

abbrev blank : CodePiece
blank = record { start = 0; length = 0; need = 0 }

pub returns-in_default : goal.returns-in_default
returns-in_default c =
    let piece : CodePiece = get_or c.args.pieces.now c.loop-piece.piece-index blank in
    let there = slice_get-get_or c.args.pieces.now c.loop-piece.piece-index blank c.loop-piece-test.true in
    cut_stops c.args.code.now c.args.pieces.now c.loop-piece.piece-index c.loop-piece.programs.items piece c.loop-piece.invariant there c.in_default.ensures.none

pub loop-piece-preserved : goal.loop-piece-preserved
loop-piece-preserved c =
    let piece : CodePiece = get_or c.args.pieces.now c.loop-piece.piece-index blank in
    let there = slice_get-get_or c.args.pieces.now c.loop-piece.piece-index blank c.loop-piece-test.true in
    let program : ProgramBytes = record { need = piece.need; code = c.in_ok-code.code } in
    let found = c.in-Some.ensures.some in
    rw (c.in_ok-push.ensures.items)
    (cut_more c.args.code.now c.args.pieces.now c.loop-piece.piece-index c.loop-piece.programs.items piece program c.loop-piece.invariant there
    (record { inside = found.0; need = refl; bytes = c.in_ok-code.ensures ∙ found.1 }))
