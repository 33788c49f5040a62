use Rattle.std.proofs.Common.{◌≡◌, ◌<◌, ◌∙◌, ap, arith, length}
use Rattle.telgovan_c.specs.Admitting.{missing, no_memory}
use Rattle.telgovan_c.specs.Jobs.{missing_report}
use Rattle.telgovan_c.proofs.AdmittingLemmas.{admitted_cut, refused_cut}
use Rattle.telgovan_c.proofs.admitting.admit_within.Goals as goal

pub returns-then-len-pieces : goal.returns-then-len-pieces
returns-then-len-pieces c =
    let programs = c.in-Ok.programs in
    let less : length programs.items < length c.args.pieces.now = omega (arith, c.if-len-pieces.true, c.len.ensures, programs.ok.0) in
    let place : c.len-then-len-pieces.result ≡ length programs.items = omega (arith, c.len-then-len-pieces.ensures, programs.ok.0) in
    record {
      admitted = tt;
      refused = missing c.requires.limits (length programs.items) (c.in-Ok.ensures.stops less) (c.missing_report.ensures ∙ ap missing_report place);
    }

pub returns-else-len-pieces : goal.returns-else-len-pieces
returns-else-len-pieces c =
    let programs = c.in-Ok.programs in
    let many : length programs.items ≡ length c.args.pieces.now = omega (arith, c.if-len-pieces.false, c.len.ensures, programs.ok.0, c.in-Ok.ensures.most) in
    record {
      admitted = admitted_cut c.args.code.now c.args.pieces.now c.args.credit c.args.buffer.now programs.items c.admit_programs.result many c.in-Ok.ensures.each c.admit_programs.ensures.admitted;
      refused = refused_cut c.args.code.now c.args.pieces.now c.args.credit c.args.buffer.now programs.items c.admit_programs.result many c.in-Ok.ensures.each c.admit_programs.ensures.refused;
    }

pub returns-in-Err : goal.returns-in-Err
returns-in-Err c = record { admitted = tt; refused = no_memory c.requires.limits c.refused_report.ensures }
