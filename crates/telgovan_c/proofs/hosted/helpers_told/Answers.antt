use Rattle.std.proofs.Common.{◌<◌, ℕ, arith, length}
use Rattle.std.specs.Prelude.{get_or}
use Rattle.std.proofs.lemmas.Option.{slice_get-get_or}
use Rattle.telgovan_c.proofs.HostedLemmas.{arities_more, told_more}
use Rattle.telgovan_c.proofs.hosted.helpers_told.Goals as goal

pub loop-place-preserved : goal.loop-place-preserved
loop-place-preserved c =
    let before = c.loop-place.invariant in
    let within : c.loop-place.place < length c.args.words.now = c.loop-place-test.true in
    let word : ℕ = get_or c.args.words.now c.loop-place.place 0 in
    let there = slice_get-get_or c.args.words.now c.loop-place.place 0 within in
    let more = told_more c.args.words.now c.loop-place.place word c.loop-place.table c.add_told.new.table there c.in-Ok.ensures.none
    c.in-Ok.ensures.some before.told in
    record {
      within = omega (arith, within);
      few = before.few;
      arities = arities_more c.args.words.now c.loop-place.place word there more.1 before.arities;
      told = more.0;
      own = c.in-Ok.ensures.own;
      beside = c.in-Ok.ensures.beside;
    }
