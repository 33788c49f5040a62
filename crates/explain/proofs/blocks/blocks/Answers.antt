use Rattle.std.proofs.Common.{arith}
use Rattle.std.proofs.lemmas.List.Elements.{All-push}
use Rattle.explain.specs.Arriving.{subject_of_program}
use Rattle.explain.specs.Blocks.{IsBlock, slots_in}
use Rattle.explain.proofs.BlockLemmas.{slots_long, tiled_more}
use Rattle.explain.proofs.blocks.blocks.Goals as goal

pub loop-first-preserved : goal.loop-first-preserved
loop-first-preserved c =
    let block = c.block_from-block.result in
    rw c.in_ok-push.ensures.items (record {
      within = omega (arith, slots_long c.args.placed.now, c.block_from-block.ensures.block.within);
      tiled = tiled_more c.loop-first.blocks.items block 0 c.loop-first.first c.loop-first.invariant.tiled c.block_from-block.ensures.first;
      each = All-push (IsBlock (subject_of_program c.args.analyzed.now) (slots_in c.args.placed.now)) c.loop-first.blocks.items block c.loop-first.invariant.each
          c.block_from-block.ensures.block;
    })
