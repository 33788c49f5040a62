use Rattle.explain.proofs.BlockLemmas.{slot_read}
use Rattle.explain.proofs.blocks.slot_at.Goals as goal

pub returns : goal.returns
returns c = slot_read c.args.placed.now c.args.index c.index-placed-index.result c.requires
