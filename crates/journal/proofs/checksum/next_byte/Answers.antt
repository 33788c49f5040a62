use Rattle.journal.proofs.ChecksumLemmas.{next_byte}
use Rattle.journal.proofs.checksum.next_byte.Goals as goal

pub returns : goal.returns
returns c =
    next_byte c.args.remainder c.args.byte c.from.result c.ranges.byte.fits c.from.ensures
