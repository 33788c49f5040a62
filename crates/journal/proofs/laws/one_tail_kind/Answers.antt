use Rattle.journal.proofs.TailLemmas.{one_kind}
use Rattle.journal.proofs.laws.one_tail_kind.Goals as goal

pub returns : goal.returns
returns c = one_kind
