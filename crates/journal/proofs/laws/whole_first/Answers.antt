use Rattle.journal.proofs.RecordLemmas as lemmas
use Rattle.journal.proofs.laws.whole_first.Goals as goal

pub returns : goal.returns
returns c = lemmas.whole_first
