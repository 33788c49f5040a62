use Rattle.journal.proofs.RecordLemmas as lemmas
use Rattle.journal.proofs.laws.zeros_are_torn.Goals as goal

pub returns : goal.returns
returns c = lemmas.zeros_are_torn
