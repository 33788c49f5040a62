use Rattle.journal.proofs.RecordLemmas as lemmas
use Rattle.journal.proofs.laws.one_reading.Goals as goal

pub returns : goal.returns
returns c = lemmas.one_reading
