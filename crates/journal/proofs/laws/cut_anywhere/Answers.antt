use Rattle.journal.proofs.RecordLemmas as lemmas
use Rattle.journal.proofs.laws.cut_anywhere.Goals as goal

pub returns : goal.returns
returns c = lemmas.cut_anywhere
