use Rattle.journal.proofs.RecordLemmas as lemmas
use Rattle.journal.proofs.laws.round_trip.Goals as goal

pub returns : goal.returns
returns c = lemmas.round_trip
