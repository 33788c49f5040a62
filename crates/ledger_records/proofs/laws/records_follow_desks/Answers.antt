use Rattle.ledger_records.proofs.Chain.{all_recorded}
use Rattle.ledger_records.proofs.laws.records_follow_desks.Goals as goal

pub returns : goal.returns
returns c = all_recorded
