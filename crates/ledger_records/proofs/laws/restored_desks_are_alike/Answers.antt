use Rattle.ledger_records.proofs.Chain.{restored_alike}
use Rattle.ledger_records.proofs.laws.restored_desks_are_alike.Goals as goal

pub returns : goal.returns
returns c = restored_alike
