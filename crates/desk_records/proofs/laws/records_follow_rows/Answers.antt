use Rattle.desk_records.proofs.MadeLemmas.{all_made_stored}
use Rattle.desk_records.proofs.laws.records_follow_rows.Goals as goal

pub returns : goal.returns
returns c = all_made_stored
