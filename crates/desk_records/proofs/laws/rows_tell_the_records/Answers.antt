use Rattle.desk_records.proofs.MadeLemmas.{one_set}
use Rattle.desk_records.proofs.laws.rows_tell_the_records.Goals as goal

pub returns : goal.returns
returns c = one_set
