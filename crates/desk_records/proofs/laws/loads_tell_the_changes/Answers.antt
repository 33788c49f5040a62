use Rattle.desk_records.specs.Changes.{all_changed}
use Rattle.desk_records.specs.Made.{all_made}
use Rattle.desk_records.proofs.MadeLemmas.{all_made_stored, all_narrow_made, one_set}
use Rattle.desk_records.proofs.laws.loads_tell_the_changes.Goals as goal

pub returns : goal.returns
returns c db l loaded changes narrow each stored both found = one_set (all_changed db changes) loaded (all_made l changes) both (all_narrow_made l changes narrow each) found (all_made_stored db l changes stored)
