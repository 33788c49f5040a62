use Rattle.std.proofs.Common.{length}
use Rattle.desk_store.proofs.open.+have_forms.Given as goal

abbrev pub decreases-have_forms : goal.decreases-have_forms
decreases-have_forms l = length l.columns.now
