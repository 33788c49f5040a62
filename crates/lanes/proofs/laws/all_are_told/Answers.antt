use Rattle.lanes.proofs.Leaving.{all_told}
use Rattle.lanes.proofs.laws.all_are_told.Goals as goal

pub returns : goal.returns
returns g c = λ items m h back. all_told g.T.Carried.task items m h back
