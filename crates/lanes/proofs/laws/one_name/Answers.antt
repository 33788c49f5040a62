use Rattle.lanes.proofs.Telling.{its_name}
use Rattle.lanes.proofs.laws.one_name.Goals as goal

pub returns : goal.returns
returns g c = λ items views h. its_name g.T.Carried.task items views h
