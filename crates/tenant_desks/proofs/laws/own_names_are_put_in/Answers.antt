use Rattle.tenant_desks.proofs.NamedHistories.{own_names}
use Rattle.tenant_desks.proofs.laws.own_names_are_put_in.Goals as goal

pub returns : goal.returns
returns g c = λ names firsts keep history end replays. own_names g.N.Runner.starts g.N.Runner.looks g.N.Runner.takes names firsts keep history end replays
