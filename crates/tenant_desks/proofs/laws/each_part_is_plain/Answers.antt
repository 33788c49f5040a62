use Rattle.tenant_desks.proofs.SeenLemmas.{plain_part}
use Rattle.tenant_desks.proofs.laws.each_part_is_plain.Goals as goal

pub returns : goal.returns
returns g c = λ names firsts keep place first. plain_part g.N.Runner.starts g.N.Runner.looks g.N.Runner.takes place firsts first names keep
