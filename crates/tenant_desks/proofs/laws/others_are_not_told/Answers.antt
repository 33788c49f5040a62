use Rattle.tenant_desks.proofs.AdmissionLemmas.{one_admission}
use Rattle.tenant_desks.proofs.AlikeEvents.{told_alike}
use Rattle.tenant_desks.proofs.laws.others_are_not_told.Goals as goal

pub returns : goal.returns
returns g c = told_alike g.N.Runner.starts g.N.Runner.looks g.N.Runner.takes one_admission
