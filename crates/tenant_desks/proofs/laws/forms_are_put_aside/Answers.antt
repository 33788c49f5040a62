use Rattle.std.proofs.Common.{◌≡◌}
use Rattle.tenant_desks.specs.AtDoors.{keeps_no_key}
use Rattle.tenant_desks.specs.Answering.{BeginsAtDoors, tenant_answers}
use Rattle.tenant_desks.proofs.DoorLemmas.{asked_plainly}
use Rattle.tenant_desks.proofs.laws.forms_are_put_aside.Goals as goal

pub returns : goal.returns
returns g c = λ names firsts keep.
    asked_plainly (tenant_answers g.N.Runner.starts g.N.Runner.looks g.N.Runner.takes) keeps_no_key (BeginsAtDoors names firsts keep) (λ s. (s.0 ≡ record { names = names; desks = firsts }) × (s.1.keep ≡ keep)) (λ s begun. (begun.0, begun.1))
