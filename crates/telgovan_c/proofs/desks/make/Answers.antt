use Rattle.std.proofs.Common.{◌≡◌, refl, rules, Some}
use Rattle.telgovan_c.specs.Desks.{desk_in, made}
use Rattle.telgovan_c.proofs.desks.make.Goals as goal

pub returns-in-Ok : goal.returns-in-Ok
returns-in-Ok c =
    let new : desk_in c.sendable.result ≡ Some c.new.result = search rules in
    made c.new.result c.new.ensures new refl
