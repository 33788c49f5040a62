use Rattle.std.proofs.Common.{◌≡◌, refl, rules, subst, Some}
use Rattle.conversation.specs.Hosting.{Connects, IsAsBefore}
use Rattle.conversation.specs.declared.host_desk.HostDesk.{HostDesk}
use Rattle.telgovan_c.specs.Desks.{connected, desk_in, no_memory}
use Rattle.telgovan_c.proofs.desks.connect_held.Goals as goal

-- what was taken out is what the handle held
pub returns-in-Ok : goal.returns-in-Ok
returns-in-Ok c =
    let held : desk_in c.args.desk ≡ Some c.in-Some.desk.value = search rules in
    let is : c.deref_mut.result.now ≡ c.in-Some.desk.value = search rules in
    let new : desk_in c.of.result ≡ Some c.connect.new.self = search rules in
    connected c.in-Some.desk.value c.connect.new.self held new
    (subst (λ (d : HostDesk). Connects d c.in-Ok.number c.connect.new.self) is c.in-Ok.ensures.connected) refl

pub returns-in-Err : goal.returns-in-Err
returns-in-Err c =
    let held : desk_in c.args.desk ≡ Some c.in-Some.desk.value = search rules in
    let is : c.deref_mut.result.now ≡ c.in-Some.desk.value = search rules in
    let new : desk_in c.of-in-Err.result ≡ Some c.connect.new.self = search rules in
    no_memory c.in-Some.desk.value c.connect.new.self held new
    (subst (λ (d : HostDesk). IsAsBefore d c.connect.new.self) is c.in-Err.ensures.refused) refl refl
