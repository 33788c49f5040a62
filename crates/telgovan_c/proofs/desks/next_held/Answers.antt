use Rattle.std.proofs.Common.{◌≡◌, rules, subst, Some}
use Rattle.conversation.specs.declared.host_desk.HostDesk.{HostDesk}
use Rattle.telgovan_c.specs.Desks.{IsHandedBy, by_desk, desk_in}
use Rattle.telgovan_c.proofs.desks.next_held.Goals as goal

-- what was taken out is what the handle held
pub returns-in-Some : goal.returns-in-Some
returns-in-Some c =
    let held : desk_in c.args.desk ≡ Some c.in-Some.desk.value = search rules in
    let is : c.deref_mut.result.now ≡ c.in-Some.desk.value = search rules in
    let new : desk_in c.of.result ≡ Some c.give_job-status.new.desk = search rules in
    by_desk c.in-Some.desk.value c.give_job-status.new.desk held new
    (subst (λ (d : HostDesk). IsHandedBy d c.args.room.now c.give_job-status.new.desk c.give_job-status.new.room c.give_job-status.new.told c.give_job-status.result) is c.give_job-status.ensures)
