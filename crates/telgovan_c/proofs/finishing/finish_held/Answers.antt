use Rattle.std.proofs.Common.{◌≡◌, rules, subst, sym, ◌∙◌, Some}
use Rattle.conversation.specs.declared.host_desk.HostDesk.{HostDesk}
use Rattle.telgovan_c.specs.Desks.{desk_in}
use Rattle.telgovan_c.specs.Finishing.{IsFinishedBy, by_desk, refused}
use Rattle.telgovan_c.proofs.finishing.finish_held.Goals as goal

-- what was taken out is what the handle held
pub returns-in-Ok : goal.returns-in-Ok
returns-in-Ok c =
    let held : desk_in c.args.desk ≡ Some c.in-Some.desk.value = search rules in
    let is : c.deref_mut.result.now ≡ c.in-Some.desk.value = search rules in
    let new : desk_in c.of.result ≡ Some c.finish_at-status.new.desk = search rules in
    by_desk c.in-Some.desk.value c.finish_at-status.new.desk c.in-Ok.outcome held new c.in-Ok.ensures.ok
    (subst (λ (d : HostDesk). IsFinishedBy d c.args.job c.in-Ok.outcome c.finish_at-status.new.desk c.finish_at-status.result) is c.finish_at-status.ensures)

pub returns-in-Err : goal.returns-in-Err
returns-in-Err c =
    let held : desk_in c.args.desk ≡ Some c.in-Some.desk.value = search rules in
    let new : desk_in c.of-in-Err.result ≡ Some c.in-Some.desk.value = search rules in
    refused c.in-Some.desk.value held (new ∙ sym held) c.in-Err.ensures.err
