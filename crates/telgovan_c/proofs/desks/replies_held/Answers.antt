use Rattle.std.proofs.Common.{◌≡◌, refl, rules, subst, None, Some}
use Rattle.std.specs.BTreeMap.{get}
use Rattle.std.specs.Ordering.{nat_cmp}
use Rattle.conversation.specs.Hosting.{IsAsBefore, Sends}
use Rattle.conversation.specs.declared.host_desk.HostDesk.{HostDesk}
use Rattle.telgovan_c.specs.Desks.{desk_in, no_connection, sent}
use Rattle.telgovan_c.proofs.desks.replies_held.Goals as goal

-- what was taken out is what the handle held
pub returns-in-Some-take_replies : goal.returns-in-Some-take_replies
returns-in-Some-take_replies c =
    let held : desk_in c.args.desk ≡ Some c.in-Some.desk.value = search rules in
    let is : c.deref_mut.result.now ≡ c.in-Some.desk.value = search rules in
    let new : desk_in c.of.result ≡ Some c.take_replies.new.self = search rules in
    sent c.in-Some.desk.value c.take_replies.new.self c.in-Some-take_replies.sent held new
    (subst (λ (d : HostDesk). Sends d c.args.connection c.args.room.now c.take_replies.new.room c.in-Some-take_replies.sent c.take_replies.new.self) is c.in-Some-take_replies.ensures.sent)
    refl refl

pub returns-in-None-take_replies : goal.returns-in-None-take_replies
returns-in-None-take_replies c =
    let held : desk_in c.args.desk ≡ Some c.in-Some.desk.value = search rules in
    let is : c.deref_mut.result.now ≡ c.in-Some.desk.value = search rules in
    let new : desk_in c.of-in-None-take_replies.result ≡ Some c.take_replies.new.self = search rules in
    no_connection c.in-Some.desk.value c.take_replies.new.self held new
    (subst (λ (d : HostDesk). get nat_cmp d.conversations c.args.connection ≡ None) is c.in-None-take_replies.ensures.none.0)
    (subst (λ (d : HostDesk). IsAsBefore d c.take_replies.new.self) is c.in-None-take_replies.ensures.none.2)
    c.in-None-take_replies.ensures.none.1 refl refl
