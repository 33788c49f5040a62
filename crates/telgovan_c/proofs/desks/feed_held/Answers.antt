use Rattle.std.proofs.Common.{◌≡◌, ap, refl, rules, subst, sym, ◌∙◌, None, Some}
use Rattle.std.specs.BTreeMap.{get}
use Rattle.std.specs.Ordering.{nat_cmp}
use Rattle.conversation.specs.Hosting.{FeedsAt, IsAsBefore}
use Rattle.conversation.specs.declared.host_desk.HostDesk.{HostDesk}
use Rattle.telgovan_c.specs.Desks.{desk_in, fed, no_connection, status_of}
use Rattle.telgovan_c.proofs.desks.feed_held.Goals as goal

-- what was taken out is what the handle held
pub returns-in-Some-Ok : goal.returns-in-Some-Ok
returns-in-Some-Ok c =
    let held : desk_in c.args.desk ≡ Some c.in-Some.desk.value = search rules in
    let is : c.deref_mut.result.now ≡ c.in-Some.desk.value = search rules in
    let new : desk_in c.of.result ≡ Some c.feed.new.self = search rules in
    fed c.in-Some.desk.value c.feed.new.self c.in-Some-Ok.field-0 held new
    (subst (λ (d : HostDesk). FeedsAt d c.args.connection c.args.bytes.now c.in-Some-Ok.field-0 c.feed.new.self) is c.in-Some-Ok.ensures.fed)
    (sym (ap status_of c.in-Some-Ok.field-0-is))

pub returns-in-Some-Err : goal.returns-in-Some-Err
returns-in-Some-Err c =
    let held : desk_in c.args.desk ≡ Some c.in-Some.desk.value = search rules in
    let is : c.deref_mut.result.now ≡ c.in-Some.desk.value = search rules in
    let new : desk_in c.of-in-Some-Err.result ≡ Some c.feed.new.self = search rules in
    fed c.in-Some.desk.value c.feed.new.self c.in-Some-Err.field-0 held new
    (subst (λ (d : HostDesk). FeedsAt d c.args.connection c.args.bytes.now c.in-Some-Err.field-0 c.feed.new.self) is c.in-Some-Err.ensures.fed)
    (c.from.ensures ∙ c.code.ensures ∙ sym (ap status_of c.in-Some-Err.field-0-is))

pub returns-in-None-feed : goal.returns-in-None-feed
returns-in-None-feed c =
    let held : desk_in c.args.desk ≡ Some c.in-Some.desk.value = search rules in
    let is : c.deref_mut.result.now ≡ c.in-Some.desk.value = search rules in
    let new : desk_in c.of-in-None-feed.result ≡ Some c.feed.new.self = search rules in
    no_connection c.in-Some.desk.value c.feed.new.self held new
    (subst (λ (d : HostDesk). get nat_cmp d.conversations c.args.connection ≡ None) is c.in-None-feed.ensures.none.0)
    (subst (λ (d : HostDesk). IsAsBefore d c.feed.new.self) is c.in-None-feed.ensures.none.1) refl
