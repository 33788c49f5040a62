use Rattle.std.proofs.Common.{◌≡◌, refl, rules, subst, sym, ◌∙◌, None, Some, is_some, true}
use Rattle.std.specs.BTreeMap.{get, Updates}
use Rattle.std.specs.Ordering.{nat_cmp}
use Rattle.conversation.specs.Hosting.{IsAsBefore}
use Rattle.conversation.specs.declared.host_desk.HostDesk.{HostDesk}
use Rattle.telgovan_c.specs.Desks.{desk_in, ended, no_connection}
use Rattle.telgovan_c.proofs.DeskLemmas.{none_of}
use Rattle.telgovan_c.proofs.desks.disconnect_held.Goals as goal

-- what was taken out is what the handle held
pub returns-then-disconnect : goal.returns-then-disconnect
returns-then-disconnect c =
    let held : desk_in c.args.desk ≡ Some c.in-Some.desk.value = search rules in
    let is : c.deref_mut.result.now ≡ c.in-Some.desk.value = search rules in
    let new : desk_in c.of.result ≡ Some c.disconnect.new.self = search rules in
    ended c.in-Some.desk.value c.disconnect.new.self held new
    (subst (λ (d : HostDesk). is_some (get nat_cmp d.conversations c.args.connection) ≡ true) is (sym c.disconnect.ensures.there ∙ c.if-disconnect.true))
    (subst (λ (d : HostDesk). Updates nat_cmp d.conversations c.disconnect.new.self.conversations c.args.connection None) is c.disconnect.ensures.gone)
    (subst (λ (d : HostDesk). c.disconnect.new.self.clerk ≡ d.clerk) is c.disconnect.ensures.clerk) refl

pub returns-else-disconnect : goal.returns-else-disconnect
returns-else-disconnect c =
    let held : desk_in c.args.desk ≡ Some c.in-Some.desk.value = search rules in
    let is : c.deref_mut.result.now ≡ c.in-Some.desk.value = search rules in
    let new : desk_in c.of-in-Some.result ≡ Some c.disconnect.new.self = search rules in
    no_connection c.in-Some.desk.value c.disconnect.new.self held new
    (subst (λ (d : HostDesk). get nat_cmp d.conversations c.args.connection ≡ None) is (none_of _ (sym c.if-disconnect.false ∙ c.disconnect.ensures.there)))
    (subst (λ (d : HostDesk). IsAsBefore d c.disconnect.new.self) is (c.disconnect.ensures.same c.if-disconnect.false, c.disconnect.ensures.connected, c.disconnect.ensures.clerk)) refl
