use Rattle.std.proofs.Common.{◌≡◌, ◌<◌, ℕ, Some, None, nat_lt, if◌then◌else◌, length, map, slice_get, string_bytes, sym, ap, ◌∙◌, arith}
use Rattle.std.proofs.lemmas.Option.{IfSome_then, get_or_from_slice_get}
use Rattle.accounts.proofs.Listed.{get_within}
use Rattle.server_log.specs.declared.log_line.LogEvent.TheVariants.{Granted}
use Rattle.tenant_desks.specs.Routing.{tenant_place}
use Rattle.tenant_desks.specs.Tenancies.{Tenancy}
use Rattle.tenant_desks.proofs.told_grants.granted_among.Goals as goal

pub returns : goal.returns
returns c =
    let note = c.in_ok-note.note in
    let names : map string_bytes c.deref.result.now ≡ c.args.desks.now.names = ap (map string_bytes) c.deref.ensures.value ∙ ap (λ (d : Tenancy). d.names) c.desks.view_is in
    let desks : c.desks.inside.desks.items ≡ c.args.desks.now.desks = ap (λ (d : Tenancy). d.desks) c.desks.view_is in
    let place : c.tenant_place-place.result ≡ tenant_place c.args.desks.now.names (string_bytes note.tenant) = c.tenant_place-place.ensures.place ∙ (λ i. tenant_place (names i) (c.tenant.ensures i)) in
    let within : c.tenant_place-place.result < length c.desks.inside.desks.items =
    let last = c.tenant_place-place.ensures.within in
    let as_many = c.desks.invariant.0 in
    let same = ap length c.deref.ensures.value in
    omega (arith, last, as_many, same) in
    let there = get_within c.desks.inside.desks.items c.tenant_place-place.result within in
    let here : there.0 ≡ c.index.result.now = sym (get_or_from_slice_get c.desks.inside.desks.items c.tenant_place-place.result there.0 c.index.result.now there.1) ∙ sym c.index.ensures in
    IfSome_then c.event.result c.event.ensures.told
    (λ event t. (
      note,
      c.in_ok-note.was,
      record {
        desk = c.index.result.now;
        at = (λ i. slice_get (sym desks i) (sym place i)) ∙ there.1 ∙ ap Some here;
        account = t.0;
        is = t.1;
        granted = t.2;
        told = t.3 ∙ ap (λ (p : ℕ). Granted note.connection (if nat_lt 0 p then Some note.tenant else None) note.amount t.0.balance) place;
      },
    ))
