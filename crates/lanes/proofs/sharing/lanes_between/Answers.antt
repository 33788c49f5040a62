use Rattle.std.proofs.Common.{rules, ◌≡◌, ◌<◌, ◌≤◌, ◌+◌, ◌∙◌, List, ap, sym, subst, arith, length, get_or}
use Rattle.std.proofs.lemmas.List.Elements.{All-set, All-get_or, All-push}
use Rattle.std.proofs.lemmas.Option.{slice_get_within}
use Rattle.lanes.specs.Sharing.{AreNamed, LaneId, Moved, LeadRound, IsAlone, IsNew, IsUnused, lanes_of}
use Rattle.lanes.proofs.Rounds.{more_new, lanes_kept, lanes_long, named_apart, one_named}
use Rattle.lanes.proofs.sharing.lanes_between.Goals as goal

pub loop-place-preserved : goal.loop-place-preserved
loop-place-preserved g c =
    let inv = c.loop-place.invariant in
    let before : List Moved = c.loop-place.all.items in
    let all : List Moved = c.ways_of.new.all.items in
    let place = c.loop-place.place in
    let old : Moved = c.index_mut.result.now in
    let new : Moved = c.meet.new.self in
    let lanes : lanes_of all ≡ lanes_of before = c.in_ok-ways.ensures.lanes in
    let long : length all ≡ length before = sym (lanes_long all) ∙ ap length lanes ∙ lanes_long before in
    let within : place < length all = search rules in
    let there : old ≡ get_or all place old = c.index_mut.ensures.value in
    let given : new ≡ record { own = old.own; others = c.in_ok-ways.ways.items } = c.meet.ensures in
    let unused : IsUnused old.own = subst (λ (m : Moved). IsUnused m.own) (sym there) (All-get_or (λ (m : Moved). IsUnused m.own) all place old within c.in_ok-ways.ensures.unused) in
    let own : IsUnused new.own = subst (λ (m : Moved). IsUnused m.own) (sym given) unused in
    let leads : LeadRound (lanes_of all) place c.in_ok-ways.ways.items =
    subst (λ (ls : List LaneId). LeadRound ls place c.in_ok-ways.ways.items) (sym lanes) c.in_ok-ways.ensures.leads in
    let counted : length c.in_ok-ways.ways.items + 1 ≡ length before = search rules in
    let count : length c.in_ok-ways.ways.items + 1 ≡ length (lanes_of all) = counted ∙ sym long ∙ sym (lanes_long all) in
    let here : IsNew (lanes_of all) place new = subst (λ (m : Moved). IsNew (lanes_of all) place m) (sym given) (record {
      own = unused;
      count = count;
      others = c.in_ok-ways.ensures.new;
      leads = leads;
    }) in
    record {
      count = search rules;
      unused = All-set (λ (m : Moved). IsUnused m.own) all place new own c.in_ok-ways.ensures.unused;
      ways = more_new all place new old within (ap (λ (m : Moved). m.own.lane) given ∙ ap (λ (m : Moved). m.own.lane) there) here c.in_ok-ways.ensures.made;
      named = subst (λ (ls : List LaneId). AreNamed ls) (sym (lanes_kept all place new old within (ap (λ (m : Moved). m.own.lane) given ∙ ap (λ (m : Moved). m.own.lane) there) ∙ lanes)) inv.named;
    }

pub returns-clause-new : goal.returns-clause-new
returns-clause-new g c = λ place m is.
    let all : List Moved = c.loop-place.all.items in
    let within : place < length all = slice_get_within all place m is in
    let end : length all ≤ c.loop-place.place = search rules in
    c.loop-place.invariant.ways place m is (omega (arith, within, end))

pub returns-clause-apart : goal.returns-clause-apart
returns-clause-apart g c = named_apart (lanes_of c.loop-place.all.items) c.loop-place.invariant.named

pub loop-name-preserved : goal.loop-name-preserved
loop-name-preserved g c = record {
  count = search rules;
  room = search rules;
  alone = rw c.push_reserved.ensures.items (All-push IsAlone c.loop-name.all.items c.in_ok-alone.field-0 c.loop-name.invariant.alone c.in_ok-alone.ensures.0);
  named = rw c.push_reserved.ensures.items (one_named c.loop-name.all.items c.in_ok-alone.field-0 c.loop-name.invariant.named (search rules));
}
