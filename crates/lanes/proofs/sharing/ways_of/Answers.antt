use Rattle.std.proofs.Common.{rules, ◌≡◌, ℕ, ◌+◌, ◌%◌, ◌<◌, List, Some, get_or, set, length, length-set, sym, ap, ◌∙◌, subst}
use Rattle.std.proofs.lemmas.List.Elements.{All-get_or, All-push, All-set}
use Rattle.std.specs.Prelude.{slice_get}
use Rattle.lanes.specs.Interleaving.{new_thief}
use Rattle.lanes.specs.Sharing.{AreNewTo, InOther, IsUnused, LaneId, Moved, LeadRound, lanes_of}
use Rattle.lanes.proofs.Rounds.{hired, hired_unused, lane_at, lanes_kept, lanes_long, one_way, still_new}
use Rattle.lanes.proofs.sharing.ways_of.Goals as goal

pub loop-step-preserved : goal.loop-step-preserved
loop-step-preserved g c =
    let all : List Moved = c.loop-step.all.items in
    let inv = c.loop-step.invariant in
    let way : InOther = c.in_ok-way.field-0 in
    let old : Moved = c.index_mut.result.now in
    let new : Moved = c.way.new.self in
    let i : ℕ = (c.args.place + c.loop-step.step) % c.len-in-loop-step.result in
    let within : i < length all = search rules in
    let there : old ≡ get_or all i old = c.index_mut.ensures.value in
    let made : new ≡ hired old = c.in_ok-way.ensures.made in
    let kept : lanes_of (set all i new) ≡ lanes_of all = lanes_kept all i new old within (ap (λ (m : Moved). m.own.lane) made ∙ ap (λ (m : Moved). m.own.lane) there) in
    let counted : c.len-in-loop-step.result ≡ length all = search rules in
    let lane : slice_get (lanes_of all) i ≡ Some way.lane =
    lane_at all i old within ∙ ap (λ (m : Moved). Some m.own.lane) (sym there) ∙ sym (ap Some c.in_ok-way.ensures.way.0) in
    let leads : slice_get (lanes_of all) ((c.args.place + c.loop-step.step) % length (lanes_of all)) ≡ Some way.lane =
    subst (λ (n : ℕ). slice_get (lanes_of all) ((c.args.place + c.loop-step.step) % n) ≡ Some way.lane) (counted ∙ sym (lanes_long all)) lane in
    let long : length c.loop-step.ways.items + 1 ≡ c.loop-step.step = search rules in
    let unused : IsUnused old.own = subst (λ (m : Moved). IsUnused m.own) (sym there) (All-get_or (λ (m : Moved). IsUnused m.own) all i old within inv.unused) in
    record {
      count = search rules;
      room = search rules;
      long = length-set all i new ∙ inv.long;
      lanes = kept ∙ inv.lanes;
      unused = All-set (λ (m : Moved). IsUnused m.own) all i new (subst (λ (m : Moved). IsUnused m.own) (sym made) (hired_unused old unused)) inv.unused;
      made = subst (λ (m : Moved). AreNewTo c.args.place (set all i m)) (sym made) (still_new all i c.args.place old within there inv.made);
      new = rw c.push_reserved.ensures.items
          (All-push (λ (w : InOther). w.moved ≡ new_thief w.lane.name) c.loop-step.ways.items way inv.new
          (c.in_ok-way.ensures.way.1 ∙ ap (λ (l : LaneId). new_thief l.name) (sym c.in_ok-way.ensures.way.0)));
      leads = subst (λ (ls : List LaneId). LeadRound ls c.args.place c.push_reserved.new.self.items) (sym kept)
          (subst (λ (l : List InOther). LeadRound (lanes_of all) c.args.place l) (sym c.push_reserved.ensures.items)
          (one_way (lanes_of all) c.args.place c.loop-step.ways.items way c.loop-step.step long inv.leads leads));
    }
