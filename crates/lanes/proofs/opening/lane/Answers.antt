use Rattle.std.proofs.Common.{rules, ◌≡◌, sym, ◌∙◌, ap}
use Rattle.std.proofs.lemmas.List.Elements.{All-push, All-weaker}
use Rattle.lanes.specs.declared.moves.Moves.{Moves}
use Rattle.lanes.specs.Interleaving.{new_thief, with_thief}
use Rattle.lanes.specs.Passes.{name_of, IsNewThief}
use Rattle.lanes.proofs.opening.lane.Goals as goal

pub loop-preserved : goal.loop-preserved
loop-preserved g c =
    let name : name_of c.thief.new.self ≡ name_of c.loop.lane = ap (λ (m : Moves). m.lane) c.in_ok-thief.ensures.made in
    record {
      count = search rules;
      room = search rules;
      made = c.in_ok-thief.ensures.made ∙ ap (λ (m : Moves). with_thief m.lane m) c.loop.invariant.made;
      place = search rules;
      thieves = rw c.push_reserved.ensures.items
          (All-weaker (λ x. IsNewThief c.loop.lane x.0 x.1) (λ x. IsNewThief c.thief.new.self x.0 x.1)
          (λ x h. (h.0 ∙ sym c.in_ok-thief.ensures.same.0, h.1, h.2 ∙ ap new_thief (sym name))) _
          (All-push (λ x. IsNewThief c.loop.lane x.0 x.1) c.loop.all.items c.in_ok-thief.field-0 c.loop.invariant.thieves c.in_ok-thief.ensures.thief));
    }
