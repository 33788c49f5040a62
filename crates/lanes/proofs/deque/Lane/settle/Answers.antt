use Rattle.std.proofs.Common.{rules, ◌≡◌, ◌∷◌, ◌++◌, List, map, ap, ◌∙◌}
use Rattle.lanes.specs.declared.moves.Moves.{Moves}
use Rattle.lanes.specs.declared.moves.TicketData.{TicketData}
use Rattle.lanes.specs.Passes.{moves, moves_of, IsGuestOf}
use Rattle.lanes.proofs.Gathering.{all_left, one_gathered}
use Rattle.lanes.proofs.deque.Lane.settle.Goals as goal

pub loop-thief-preserved : goal.loop-thief-preserved
loop-thief-preserved g c =
    let rest = c.pop.new.self.items in
    let told : (moves_of c.gather.new.pass).gathered ≡ (moves c.in-Some.thief).taken ∷ (moves_of c.loop-thief.pass).gathered
    = ap (λ (m : Moves). m.gathered) c.gather.ensures.gathered in
    record {
      owner = c.gather.ensures.pass;
      same = search rules;
      place = search rules;
      guests = all_left (λ p. IsGuestOf c.args.self.now p) c.loop-thief.thieves.items rest c.in-Some.thief c.loop-thief.invariant.guests c.in-Some.ensures.items;
      pushed = ap (λ (m : Moves). m.pushed) c.gather.ensures.gathered ∙ c.loop-thief.invariant.pushed;
      taken = ap (λ (m : Moves). m.taken) c.gather.ensures.gathered ∙ c.loop-thief.invariant.taken;
      made = ap (λ (m : Moves). m.thieves) c.gather.ensures.gathered ∙ c.loop-thief.invariant.made;
      gathered = ap (λ (l : List (List TicketData)). map (λ p. (moves p).taken) rest ++ l) told
          ∙ one_gathered (λ p. (moves p).taken) c.loop-thief.thieves.items rest c.in-Some.thief (moves_of c.loop-thief.pass).gathered c.in-Some.ensures.items
          ∙ c.loop-thief.invariant.gathered;
    }
