use Rattle.std.proofs.Common.{◌≡◌, sym, subst}
use Rattle.shared_desk.specs.ClientViews.{ClientView}
use Rattle.shared_desk.specs.Histories.{Replays, part_of}
use Rattle.shared_desk.specs.Notes.{IsNotedAt}
use Rattle.shared_desk.proofs.client.Client.note.Goals as goal

pub invariant_of-self : goal.invariant_of-self
invariant_of-self g c =
    let known = c.self.invariant in
    subst (λ (k : ClientView). ((s : _) × Replays g.H.SharedHandler.answers g.J.Origin.begins k.seen s) × (part_of k.number k.seen ≡ k.part) × (c.self.inside.passage ≡ g.G.PassageId.passage))
    (sym c.note.ensures.same.1) (known.0, known.1, known.2)

pub returns-clause-noted : goal.returns-clause-noted
returns-clause-noted g c =
    let shared = c.deref_mut.result.now in
    subst (λ (k : ClientView). IsNotedAt g.H.SharedHandler.answers g.J.Origin.begins g.H.Noted.covers c.args.place c.note.new.into k)
    c.self.view_is
    (record {
      history = shared.1;
      state = shared.0;
      legal = c.note.ensures.legal;
      seen = c.note.ensures.later;
      own = c.note.ensures.own;
      covered = c.note.ensures.noted;
    })
