use Rattle.std.proofs.Common.{◌∷◌, refl, ap, ◌∙◌}
use Rattle.shared_desk.specs.declared.closed.ClosedConnection.{ClosedConnection}
use Rattle.shared_desk.proofs.Closing.{is_served}
use Rattle.shared_desk.proofs.desk.SharedDesk.close.Goals as goal

pub close_by-requires : goal.close_by-requires
close_by-requires g c = record {
  closes = (_, refl, refl, refl);
  served = λ c' is. is_served g.J.HistoryId.comes c' _ is c.requires.served c.requires.comes;
}

pub returns-clause-over : goal.returns-clause-over
returns-clause-over g c =
    let n = c.close_by.ensures.over in
    n.2 ∙ ap (λ (x : ClosedConnection). x ∷ c.args.self.now.2) n.1
