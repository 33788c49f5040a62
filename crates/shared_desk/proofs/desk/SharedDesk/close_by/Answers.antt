use Rattle.std.proofs.Common.{◌∷◌, sym, ap, ◌∙◌, subst, List}
use Rattle.shared_desk.specs.declared.closed.ClosedConnection.{ClosedConnection}
use Rattle.shared_desk.specs.Closed.{earlier_fault}
use Rattle.shared_desk.specs.Histories.{HistoryEntry, Replays}
use Rattle.shared_desk.proofs.Closing.{one_came, told_more}
use Rattle.shared_desk.proofs.desk.SharedDesk.close_by.Goals as goal

pub invariant_of-self : goal.invariant_of-self
invariant_of-self g c =
    let n = c.close.ensures in
    let before = c.self.inside.recorder in
    let known = c.self.invariant in
    let one = c.requires.served n.0 n.1 in
    let told = told_more n.0 before.1 c.close.new.recorder.1 c.self.inside.over c.saturating_add-self-inside.result c.self.inside.outcome c.earlier_fault-self-inside.result (ap (λ r. r.1) n.2) (known.2, known.3, known.4) one.0 c.saturating_add-self-inside.ensures
    (c.earlier_fault-self-inside.ensures ∙ ap (earlier_fault c.self.inside.outcome) (sym one.2)) in (
      known.0,
      subst (λ (l : List HistoryEntry). Replays g.H.SharedHandler.answers g.J.Origin.begins l (c.self.inside.desk, c.self.inside.handler)) (sym (ap (λ r. r.0) n.2)) known.1,
      told.0,
      told.1,
      told.2,
      one_came g.J.HistoryId.comes n.0 before.1 _ (ap (λ r. r.1) n.2) one.1 known.5,
    )

pub returns-clause-same : goal.returns-clause-same
returns-clause-same g c =
    let n = c.close.ensures in
    (ap (λ v. v.0) c.self.view_is, ap (λ r. r.0) n.2 ∙ ap (λ v. v.1) c.self.view_is)

pub returns-clause-over : goal.returns-clause-over
returns-clause-over g c =
    let n = c.close.ensures in
    (n.0, n.1, ap (λ r. r.1) n.2 ∙ ap (λ (l : List ClosedConnection). n.0 ∷ l) (ap (λ v. v.2) c.self.view_is))
