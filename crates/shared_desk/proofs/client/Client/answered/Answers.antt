use Rattle.std.proofs.Common.{ap}
use Rattle.shared_desk.specs.declared.passage.Passage.{Passage}
use Rattle.shared_desk.specs.Answered.{query_by}
use Rattle.shared_desk.proofs.OneAnswer.{legal_after, shared_ok, shared_err}
use Rattle.shared_desk.proofs.client.Client.answered.Goals as goal

pub invariant_of-self : goal.invariant_of-self
invariant_of-self g c =
    let known = legal_after g.H.SharedHandler.answers g.J.Origin.begins _ _ _ _ _ c.answer.ensures.ok c.answer.ensures.err in
    (known.0, known.1, c.self.invariant.2)

pub returns-clause-ok : goal.returns-clause-ok
returns-clause-ok g c =
    rw (← c.self.view_is)
    (shared_ok g.H.SharedHandler.answers g.J.Origin.begins _ _ _ _ _ _ (ap (λ (p : Passage). query_by p c.args.request c.args.beyond) c.self.invariant.2) c.answer.ensures.ok)

pub returns-clause-err : goal.returns-clause-err
returns-clause-err g c =
    rw (← c.self.view_is)
    (shared_err g.H.SharedHandler.answers g.J.Origin.begins _ _ _ _ _ _ (ap (λ (p : Passage). query_by p c.args.request c.args.beyond) c.self.invariant.2) c.answer.ensures.err)
