use Rattle.std.proofs.Common.{ap}
use Rattle.shared_desk.proofs.Closing.{still_came, told_of}
use Rattle.shared_desk.proofs.OneAnswer.{asked_as, has_entry, same_entry, replays_on, shared_answer, answer_ok, answer_err}
use Rattle.shared_desk.specs.Answered.{query_by}
use Rattle.shared_desk.proofs.desk.SharedDesk.answer.Goals as goal

pub add-requires : goal.add-requires
add-requires g c =
    rw (c.of-desk_before.ensures, c.of-handler_before.ensures, c.of-asked.ensures, c.of-asked_beyond.ensures)
    (has_entry g.H.SharedHandler.answers g.J.Origin.begins _ _ _ c.args.seat.now.number _ c.answer_by-reply.ensures.ok c.answer_by-reply.ensures.err)

pub invariant_of-self : goal.invariant_of-self
invariant_of-self g c =
    let n = c.add.ensures in
    let is = same_entry g.H.SharedHandler.answers g.J.Origin.begins _ (c.self.inside.desk, c.self.inside.handler) _ (query_by c.args.passage c.args.request c.args.beyond) _ _ n.0 (λ i. (c.of-desk_before.ensures i, c.of-handler_before.ensures i)) (asked_as c.args.passage _ _ _ _ c.of-asked.ensures c.of-asked_beyond.ensures) n.1 in
    let known = c.self.invariant in
    let told = told_of c.self.inside.recorder.1 c.add.new.recorder.1 c.self.inside.over c.self.inside.outcome (ap (λ r. r.1) n.4) (known.2, known.3, known.4) in
    (c.answer_by-reply.ensures.ready, replays_on g.H.SharedHandler.answers g.J.Origin.begins _ _ _ _ _ n.0 _ known.1 is (ap (λ r. r.0) n.4), told.0, told.1, told.2, still_came g.J.HistoryId.comes _ _ (ap (λ r. r.1) n.4) known.5)

pub returns-clause-ok : goal.returns-clause-ok
returns-clause-ok g c =
    let n = c.add.ensures in
    let is = same_entry g.H.SharedHandler.answers g.J.Origin.begins _ (c.self.inside.desk, c.self.inside.handler) _ (query_by c.args.passage c.args.request c.args.beyond) _ _ n.0 (λ i. (c.of-desk_before.ensures i, c.of-handler_before.ensures i)) (asked_as c.args.passage _ _ _ _ c.of-asked.ensures c.of-asked_beyond.ensures) n.1 in
    let shared = shared_answer g.H.SharedHandler.answers g.J.Origin.begins c.args.seat.now c.add.new.seat _ _ _ _ _ n.0 c.self.invariant.1 is n.2 n.3 n.5 n.6 n.7 n.8 in
    answer_ok g.H.SharedHandler.answers g.J.Origin.begins _ _ _ _ _ _ n.0 (same_entry g.H.SharedHandler.answers g.J.Origin.begins _ _ _ _ _ _ n.0 (ap (λ v. v.0) c.self.view_is) (λ i. query_by c.args.passage c.args.request c.args.beyond) is) shared

pub returns-clause-err : goal.returns-clause-err
returns-clause-err g c =
    let n = c.add.ensures in
    let is = same_entry g.H.SharedHandler.answers g.J.Origin.begins _ (c.self.inside.desk, c.self.inside.handler) _ (query_by c.args.passage c.args.request c.args.beyond) _ _ n.0 (λ i. (c.of-desk_before.ensures i, c.of-handler_before.ensures i)) (asked_as c.args.passage _ _ _ _ c.of-asked.ensures c.of-asked_beyond.ensures) n.1 in
    let shared = shared_answer g.H.SharedHandler.answers g.J.Origin.begins c.args.seat.now c.add.new.seat _ _ _ _ _ n.0 c.self.invariant.1 is n.2 n.3 n.5 n.6 n.7 n.8 in
    answer_err g.H.SharedHandler.answers g.J.Origin.begins _ _ _ _ _ _ n.0 (same_entry g.H.SharedHandler.answers g.J.Origin.begins _ _ _ _ _ _ n.0 (ap (λ v. v.0) c.self.view_is) (λ i. query_by c.args.passage c.args.request c.args.beyond) is) shared
