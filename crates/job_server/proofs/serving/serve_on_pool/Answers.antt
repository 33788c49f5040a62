use Rattle.std.proofs.Common.{inl, inr, refl}
use Rattle.std.specs.Prelude.{is_some}
use Rattle.job_server.specs.Recorded.{queue_journal, queue_taken, queue_told}
use Rattle.job_server.proofs.ByDoors.{none_if}
use Rattle.job_server.proofs.ByJournal.{without_journal}
use Rattle.job_server.proofs.serving.serve_on_pool.Goals as goal

pub returns-then-started-plan : goal.returns-then-started-plan
returns-then-started-plan g c = inr (inr (inl refl))

pub returns-then-is_empty : goal.returns-then-is_empty
returns-then-is_empty g c =
    let plan = c.args.plan in
    inl
    (without_journal g.L.Listener.opens g.L.Listener.fails g.L.Listener.passage c.args.listener (queue_taken {R = g.row.R.Denot}) (queue_told {R = g.row.R.Denot}) (queue_journal {R = g.row.R.Denot}) plan.journals.now c.args.states.items plan.tenants.now plan.bounds plan.sessions
    (is_some plan.stop) c.serve_unrecorded-served.result (none_if plan.journals.now c.if-is_empty.ensures) c.serve_unrecorded-served.ensures)

pub returns : goal.returns
returns g c = c.serve_journaled-served.ensures
