use Rattle.job_server.specs.Recorded.{queue_journal, queue_taken}
use Rattle.job_server.proofs.TenantRestarting.{made_as_many, made_fresh, made_own}
use Rattle.job_server.proofs.serving_tenants_recorded.recording_handler.Goals as goal

pub returns-clause-own : goal.returns-clause-own
returns-clause-own g c =
    made_own c.in_ok-queues.queues.items c.in_ok-limited.limited c.args.plan.bounds.keep (queue_journal {R = g.row.R.Denot}) c.args.plan.journals.now c.new.result c.new.ensures c.in_ok-queues.ensures.own

pub returns-clause-count : goal.returns-clause-count
returns-clause-count g c =
    made_as_many c.in_ok-queues.queues.items c.in_ok-limited.limited c.args.plan.bounds.keep _ c.new.result c.new.ensures c.in_ok-queues.ensures.count

pub returns-clause-fresh : goal.returns-clause-fresh
returns-clause-fresh g c =
    made_fresh c.in_ok-queues.queues.items c.in_ok-limited.limited c.args.plan.bounds.keep (queue_taken {R = g.row.R.Denot}) c.new.result c.new.ensures c.in_ok-queues.ensures.none
