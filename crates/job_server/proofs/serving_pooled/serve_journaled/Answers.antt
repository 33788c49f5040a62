use Rattle.std.proofs.Common.{inl, inr, refl, sym, subst}
use Rattle.std.specs.Prelude.{All, is_some}
use Rattle.job_server.specs.Listening.{AreOf, CameBy}
use Rattle.job_server.specs.Recorded.{queue_journal, queue_taken, queue_told, recovered_state}
use Rattle.job_server.specs.TenantRecorded.{desks_of}
use Rattle.job_server.proofs.ByDoors.{none_if, some_if}
use Rattle.job_server.proofs.ByJournal.{some_journals, with_journal, with_journals}
use Rattle.job_server.proofs.RecordedAlike.{recorded_serving}
use Rattle.job_server.proofs.TenantRecordedAlike.{tenants_recorded_serving}
use Rattle.job_server.proofs.serving_pooled.serve_journaled.Goals as goal

pub returns-then-is_empty : goal.returns-then-is_empty
returns-then-is_empty g c =
    let limited = c.args.runner in
    let plan = c.args.plan in
    elim c.serve_recorded.ensures [
      | inl at ↦
          (let hosted = recorded_serving (λ r. (r.keeper, r.boards)) (queue_taken {R = g.row.R.Denot}) (queue_told {R = g.row.R.Denot}) _ _ _ (λ r n j x s h. h.0) (λ r n p s h. h) (λ r x s h. h.0) (recovered_state (desks_of c.args.states.items)) plan.bounds limited limited.runner at.0 at.1 plan.sessions _ c.serve_recorded.result
          refl c.requires.limit c.requires.none at.2 at.3 in
          inl
          (with_journal g.L.Listener.opens g.L.Listener.fails g.L.Listener.passage c.args.listener (queue_taken {R = g.row.R.Denot}) (queue_told {R = g.row.R.Denot}) (queue_journal {R = g.row.R.Denot}) plan.journals.now c.args.states.items plan.tenants.now plan.bounds plan.sessions
          (is_some plan.stop) c.serve_recorded.result (some_journals _ _ c.requires.journals) (none_if plan.tenants.now c.if-is_empty.ensures) hosted.0
          (subst (AreOf g.L.Listener.opens g.L.Listener.fails c.args.listener) (sym hosted.1) at.4)
          (subst (All (λ c. CameBy g.L.Listener.opens g.L.Listener.passage c.passage)) (sym hosted.2) at.5)))
      | inr none ↦ inr none
    ]

pub returns : goal.returns
returns g c =
    let limited = c.args.runner in
    let plan = c.args.plan in
    elim c.serve_tenants_recorded.ensures [
      | inl at ↦
          (let hosted = tenants_recorded_serving (λ r. (r.keeper, r.boards)) (queue_taken {R = g.row.R.Denot}) (queue_told {R = g.row.R.Denot}) (queue_journal {R = g.row.R.Denot}) _ _ _ (λ r n j x s h. h.0) (λ r n p s h. h) (λ r x s h. h.0) plan.journals.now c.args.states.items plan.tenants.now plan.bounds limited limited.runner at.0 at.1
          plan.sessions _ c.serve_tenants_recorded.result refl c.requires.limit c.requires.none at.2 at.3 at.4 in
          inl
          (with_journals g.L.Listener.opens g.L.Listener.fails g.L.Listener.passage c.args.listener (queue_taken {R = g.row.R.Denot}) (queue_told {R = g.row.R.Denot}) (queue_journal {R = g.row.R.Denot}) plan.journals.now c.args.states.items plan.tenants.now plan.bounds plan.sessions
          (is_some plan.stop) c.serve_tenants_recorded.result (some_journals _ _ c.requires.journals) (some_if plan.tenants.now c.if-is_empty.ensures) hosted.0
          (subst (AreOf g.L.Listener.opens g.L.Listener.fails c.args.listener) (sym hosted.1) at.5)
          (subst (All (λ c. CameBy g.L.Listener.opens g.L.Listener.passage c.passage)) (sym hosted.2) at.6)))
      | inr none ↦ inr none
    ]
