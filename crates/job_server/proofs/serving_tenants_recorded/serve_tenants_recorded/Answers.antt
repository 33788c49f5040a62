use Rattle.std.proofs.Common.{◌≡◌, ℕ, List, inl, inr, refl, ap, length, map, sym, string_bytes, ◌∙◌, Option, String, Vec, Global, arith}
use Rattle.std.proofs.lemmas.List.{length-map}
use Rattle.desk_journal.specs.declared.journaled_desk.OpenJob.{OpenJob}
use Rattle.job_pools.specs.LineBounded.{new_by_line, starts_by_line}
use Rattle.job_server.specs.Recorded.{queue_journal, queue_taken, queue_told}
use Rattle.job_server.specs.TenantLimits.{door_limits}
use Rattle.job_server.specs.TenantRecorded.{desks_of, open_jobs_of, recovered_tenancy}
use Rattle.job_server.specs.TenantServing.{door_credits}
use Rattle.job_server.specs.declared.tenant_door.TenantDoor.{TenantDoor}
use Rattle.job_server.proofs.DeskStarts.{begun_as}
use Rattle.job_server.proofs.TenantRestarting.{tenants_restarted}
use Rattle.job_server.proofs.serving_tenants_recorded.serve_tenants_recorded.Goals as goal

pub grant_first-requires-clause-tenants : goal.grant_first-requires-clause-tenants
grant_first-requires-clause-tenants g c =
    let tenants = c.in-Ok-credits_of.tenants.items in
    let said : String Global × Option ℕ → List ℕ × Option ℕ = λ x. (string_bytes x.0, x.1) in
    let credit : TenantDoor → List ℕ × Option ℕ = λ d. (string_bytes d.name, d.credit) in
    let credits = sym (length-map tenants said) ∙ ap length c.in-Ok-credits_of.ensures ∙ length-map c.args.plan.tenants.now credit in
    let lent = ap length c.deref.ensures.value in
    let desks = c.in-Ok.ensures.count.0 in
    let states = c.requires.states in
    let journals = c.requires.journals in
    omega (arith, credits, lent, desks, states, journals)

pub restart-requires-clause-few : goal.restart-requires-clause-few
restart-requires-clause-few g c =
    let jobs = c.in-Ok.ensures.count.1 in
    let states = c.requires.states in
    let journals = c.requires.journals in
    let tenants = c.requires.tenants in
    omega (arith, jobs, states, journals, tenants)

pub returns-in-Err : goal.returns-in-Err
returns-in-Err g c = inr (inr (inr (_, refl)))

pub returns : goal.returns
returns g c =
    let served = c.serve_at_once-served in
    let plan = c.args.plan in
    let states = desks_of c.args.states.items in
    let made = c.in-Ok-recording_handler in
    let parts = c.in-Ok in
    let again = c.restart in
    let first = c.grant_first in
    let said : List (String Global × Option ℕ) → List (List ℕ × Option ℕ) = map (λ x. (string_bytes x.0, x.1)) in
    let held = parts.jobs.items in
    let items : Vec OpenJob Global → List OpenJob = λ jobs. jobs.items in
    let desks = first.new.desks in
    let handler = first.new.self in
    let as_many : length held ≡ length parts.desks.desks = parts.ensures.count.1 ∙ sym parts.ensures.count.0 in
    let t = begun_as _ _ _ _ _ _ _ (desks, c.new-counting.result) (desks, record { handler = handler; keys = parts.keys }) (served.result.0, served.result.1) served.result.2
    (ap (λ d. (desks, d)) (c.new-counting.ensures ∙ c.of-doors.ensures ∙ ap (λ h. record { handler = h; keys = parts.keys }) c.of.ensures)) served.ensures in
    inl (
      (desks, record { handler = handler; keys = parts.keys }),
      t.0,
      tenants_restarted (starts_by_line g.N.Runner.starts) (queue_taken {R = g.row.R.Denot}) (queue_told {R = g.row.R.Denot}) (queue_journal {R = g.row.R.Denot}) plan.journals.now (recovered_tenancy plan.tenants.now states) (door_credits plan.tenants.now) (open_jobs_of states)
          (new_by_line (door_limits plan.bounds.tenant_jobs plan.tenants.now) c.args.runner) plan.bounds.keep parts.desks (said c.deref.result.now) (map items held) made.handler again.new.self desks handler
          parts.ensures.desks (ap said c.deref.ensures.value ∙ c.in-Ok-credits_of.ensures) parts.ensures.jobs made.ensures.runner made.ensures.keep made.ensures.own made.ensures.fresh (made.ensures.count ∙ sym c.requires.states ∙ sym parts.ensures.count.0)
          (λ ds many. c.in-Ok-restart.ensures.starts ds (many ∙ sym as_many)) again.ensures.same.0 again.ensures.same.1
          c.in-Ok-grant_first.ensures.credited first.ensures.records first.ensures.forgotten first.ensures.same.0 first.ensures.same.1 first.ensures.same.2,
      parts.ensures.keys,
      t.1,
      t.2,
      t.3,
    )
