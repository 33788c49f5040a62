use Rattle.std.proofs.Common.{◌∙◌, ℕ, List, Option, String, Global, ap, map, string_bytes, subst}
use Rattle.tenant_desks.specs.Tenancies.{IsFirstTenancy}
use Rattle.job_server.proofs.DeskStarts.{none_served, tenants_begin}
use Rattle.job_server.proofs.serving_desks.serve_at_desks.Goals as goal

pub returns-in_default : goal.returns-in_default
returns-in_default g c =
    let b = tenants_begin c.args.plan.tenants.now c.args.plan.bounds c.args.runner in
    let s = none_served _ _ _ _ _ _ _ b.0 in
    (b.0, s.0, b.1, s.1, s.2, s.3)

pub returns-in_default-first : goal.returns-in_default-first
returns-in_default-first g c =
    let b = tenants_begin c.args.plan.tenants.now c.args.plan.bounds c.args.runner in
    let s = none_served _ _ _ _ _ _ _ b.0 in
    (b.0, s.0, b.1, s.1, s.2, s.3)

pub returns-in_default-limited_by_door : goal.returns-in_default-limited_by_door
returns-in_default-limited_by_door g c =
    let b = tenants_begin c.args.plan.tenants.now c.args.plan.bounds c.args.runner in
    let s = none_served _ _ _ _ _ _ _ b.0 in
    (b.0, s.0, b.1, s.1, s.2, s.3)

pub returns-in_default-new : goal.returns-in_default-new
returns-in_default-new g c =
    let b = tenants_begin c.args.plan.tenants.now c.args.plan.bounds c.args.runner in
    let s = none_served _ _ _ _ _ _ _ b.0 in
    (b.0, s.0, b.1, s.1, s.2, s.3)

pub returns : goal.returns
returns g c =
    let served = c.serve_at_once-served in
    let doors = c.args.plan.tenants.now in
    let tenants = ap (map (λ (x : String Global × Option ℕ). (string_bytes x.0, x.1))) c.deref.ensures.value ∙ c.in-Ok.ensures in
    let desks = subst (λ (ts : List (List ℕ × Option ℕ)). IsFirstTenancy ts c.in-Ok-first.desks) tenants c.in-Ok-first.ensures in
    let made = c.new-handler.ensures ∙ c.of-doors.ensures in
    let handler = ap (λ d. d.handler) made ∙ c.of-named.ensures ∙ c.new-2.ensures ∙ ap (λ r. record { runner = r; keep = c.args.plan.bounds.keep }) c.in-Ok-limited_by_door.ensures in
    let keys = ap (λ d. d.keys) made ∙ c.in-Ok-new.ensures in
    ((c.in-Ok-first.desks, c.new-handler.result), (served.result.0, served.result.1), (desks, handler, keys), served.ensures.0, served.ensures.1, served.ensures.2)
