use Rattle.std.proofs.Common.{refl, sym, subst}
use Rattle.std.specs.Prelude.{All, is_some}
use Rattle.job_server.specs.AtOnce.{new_desk}
use Rattle.job_server.specs.Listening.{AreOf, CameBy}
use Rattle.job_server.proofs.Alike.{beside}
use Rattle.job_server.proofs.AtOnceAlike.{hosted_serving, keeping}
use Rattle.job_server.proofs.ByDoors.{none_if, plain_at, some_if, tenants_at}
use Rattle.job_server.proofs.TenantAlike.{begins_as, doors_hosted_as, tenants_serving}
use Rattle.job_server.proofs.serving_pooled.serve_unrecorded.Goals as goal

pub returns-then-is_empty : goal.returns-then-is_empty
returns-then-is_empty g c =
    let at = c.serve_at_desk.ensures in
    let limited = c.args.runner in
    let pool = limited.runner in
    let bounds = c.args.plan.bounds in
    let hosted = hosted_serving (λ r. (r.keeper, r.boards)) _ _ _ (λ r n j x s h. h.0) (λ r n p s h. h) (λ r x s h. h.0) bounds new_desk (record { runner = limited; keep = bounds.keep }) limited pool at.0 c.args.plan.sessions _ c.serve_at_desk.result
    refl refl refl refl c.requires.limit at.1 in
    plain_at g.L.Listener.opens g.L.Listener.fails g.L.Listener.passage c.args.listener c.args.plan.tenants.now bounds c.args.plan.sessions (is_some c.args.plan.stop) c.serve_at_desk.result
    (none_if c.args.plan.tenants.now c.if-is_empty.ensures)
    (record {
      first = (pool.keeper, pool.boards);
      none = c.requires.none;
      end = beside (keeping (λ r. (r.keeper, r.boards))) at.0;
      serving = hosted.0;
    })
    (subst (AreOf g.L.Listener.opens g.L.Listener.fails c.args.listener) (sym hosted.1) at.2)
    (subst (All (λ c. CameBy g.L.Listener.opens g.L.Listener.passage c.passage)) (sym hosted.2) at.3)

pub returns : goal.returns
returns g c =
    let at = c.serve_at_desks.ensures in
    let limited = c.args.runner in
    let pool = limited.runner in
    let bounds = c.args.plan.bounds in
    let doors = c.args.plan.tenants.now in
    let hosted = tenants_serving (λ r. (r.keeper, r.boards)) _ _ _ (λ r n j x s h. h.0) (λ r n p s h. h) (λ r x s h. h.0) at.0 at.1 c.args.plan.sessions _ c.serve_at_desks.result at.3 in
    tenants_at g.L.Listener.opens g.L.Listener.fails g.L.Listener.passage c.args.listener doors bounds c.args.plan.sessions (is_some c.args.plan.stop) c.serve_at_desks.result
    (some_if doors c.if-is_empty.ensures)
    (record {
      first = (pool.keeper, pool.boards);
      none = c.requires.none;
      begun = doors_hosted_as (λ r. (r.keeper, r.boards)) at.0;
      begins = begins_as (λ r. (r.keeper, r.boards)) doors bounds limited pool at.0 refl c.requires.limit at.2;
      end = doors_hosted_as (λ r. (r.keeper, r.boards)) at.1;
      serving = hosted.0;
    })
    (subst (AreOf g.L.Listener.opens g.L.Listener.fails c.args.listener) (sym hosted.1) at.4)
    (subst (All (λ c. CameBy g.L.Listener.opens g.L.Listener.passage c.passage)) (sym hosted.2) at.5)
