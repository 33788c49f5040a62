use Rattle.std.proofs.Common.{arith, subst, ◌∙◌}
use Rattle.sqlite_trees.specs.Tree.{Trees}
use Rattle.desk_store.specs.RowStores.{IsHonest, now_in}
use Rattle.desk_records.specs.Stored.{Explains}
use Rattle.desk_records.proofs.DamageLemmas.{desks_explain, jobs_explain, keys_explain, outcomes_explain, tenants_explain}
use Rattle.desk_records.proofs.loading.load_records.Goals as goal

pub returns-in-Err-clause-damage : goal.returns-in-Err-clause-damage
returns-in-Err-clause-damage g c honest = tenants_explain (now_in g.S.Store c.args.rows.now) c.in-Err.fault (c.in-Err.ensures.damage honest)

pub returns-in-Err-load-clause-damage : goal.returns-in-Err-load-clause-damage
returns-in-Err-load-clause-damage g c honest =
    let mid = c.load.new.self in
    let first : IsHonest g.S.Store mid = omega (arith, c.load-2.ensures.calm.clean) in
    subst (λ (db : Trees). Explains db c.in-Err-load.fault) (c.in-Ok.ensures.same first).now_is (jobs_explain (now_in g.S.Store mid) c.in-Err-load.fault (c.in-Err-load.ensures.damage honest))

pub returns-in-Err-load-2-clause-damage : goal.returns-in-Err-load-2-clause-damage
returns-in-Err-load-2-clause-damage g c honest =
    let mid = c.load-2.new.self in
    let second : IsHonest g.S.Store mid = omega (arith, c.load-3.ensures.calm.clean) in
    let first : IsHonest g.S.Store c.load.new.self = omega (arith, second, c.load-2.ensures.calm.clean) in
    subst (λ (db : Trees). Explains db c.in-Err-load-2.fault) ((c.in-Ok-load.ensures.same second).now_is ∙ (c.in-Ok.ensures.same first).now_is)
    (outcomes_explain (now_in g.S.Store mid) c.in-Err-load-2.fault (c.in-Err-load-2.ensures.damage honest))

pub returns-in-Err-load-3-clause-damage : goal.returns-in-Err-load-3-clause-damage
returns-in-Err-load-3-clause-damage g c honest =
    let mid = c.load-3.new.self in
    let third : IsHonest g.S.Store mid = omega (arith, c.load-4.ensures.calm.clean) in
    let second : IsHonest g.S.Store c.load-2.new.self = omega (arith, third, c.load-3.ensures.calm.clean) in
    let first : IsHonest g.S.Store c.load.new.self = omega (arith, second, c.load-2.ensures.calm.clean) in
    subst (λ (db : Trees). Explains db c.in-Err-load-3.fault) ((c.in-Ok-load-2.ensures.same third).now_is ∙ (c.in-Ok-load.ensures.same second).now_is ∙ (c.in-Ok.ensures.same first).now_is)
    (desks_explain (now_in g.S.Store mid) c.in-Err-load-3.fault (c.in-Err-load-3.ensures.damage honest))

pub returns-in-Err-load-4-clause-damage : goal.returns-in-Err-load-4-clause-damage
returns-in-Err-load-4-clause-damage g c honest =
    let mid = c.load-4.new.self in
    let fourth : IsHonest g.S.Store mid = omega (arith, c.load-5.ensures.calm.clean) in
    let third : IsHonest g.S.Store c.load-3.new.self = omega (arith, fourth, c.load-4.ensures.calm.clean) in
    let second : IsHonest g.S.Store c.load-2.new.self = omega (arith, third, c.load-3.ensures.calm.clean) in
    let first : IsHonest g.S.Store c.load.new.self = omega (arith, second, c.load-2.ensures.calm.clean) in
    subst (λ (db : Trees). Explains db c.in-Err-load-4.fault)
    ((c.in-Ok-load-3.ensures.same fourth).now_is ∙ (c.in-Ok-load-2.ensures.same third).now_is ∙ (c.in-Ok-load.ensures.same second).now_is ∙ (c.in-Ok.ensures.same first).now_is)
    (keys_explain (now_in g.S.Store mid) c.in-Err-load-4.fault (c.in-Err-load-4.ensures.damage honest))
