use Rattle.std.proofs.Common.{◌≡◌, ◌∙◌, ◌≤◌, arith, length, sym, ap, subst}
use Rattle.job_core.specs.declared.tasks.Stepped.TheVariants.{Went}
use Rattle.job_core.proofs.InOrder.{none_run, one_run, all_run}
use Rattle.job_core.proofs.lowest.play_lowest.Goals as goal

pub loop-number-init : goal.loop-number-init
loop-number-init c = none_run c.args.job c.in_ok-world.world c.in_ok-world.ensures.programs c.in_ok-world.ensures.start

pub loop-number-preserved : goal.loop-number-preserved
loop-number-preserved c =
    let whole = c.run.ensures.whole in
    let few = c.run.ensures.few in
    one_run c.args.job c.loop-number.number c.run.result.0 c.run.result.1 c.loop-number.world c.run.new.self c.run.ensures.programs
    (λ is. let all = whole is in absurd (omega (arith, all, few))) c.run.ensures.runs c.loop-number.invariant

pub returns : goal.returns
returns c =
    let so_far = c.loop-number.invariant in
    let closed = c.in-Ok.ensures.report so_far.reached so_far.behind in
    record { last = so_far.reached; steps = so_far.steps; complete = closed.0; reported = closed.1 }

pub unreachable-requires : goal.unreachable-requires
unreachable-requires c =
    let so_far = c.loop-number.invariant in
    let count = c.len.ensures.count so_far.reached so_far.behind in
    let past : length so_far.reached.tasks ≤ c.loop-number.number = omega (arith, count, c.loop-number-test.false) in
    absurd (c.in-Err.ensures.world.1 so_far.reached so_far.behind (all_run c.args.job c.loop-number.number c.loop-number.world so_far past))
