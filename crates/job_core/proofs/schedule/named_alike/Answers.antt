use Rattle.std.proofs.Common.{◌≡◌, ◌+◌, ◌-◌, arith, get_or, refl, subst}
use Rattle.job_core.proofs.Schedules.{AreNamed, more_named}
use Rattle.job_core.proofs.schedule.named_alike.Goals as goal

pub loop-named-preserved : goal.loop-named-preserved
loop-named-preserved c =
    let named = c.loop-named.named in
    let schedule = c.args.schedule.now in
    let all : named + (named + 16 - named) ≡ named + 16 = omega arith in
    let within = c.loop-named.invariant.1 in
    let room = c.loop-named-test.true in
    subst (λ m. AreNamed schedule m (get_or schedule 0 0)) all
    (more_named schedule named (named + 16 - named) (get_or schedule 0 0) c.loop-named.invariant (omega (arith, within, room)) (c.if-all_name.ensures.0 refl))
