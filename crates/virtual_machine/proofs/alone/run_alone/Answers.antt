use Rattle.std.proofs.Common.{◌∙◌, refl, ap, arith}
use Rattle.interpreter.specs.declared.frame.Frame.{Frame}
use Rattle.interpreter.specs.Representation.{at_slot, lent}
use Rattle.virtual_machine.specs.Functions.{call_answers}
use Rattle.virtual_machine.proofs.AloneLemmas.{enters, goes_far, goes_on, ends}
use Rattle.virtual_machine.proofs.Answering.{are_answers}
use Rattle.virtual_machine.proofs.alone.run_alone.Goals as goal

pub loop-next-init : goal.loop-next-init
loop-next-init g c = record {
  way = enters c.args.code.now (call_answers c.args.functions.now.places.items) c.args.arg c.args.credit _ (lent c.args.bytes.now) (at_slot c.enter.new.self 0)
      (omega (arith, c.ranges.arg)) c.requires.verified c.requires.need refl c.requires.small c.requires.cost c.requires.limit (ap (λ (f : Frame). at_slot f 0) c.enter.ensures);
  functions = refl;
}

pub returns-in-Ended-clause-runs : goal.returns-in-Ended-clause-runs
returns-in-Ended-clause-runs g c =
    let ran = c.run_on-ran.ensures.ran in
    let way = goes_far _ _ _ _ _ _ c.loop-next.invariant.way ran.before ran.mid ran.mid_part ran.goes in
    let end = ends _ _ _ _ _ _ way _ _ _ _ _ _ c.in-Ended.r0 (rw c.in-Ended.is at (ran.last_one way.registers way.behind)) in
    record { last = end.0; ends = end.1; uses = end.5; leaves = end.2 }

pub returns-in-Ended-clause-functions : goal.returns-in-Ended-clause-functions
returns-in-Ended-clause-functions g c =
    let ran = c.run_on-ran.ensures.ran in
    let way = goes_far _ _ _ _ _ _ c.loop-next.invariant.way ran.before ran.mid ran.mid_part ran.goes in
    let end = ends _ _ _ _ _ _ way _ _ _ _ _ _ c.in-Ended.r0 (rw c.in-Ended.is at (ran.last_one way.registers way.behind)) in
    end.4 ∙ c.loop-next.invariant.functions

pub loop-next-preserved : goal.loop-next-preserved
loop-next-preserved g c =
    let ran = c.run_on-ran.ensures.ran in
    let way = goes_far _ _ _ _ _ _ c.loop-next.invariant.way ran.before ran.mid ran.mid_part ran.goes in
    let quiet = c.loop-next.invariant.functions in
    let did = rw c.in-At.is at (ran.last_one way.registers way.behind) in
    let on = goes_on _ _ _ _ _ _ way _ _ _ _ _ _ (are_answers c.args.code.now c.args.functions.now c.loop-next.functions c.run_on-ran.new.spawner quiet
    c.requires.functions) did (c.run_on-ran.ensures.covered c.in-At.next c.in-At.is) in
    record { way = on.0; functions = on.1 ∙ quiet }

pub loop-next-smaller : goal.loop-next-smaller
loop-next-smaller g c =
    let covered = c.run_on-ran.ensures.covered c.in-At.next c.in-At.is in
    let affords = covered.affords in
    let spends = c.run_on-ran.ensures.spends in
    let holds = c.run_on-ran.ensures.holds in
    omega (arith, affords, spends, holds)
