use Rattle.std.proofs.Common.{◌∙◌, refl, arith}
use Rattle.interpreter.specs.Representation.{at_slot, state_of}
use Rattle.interpreter.specs.Stretch.{spent_on}
use Rattle.virtual_machine.specs.Through.{GoesThrough}
use Rattle.virtual_machine.proofs.OwnTable.{own_table}
use Rattle.virtual_machine.proofs.SoloRunning.{enters, stretch_on, goes_on, ends}
use Rattle.virtual_machine.proofs.running.run_to_end.Goals as goal

pub loop-next-init : goal.loop-next-init
loop-next-init g c = record {
  covered = c.requires.covered;
  base = refl;
  holds = omega arith;
  entries = refl;
  way = λ registers stands. enters _ _ _ _ _ _ registers stands refl;
}

pub run_at-ran-requires-clause-children : goal.run_at-ran-requires-clause-children
run_at-ran-requires-clause-children g c =
    let inv = c.loop-next.invariant in
    let holds = inv.holds in
    let asked = c.requires.children c.loop-next.spawner inv.entries in
    record { each = λ child entry is cost share. asked.each child entry (rw (← inv.entries) is) cost (omega (arith, holds, share)) }

pub loop-next-preserved : goal.loop-next-preserved
loop-next-preserved g c =
    let inv = c.loop-next.invariant in
    let ran = c.run_at-ran.ensures.told in
    let same = c.run_at-ran.ensures.base ∙ inv.base in
    record {
      covered = c.run_at-ran.ensures.covered c.in-At.next c.in-At.is;
      base = same;
      holds = (let less = c.run_at-ran.ensures.holds in let before = inv.holds in omega (arith, less, before));
      entries = c.run_at-ran.ensures.entries ∙ inv.entries;
      way = λ registers stands.
          let w = stretch_on c.args.code.now (g.S.Spawner.entries c.args.spawner.now)
          (state_of (at_slot c.args.frame.now 0) c.args.part.now c.args.credit.now registers)
          (λ asked. GoesThrough g.S.Spawner.spawns c.args.part.now.base c.args.spawner.now asked c.loop-next.spawner)
          c.loop-next.whole c.loop-next.credit ran.before (at_slot c.loop-next.frame c.loop-next.slot) ran.mid c.loop-next.part ran.mid_part ran.goes
          (inv.way registers stands) in
          let both = rw inv.entries at (rw c.in-At.is at (ran.last_one w.registers w.stands)) in
          rw c.is_whole_after-whole.ensures (goes_on g.S.Spawner.spawns c.args.part.now.base c.args.code.now (g.S.Spawner.entries c.args.spawner.now)
          (state_of (at_slot c.args.frame.now 0) c.args.part.now c.args.credit.now registers)
          c.args.spawner.now c.loop-next.spawner c.run_at-ran.new.spawner ran.mid ran.mid_part (spent_on c.loop-next.credit ran.before)
          c.loop-next.whole c.run_at-ran.result.refused w
          (at_slot c.run_at-ran.new.self c.in-At.next) c.run_at-ran.new.part c.run_at-ran.new.credit same
          (λ helper arguments answer. g.S.Spawner.calls c.loop-next.spawner helper arguments answer c.run_at-ran.new.spawner)
          (own_table c.args.code.now c.requires.own) both.1 both.0);
    }

pub loop-next-smaller : goal.loop-next-smaller
loop-next-smaller g c =
    let covered = c.run_at-ran.ensures.covered c.in-At.next c.in-At.is in
    let affords = covered.affords in
    let spends = c.run_at-ran.ensures.spends in
    let holds = c.run_at-ran.ensures.holds in
    omega (arith, affords, spends, holds)

pub returns-in-Ended-clause-alone : goal.returns-in-Ended-clause-alone
returns-in-Ended-clause-alone g c = λ registers stands.
    let inv = c.loop-next.invariant in
    let ran = c.run_at-ran.ensures.told in
    let same = c.run_at-ran.ensures.base ∙ inv.base in
    let w = stretch_on c.args.code.now (g.S.Spawner.entries c.args.spawner.now)
    (state_of (at_slot c.args.frame.now 0) c.args.part.now c.args.credit.now registers)
    (λ asked. GoesThrough g.S.Spawner.spawns c.args.part.now.base c.args.spawner.now asked c.loop-next.spawner)
    c.loop-next.whole c.loop-next.credit ran.before (at_slot c.loop-next.frame c.loop-next.slot) ran.mid c.loop-next.part ran.mid_part ran.goes
    (inv.way registers stands) in
    let both = rw inv.entries at (rw c.in-Ended.is at (ran.last_one w.registers w.stands)) in
    rw c.is_whole_after-whole.ensures (ends g.S.Spawner.spawns c.args.part.now.base c.args.code.now (g.S.Spawner.entries c.args.spawner.now)
    (state_of (at_slot c.args.frame.now 0) c.args.part.now c.args.credit.now registers)
    c.args.spawner.now c.loop-next.spawner c.run_at-ran.new.spawner ran.mid ran.mid_part (spent_on c.loop-next.credit ran.before)
    c.loop-next.whole c.run_at-ran.result.refused w
    (at_slot c.run_at-ran.new.self ran.mid.slot) c.run_at-ran.new.part c.run_at-ran.new.credit same
    (λ helper arguments answer. g.S.Spawner.calls c.loop-next.spawner helper arguments answer c.run_at-ran.new.spawner) c.in-Ended.r0 _ both.1 both.0)

pub returns-in-Ended-clause-base : goal.returns-in-Ended-clause-base
returns-in-Ended-clause-base g c = c.run_at-ran.ensures.base ∙ c.loop-next.invariant.base

pub returns-in-Ended-clause-entries : goal.returns-in-Ended-clause-entries
returns-in-Ended-clause-entries g c = c.run_at-ran.ensures.entries ∙ c.loop-next.invariant.entries
