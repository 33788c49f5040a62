use Rattle.verifier.specs.Checked.{Checked}
use Rattle.telgovan_c.specs.Traces.{ran}
use Rattle.telgovan_c.proofs.TraceLemmas.{has_run, not_run, runs_to_end}
use Rattle.telgovan_c.proofs.traces.trace_program.Goals as goal

pub write_steps-requires : goal.write_steps-requires
write_steps-requires c =
    let p : Checked = c.args.program.now in
    let outcome = rw (c.deref_mut.ensures.value, c.in-Ok.ensures) at c.run_program-done.ensures in
    record {
      runs = runs_to_end p c.requires.accepted.0 c.args.code.now c.args.argument c.args.credit c.args.memory.now c.requires.accepted.1
          (has_run p c.args.argument c.args.credit c.args.memory.now _ c.run_program-done.result outcome c.if-done-ne0.false);
    }

pub returns-then-done-ne0 : goal.returns-then-done-ne0
returns-then-done-ne0 c =
    let outcome = rw (c.deref_mut.ensures.value, c.in-Ok.ensures) at c.run_program-done.ensures in
    not_run c.args.program.now c.args.code.now c.args.source.now c.args.argument c.args.credit c.args.memory.now _ c.args.room.now c.run_program-done.result c.refused_text-then-done-ne0.result
    outcome c.if-done-ne0.true c.refused_text-then-done-ne0.ensures

pub returns : goal.returns
returns c =
    let outcome = rw (c.deref_mut.ensures.value, c.in-Ok.ensures) at c.run_program-done.ensures in
    let has = has_run c.args.program.now c.args.argument c.args.credit c.args.memory.now _ c.run_program-done.result outcome c.if-done-ne0.false in
    ran has.small has.fits has.r0 has.used has.left has.executes c.write_steps.ensures
