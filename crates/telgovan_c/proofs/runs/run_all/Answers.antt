use Rattle.std.proofs.Common.{arith, ◌∙◌, sym}
use Rattle.std.specs.Prelude.{get_or}
use Rattle.std.proofs.lemmas.Option.{slice_get-get_or}
use Rattle.std.proofs.lemmas.List.{length-set}
use Rattle.machine_model.proofs.Places.{set_other}
use Rattle.telgovan_c.specs.declared.runs.Run.{Run}
use Rattle.telgovan_c.specs.Runs.{with_outcome}
use Rattle.telgovan_c.proofs.Turns.{turn_more}
use Rattle.telgovan_c.proofs.runs.run_all.Goals as goal

pub loop-done-preserved : goal.loop-done-preserved
loop-done-preserved c =
    let so_far = c.loop-done.invariant in
    let blank : Run = record { start = 0; length = 0; argument = 0; outcome = record { r0 = 0; status = 0; used = 0 } } in
    let run : Run = get_or c.loop-done.runs c.loop-done.done blank in
    let told : Run = with_outcome run c.run_at-outcome.result in
    let within = c.loop-done-test.true in
    let there = slice_get-get_or c.loop-done.runs c.loop-done.done blank within in (
      omega (arith, within, so_far.1),
      length-set c.loop-done.runs c.loop-done.done told ∙ so_far.1,
      λ k from. set_other c.loop-done.runs c.loop-done.done k told (λ is. omega (arith, is, from)) ∙ so_far.2 k (omega (arith, from)),
      turn_more c.args.program.now c.args.credit c.args.memory.now c.args.runs.now c.loop-done.runs c.loop-done.done c.loop-done.memory c.run_at-outcome.new.memory run
          c.run_at-outcome.result within (sym (so_far.2 c.loop-done.done (omega arith)) ∙ there) so_far.3
          c.run_at-outcome.ensures,
    )
