use Rattle.std.proofs.Common.{◌≡◌, ◌≢◌, ap, ◌∙◌, refl, rules, subst, Some}
use Rattle.std.specs.Arc.{arc_value}
use Rattle.helpers.specs.Table.{job_table}
use Rattle.verifier.specs.Checked.{Checked}
use Rattle.telgovan_c.specs.declared.boxed.Boxed.{Boxed}
use Rattle.telgovan_c.specs.Runs.{IsRunOutcome}
use Rattle.telgovan_c.specs.Programs.{may_ask, ran, shown}
use Rattle.telgovan_c.proofs.programs.run_held.Goals as goal

-- what was taken out is what the handle held
pub returns-then-is_hosted-clause-run : goal.returns-then-is_hosted-clause-run
returns-then-is_hosted-clause-run c =
    let held : c.args.program.held.kept ≡ Some c.in-Some.boxed.value = search rules in
    let hosts : (arc_value c.in-Some.boxed.value.program).helpers ≢ job_table =
    subst (λ (b : Boxed). (arc_value b.program).helpers ≢ job_table) c.deref.ensures (c.is_hosted.ensures.beside c.if-is_hosted.true) in
    may_ask (arc_value c.in-Some.boxed.value.program) (ap shown held) hosts refl c.refused_run.ensures

pub returns-else-is_hosted-clause-run : goal.returns-else-is_hosted-clause-run
returns-else-is_hosted-clause-run c =
    let held : c.args.program.held.kept ≡ Some c.in-Some.boxed.value = search rules in
    let own : (arc_value c.in-Some.boxed.value.program).helpers ≡ job_table =
    subst (λ (b : Boxed). (arc_value b.program).helpers ≡ job_table) c.deref.ensures (c.is_hosted.ensures.own c.if-is_hosted.false) in
    let is : c.program.result.now ≡ arc_value c.in-Some.boxed.value.program =
    c.program.ensures.program ∙ ap (λ (b : Boxed). arc_value b.program) c.deref-in-Some.ensures in
    ran (arc_value c.in-Some.boxed.value.program) (ap shown held) own
    (subst (λ (p : Checked). IsRunOutcome p c.args.argument c.args.credit c.args.memory.now c.run_program-outcome.new.bytes c.run_program-outcome.result)
    is c.run_program-outcome.ensures)
