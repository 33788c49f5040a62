use Rattle.std.proofs.Common.{◌≡◌, ◌≢◌, ap, ◌∙◌, refl, rules, subst, Some}
use Rattle.std.specs.Arc.{arc_value}
use Rattle.helpers.specs.Table.{job_table}
use Rattle.verifier.specs.Checked.{Checked}
use Rattle.telgovan_c.specs.declared.boxed.Boxed.{Boxed}
use Rattle.std.specs.Prelude.{length}
use Rattle.telgovan_c.specs.Runs.{RunInTurn}
use Rattle.telgovan_c.specs.Programs.{may_ask, ran, shown}
use Rattle.telgovan_c.proofs.programs.run_held_all.Goals as goal

-- what was taken out is what the handle held
pub returns-then-is_hosted-clause-runs : goal.returns-then-is_hosted-clause-runs
returns-then-is_hosted-clause-runs c =
    let held : c.args.program.held.kept ≡ Some c.in-Some.boxed.value = search rules in
    let hosts : (arc_value c.in-Some.boxed.value.program).helpers ≢ job_table =
    subst (λ (b : Boxed). (arc_value b.program).helpers ≢ job_table) c.deref.ensures (c.is_hosted.ensures.beside c.if-is_hosted.true) in
    may_ask (arc_value c.in-Some.boxed.value.program) (ap shown held) hosts refl refl refl

pub returns-else-is_hosted-clause-runs : goal.returns-else-is_hosted-clause-runs
returns-else-is_hosted-clause-runs c =
    let held : c.args.program.held.kept ≡ Some c.in-Some.boxed.value = search rules in
    let own : (arc_value c.in-Some.boxed.value.program).helpers ≡ job_table =
    subst (λ (b : Boxed). (arc_value b.program).helpers ≡ job_table) c.deref.ensures (c.is_hosted.ensures.own c.if-is_hosted.false) in
    let is : c.program.result.now ≡ arc_value c.in-Some.boxed.value.program =
    c.program.ensures.program ∙ ap (λ (b : Boxed). arc_value b.program) c.deref-in-Some.ensures in
    ran (arc_value c.in-Some.boxed.value.program) (ap shown held) own c.run_all.ensures.length
    (subst (λ (p : Checked). RunInTurn p c.args.credit c.args.memory.now c.args.runs.now c.run_all.new.runs (length c.args.runs.now) c.run_all.new.memory)
    is c.run_all.ensures.runs) refl
