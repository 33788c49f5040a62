use Rattle.std.proofs.Common.{List, ap, map, subst}
use Rattle.std.specs.Prelude.{All}
use Rattle.std.proofs.lemmas.Result.{IfOk-weaker}
use Rattle.verifier.specs.Checked.{Checked, program_of}
use Rattle.job_core.specs.Admitted.{AdmittedJob}
use Rattle.job_answer.specs.OneAnswer.{HasOneAnswer}
use Rattle.job_answer.proofs.Closing.{closes}
use Rattle.job_answer.proofs.OverLemmas.{closes_weaker}
use Rattle.workers.specs.EndedAlone.{EndedAlone}
use Rattle.workers.specs.Heard.{HasHeard}
use Rattle.workers.proofs.AloneLemmas.{all_alone}
use Rattle.workers.proofs.HeardLemmas.{all_heard}
use Rattle.workers.proofs.run.run_job.Goals as goal

pub returns-clause-alone : goal.returns-clause-alone
returns-clause-alone g c =
    let parts = c.into_parts-programs.ensures.parts in
    IfOk-weaker c.run_as.result _ _
    (λ report h. subst (λ (ps : List Checked). All (EndedAlone ps) report.tasks.items) (ap (λ (j : AdmittedJob). j.programs) parts)
    (all_alone c.into_parts-programs.result.0.items _ _ _ _ report (closes_weaker _ _ (λ o r. r.0) _ _ _ _ report h))) c.run_as.ensures.closes

pub returns-clause-answer : goal.returns-clause-answer
returns-clause-answer g c =
    let parts = c.into_parts-programs.ensures.parts in
    IfOk-weaker c.run_as.result _ _
    (λ report h all.
    subst (λ (j : AdmittedJob). HasOneAnswer (map program_of j.programs) c.args.job.credit j.buffer report) parts
    (subst (λ credit. HasOneAnswer (map program_of c.into_parts-programs.result.0.items) credit c.into_parts-programs.result.2.items report) c.requires.post
    (closes (map program_of c.into_parts-programs.result.0.items) _ c.args.post.board.issued c.into_parts-programs.result.2.items report (closes_weaker _ _ (λ o r. r.0) _ _ _ _ report h) all)))
    c.run_as.ensures.closes

pub returns-clause-heard : goal.returns-clause-heard
returns-clause-heard g c =
    IfOk-weaker c.run_as.result _ _
    (λ report h. all_heard g.G.Gate.begins g.G.Gate.ends c.args.gate.now _ (λ o r. r.1) _ _ _ _ report h) c.run_as.ensures.closes
