use Rattle.std.proofs.Common.{map, subst}
use Rattle.std.proofs.lemmas.Result.{IfOk-weaker}
use Rattle.verifier.specs.Checked.{program_of}
use Rattle.job_core.specs.Admitted.{AdmittedJob}
use Rattle.job_answer.specs.OneAnswer.{IsJobAnswer}
use Rattle.job_answer.proofs.OneAnswers.{closes_whole}
use Rattle.job_answer.proofs.OverLemmas.{closes_weaker}
use Rattle.workers.proofs.HeardLemmas.{all_heard}
use Rattle.workers.proofs.run.run_whole.Goals as goal

pub returns-clause-answer : goal.returns-clause-answer
returns-clause-answer g c =
    let parts = c.into_parts-programs.ensures.parts in
    IfOk-weaker c.run_whole_as.result _ _
    (λ report h.
    subst (λ (j : AdmittedJob). IsJobAnswer (map program_of j.programs) c.args.job.credit j.buffer report) parts
    (subst (λ credit. IsJobAnswer (map program_of c.into_parts-programs.result.0.items) credit c.into_parts-programs.result.2.items report) c.requires.post
    (closes_whole (map program_of c.into_parts-programs.result.0.items) _ c.args.post.board.issued c.into_parts-programs.result.2.items report
    (closes_weaker _ _ (λ o r. (r.0.0, r.1)) _ _ _ _ report h)))) c.run_whole_as.ensures.closes

pub returns-clause-heard : goal.returns-clause-heard
returns-clause-heard g c =
    IfOk-weaker c.run_whole_as.result _ _
    (λ report h. all_heard g.G.Gate.begins g.G.Gate.ends c.args.gate.now _ (λ o r. r.0.1) _ _ _ _ report h) c.run_whole_as.ensures.closes
