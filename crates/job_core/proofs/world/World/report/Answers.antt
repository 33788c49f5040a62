use Rattle.std.proofs.Common.{sym, subst}
use Rattle.job_core.specs.Representation.{WorldState, RepresentsJob}
use Rattle.job_core.proofs.Completion.{complete_book}
use Rattle.job_core.proofs.Reports.{report_of, in_some}
use Rattle.job_core.proofs.world.World.report.Goals as goal

pub returns-clause-some : goal.returns-clause-some
returns-clause-some c = rw (← c.self.view_is) (λ j behind.
    let all = complete_book c.self.inside.tasks j behind c.self.invariant.2 in
    let told = c.report.ensures.variant in
    (λ some. all.0 (told.0 some), λ done. told.1 (all.1 done)))

pub returns-clause-value : goal.returns-clause-value
returns-clause-value c = λ j behind.
    in_some c.report.result c.report.ensures.report (λ report some is.
    report_of c.self.inside.tasks j report.now (subst (λ (k : WorldState). RepresentsJob k j) (sym c.self.view_is) behind)
    ((returns-clause-some c j behind).0 some) is)
