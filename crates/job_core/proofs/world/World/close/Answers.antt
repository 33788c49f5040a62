use Rattle.std.proofs.Common.{sym, subst, ◌≡◌, ◌∙◌, ap, true, false}
use Rattle.std.specs.Result.{is_ok}
use Rattle.job_core.specs.Representation.{WorldState, RepresentsJob}
use Rattle.job_core.proofs.Completion.{complete_book}
use Rattle.job_core.proofs.Reports.{report_of}
use Rattle.job_core.proofs.world.World.close.Goals as goal

pub unreachable-requires : goal.unreachable-requires
unreachable-requires c =
    let behind = c.self.invariant.1 in
    let complete = (c.is_complete.ensures c.self.invariant.0 (subst (λ (k : WorldState). RepresentsJob k c.self.invariant.0) c.self.view_is behind)).0 c.if-not-is_complete.false in
    let ok = c.close.ensures.variant.1 ((complete_book c.self.inside.tasks c.self.invariant.0 behind c.self.invariant.2).1 complete) in
    let failed : false ≡ true = sym (ap is_ok c.in-Err.is) ∙ ok in cc

pub returns-clause-report : goal.returns-clause-report
returns-clause-report c = λ j behind.
    let complete = (c.is_complete.ensures j behind).0 c.if-not-is_complete.false in
    (complete, report_of c.self.inside.tasks j c.in-Ok.report (subst (λ (k : WorldState). RepresentsJob k j) (sym c.self.view_is) behind) complete (rw c.in-Ok.is at c.close.ensures.report))
