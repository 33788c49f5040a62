use Rattle.telgovan_c.specs.Finishing.{failed, reported}
use Rattle.telgovan_c.proofs.finishing.outcome_of.Goals as goal

pub returns-in-Ok-clause-ok : goal.returns-in-Ok-clause-ok
returns-in-Ok-clause-ok c =
    let is = c.in-Ok.ensures.ok in
    reported c.in-Ok.report c.if-report-eq0.true is.0 is.1 is.2 is.3

pub returns-clause-ok : goal.returns-clause-ok
returns-clause-ok c = failed c.if-report-eq0.false
