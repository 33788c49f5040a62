use Rattle.std.proofs.Common.{ap, ◌∙◌, unwrap_or}
use Rattle.accounts.specs.Jobs.{report_of}
use Rattle.accounts.proofs.kept_jobs.share_report.Goals as goal

pub share-requires : goal.share-requires
share-requires c =
    let r = c.requires in
    (r.2.0, ap (λ o. report_of (unwrap_or o c.in-Some.entry.now).standing) (c.in-Some.ensures.value ∙ r.1) ∙ r.2.1)
