use Rattle.std.proofs.Common.{◌≡◌, List, subst}
use Rattle.accounts.specs.declared.jobs.JobEntry.{JobEntry}
use Rattle.accounts.specs.Listing.{listed_from}
use Rattle.accounts.proofs.Listings.{kept_from_gone}
use Rattle.accounts.proofs.job_list.Jobs.kept_from.Goals as goal

pub returns-clause-same : goal.returns-clause-same
returns-clause-same c =
    subst (λ (jobs : List JobEntry). listed_from jobs c.kept_from.result ≡ listed_from jobs c.args.number) c.self.view_is
    (kept_from_gone c.self.inside.inner c.self.invariant c.args.number c.kept_from.result c.requires c.kept_from.ensures.later c.kept_from.ensures.gone)
