use Rattle.accounts.proofs.KeptOnes.{both_ok, kept_ones}
use Rattle.accounts.proofs.desk.Desk.kept_accounts.Goals as goal

pub returns : goal.returns
returns c = rw (← c.self.view_is)
    (both_ok c.list_accounts.result _ _ _ (λ accounts sorted same. kept_ones c.self.inside.tenants c.self.inside.jobs c.self.invariant sorted accounts.items same)
    c.list_accounts.ensures.ordered c.list_accounts.ensures.kept)
