use Rattle.std.proofs.Common.{length, sym, ap, ◌∙◌}
use Rattle.accounts.specs.Numbered.{entry_at}
use Rattle.accounts.proofs.Listed.{listed_length}
use Rattle.accounts.proofs.job_list.Jobs.count.Goals as goal

pub returns : goal.returns
returns c = let k = c.self.inside.inner in sym (listed_length (entry_at k) k.gone k.count) ∙ ap length c.self.view_is
