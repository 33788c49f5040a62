use Rattle.std.proofs.Common.{◌≡◌, length, sym, ap, ◌∙◌, arith}
use Rattle.accounts.specs.Numbered.{entry_at}
use Rattle.accounts.proofs.Listed.{listed_length}
use Rattle.accounts.proofs.job_list.Jobs.room.Goals as goal

pub overflow_sub-result : goal.overflow_sub-result
overflow_sub-result c = let few = c.self.invariant.few in omega (arith, few)

pub returns : goal.returns
returns c =
    let k = c.self.inside.inner in
    let long : length c.args.self.now ≡ k.count = sym (ap length c.self.view_is) ∙ listed_length (entry_at k) k.gone k.count in
    let few = c.self.invariant.few in
    omega (arith, long, few)
