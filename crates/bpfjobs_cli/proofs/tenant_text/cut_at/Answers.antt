use Rattle.std.proofs.Common.{◌≤◌, List, ℕ, length, rules, subst, sym}
use Rattle.bpfjobs_cli.proofs.TenantLemmas.{front_is, within}
use Rattle.bpfjobs_cli.proofs.tenant_text.cut_at.Goals as goal

pub overflow_sub-text : goal.overflow_sub-text
overflow_sub-text c = subst (λ (l : List ℕ). length l ≤ length c.args.text.now) (sym c.past_part-rest.ensures) (within c.args.delimiter c.args.text.now)

pub returns-clause-front : goal.returns-clause-front
returns-clause-front c =
    let is = front_is c.args.delimiter c.args.text.now in
    search (rules, is)
