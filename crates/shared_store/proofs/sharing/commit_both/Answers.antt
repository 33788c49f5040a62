use Rattle.std.proofs.Common.{rules, ◌≡◌, Some, slice_get}
use Rattle.std.proofs.lemmas.Result.{IfOk-weaker}
use Rattle.shared_store.proofs.sharing.commit_both.Goals as goal

pub returns-clause-stand : goal.returns-clause-stand
returns-clause-stand g c =
    let one : slice_get c.in_ok-one.one.0 c.in_ok-one.one.1 ≡ Some c.args.first = search rules in
    let two : slice_get c.in_ok-two.two.0 c.in_ok-two.two.1 ≡ Some c.args.second = search rules in
    IfOk-weaker c.told.result _ _ (λ r stands. stands c.args.first c.args.second one two) c.told.ensures.stand
