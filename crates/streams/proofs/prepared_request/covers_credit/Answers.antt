use Rattle.std.proofs.lemmas.Bool.{le-leb, leb-true}
use Rattle.streams.proofs.Answered.{within_balance}
use Rattle.streams.proofs.prepared_request.covers_credit.Goals as goal

pub returns-in-Ok : goal.returns-in-Ok
returns-in-Ok c =
    let covered = within_balance c.args.desk.now c.args.tenant.now c.args.credit c.account.result c.in-Ok.account c.account.ensures.account c.in-Ok.is in
    rw c.from.ensures (λ t. covered.0 (leb-true _ _ t), λ w. le-leb _ _ (covered.1 w))
