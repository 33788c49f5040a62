use Rattle.std.proofs.Common.{arith}
use Rattle.accounts.proofs.Ahead.{has_balance, no_grant}
use Rattle.accounts.proofs.desk.Desk.may_submit.Goals as goal

pub returns-in_default-clause-refused : goal.returns-in_default-clause-refused
returns-in_default-clause-refused c programs buffer = no_grant _ _ c.account.result c.account.ensures.account c.in_default.not-Ok

pub returns-then-from-account-clause-refused : goal.returns-then-from-account-clause-refused
returns-then-from-account-clause-refused c programs buffer =
    (c.in-Ok.account.balance, has_balance _ _ c.account.result c.in-Ok.account c.account.ensures.account c.in-Ok.is, omega (arith, c.if-from-account.true, c.from.ensures))

pub returns-clause-enough : goal.returns-clause-enough
returns-clause-enough c =
    (c.in-Ok.account.balance, has_balance _ _ c.account.result c.in-Ok.account c.account.ensures.account c.in-Ok.is, omega (arith, c.if-from-account.false, c.from.ensures))
