use Rattle.std.proofs.Common.{ap, drop, rules}
use Rattle.keyed_desk.proofs.keyed_change.read_key_kept.Goals as goal

pub returns-in-Err-NoValue-clause-refused : goal.returns-in-Err-NoValue-clause-refused
returns-in-Err-NoValue-clause-refused c is job key same = c.in-Err-NoValue.ensures.refused (search rules) (job, record { bytes = key }) (ap (drop 1) same)
