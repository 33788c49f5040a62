use Rattle.std.proofs.Common.{ap, drop, rules}
use Rattle.keyed_desk.proofs.keyed_change.read_by_key.Goals as goal

pub returns-in-Err-NoValue-clause-refused : goal.returns-in-Err-NoValue-clause-refused
returns-in-Err-NoValue-clause-refused c is key change same = c.in-Err-NoValue.ensures.refused (search rules) (record { bytes = key }, change) (ap (drop 1) same)
