use Rattle.std.proofs.Common.{[], refl}
use Rattle.keyed_desk.proofs.PlainChanges.{keyed, lifted, without_keys}
use Rattle.keyed_desk.proofs.laws.plain_changes_lead_to_desks.Goals as goal

pub returns-clause-plain : goal.returns-clause-plain
returns-clause-plain c changes state after =
    let low = without_keys changes after.0 state after.2 in
    (low.0, low.1, (after.0.desk, after.1.0, low.2))

pub returns-clause-unkeyed : goal.returns-clause-unkeyed
returns-clause-unkeyed c changes state after = (keyed after.0 [], (after.1, refl), lifted changes after.0 state [] after.2)
