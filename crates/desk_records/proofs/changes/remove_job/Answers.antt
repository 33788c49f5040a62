use Rattle.std.proofs.Common.{rules, to_z-of_z, SFits, w64}
use Rattle.desk_records.proofs.changes.remove_job.Goals as goal

pub returns-in-Ok-clause-ok : goal.returns-in-Ok-clause-ok
returns-in-Ok-clause-ok g c =
    let fits : SFits w64 c.in-Ok.id = search rules in
    rw c.in-Ok.ensures.ok at (simp to_z-of_z at c.remove_rows.ensures.ok)
