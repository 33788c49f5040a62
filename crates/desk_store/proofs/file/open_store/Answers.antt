use Rattle.std.proofs.Common.{inr, refl}
use Rattle.desk_store.proofs.file.open_store.Goals as goal

pub returns-in-None-clause-refused : goal.returns-in-None-clause-refused
returns-in-None-clause-refused g c = inr (inr (c.in_ok-conn.conn, c.in_ok-conn.ensures, c.in-None.ensures.none, refl))
