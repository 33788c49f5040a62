use Rattle.std.proofs.Common.{refl}
use Rattle.recovery.proofs.CrashLemmas.{at_same, at_sync}
use Rattle.recovery.proofs.writer.JournalWriter.commit.Goals as goal

pub returns-then-self-clause-any_moment : goal.returns-then-self-clause-any_moment
returns-then-self-clause-any_moment g c history committed bytes j s =
    at_same c.cut_anywhere.ensures history committed _ _ _ bytes j refl s

pub returns-in-Ok-clause-any_moment : goal.returns-in-Ok-clause-any_moment
returns-in-Ok-clause-any_moment g c history committed bytes j s =
    at_sync c.cut_anywhere.ensures history committed _ _ _ bytes j c.in-Ok.ensures.ok s

pub returns-in-Err-clause-any_moment : goal.returns-in-Err-clause-any_moment
returns-in-Err-clause-any_moment g c history committed bytes j s =
    at_same c.cut_anywhere.ensures history committed _ _ _ bytes j c.in-Err.ensures.err s
