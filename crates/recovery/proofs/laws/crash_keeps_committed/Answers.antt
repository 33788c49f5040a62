use Rattle.recovery.proofs.CrashLemmas.{crash}
use Rattle.recovery.proofs.laws.crash_keeps_committed.Goals as goal

pub returns : goal.returns
returns c = crash c.cut_anywhere.ensures
