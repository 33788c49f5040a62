use Rattle.recovery.proofs.CrashLemmas.{crash_between}
use Rattle.recovery.proofs.laws.crash_between_keeps_committed.Goals as goal

pub returns : goal.returns
returns c = crash_between c.cut_anywhere.ensures
