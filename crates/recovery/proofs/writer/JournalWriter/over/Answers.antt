use Rattle.recovery.proofs.CrashLemmas.{keeps_start}
use Rattle.recovery.proofs.writer.JournalWriter.over.Goals as goal

pub returns-clause-records : goal.returns-clause-records
returns-clause-records g c history fits log = keeps_start history _ fits log
