use Rattle.workers.proofs.RefusalLemmas.{closes_each_whole}
use Rattle.workers.proofs.run.run_whole_as.Goals.{in-Some-refused, in-None-refused}
use Rattle.workers.proofs.run.run_whole_as.Goals as goal

-- a report is told where no task has told a refusal
pub returns-in-Ok-clause-closes : goal.returns-in-Ok-clause-closes
returns-in-Ok-clause-closes g c =
    elim c.match-closed.branch [
      | in-Some-refused w ↦ rw w.result-is tt
      | in-None-refused w ↦ rw w.result-is (closes_each_whole _ _ _ _ _ _ _ c.in-Ok.ensures.closes w.in-None-refused.is)
    ]
