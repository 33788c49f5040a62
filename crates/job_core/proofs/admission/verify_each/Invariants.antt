use Rattle.job_core.proofs.Admissions.{AreAcceptedTo}
use Rattle.job_core.proofs.admission.verify_each.Given as goal

abbrev pub invariant-loop-program : goal.invariant-loop-program
invariant-loop-program l = AreAcceptedTo l.programs l.program-index l.accepted.items
