use Rattle.job_answer.proofs.SoloCredit.{paid_for, solo_left}
use Rattle.job_answer.proofs.laws.credit_is_kept.Goals as goal

pub returns-clause-alone : goal.returns-clause-alone
returns-clause-alone c = λ program entries s last asked r0 ran. solo_left program entries r0 ran.0 last asked s ran.1

pub returns-clause-paid : goal.returns-clause-paid
returns-clause-paid c = λ programs o over. paid_for programs o over
