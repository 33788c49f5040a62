use Rattle.job_answer.proofs.Desking.{desk_spawn, desk_park, desk_claim, desk_end, desk_once}
use Rattle.job_answer.proofs.laws.registers_agree.Goals as goal

pub returns-clause-spawn : goal.returns-clause-spawn
returns-clause-spawn c = λ known history parent child program share arg base len b desk may by p s a.
    desk_spawn known history desk parent child program share arg base len b may by p s a

pub returns-clause-park : goal.returns-clause-park
returns-clause-park c = λ known history n desk may. desk_park known history desk n may

pub returns-clause-claim : goal.returns-clause-claim
returns-clause-claim c = λ known history n desk alive. desk_claim known history desk n alive

pub returns-clause-end : goal.returns-clause-end
returns-clause-end c = λ known history o desk may. desk_end known history desk o may

pub returns-clause-once : goal.returns-clause-once
returns-clause-once c = λ known history desk complete. desk_once known history desk complete
