use Rattle.std.proofs.Common.{refl}
use Rattle.desk_recorder.proofs.Composed.{records_nothing}
use Rattle.tenant_recorder.proofs.Credited.{granted_before, granted_now}
use Rattle.tenant_recorder.proofs.desk_credits.credit_at.Goals as goal

pub returns-in_default-clause-records : goal.returns-in_default-clause-records
returns-in_default-clause-records g c = records_nothing g.Q.RecordQueue.taken g.Q.RecordQueue.has_failed c.args.recorder.now c.args.desk.now c.args.desk.now refl

pub returns-then-is_ok-clause-credited : goal.returns-then-is_ok-clause-credited
returns-then-is_ok-clause-credited g c =
    granted_before c.args.name.now c.args.credit c.in-Some.amount c.args.desk.now c.account.result c.is_ok.result c.in-Some.is c.account.ensures.account c.is_ok.ensures.value c.if-is_ok.true

pub returns-then-is_ok-clause-records : goal.returns-then-is_ok-clause-records
returns-then-is_ok-clause-records g c = records_nothing g.Q.RecordQueue.taken g.Q.RecordQueue.has_failed c.args.recorder.now c.args.desk.now c.args.desk.now refl

pub returns-in-Ok-clause-credited : goal.returns-in-Ok-clause-credited
returns-in-Ok-clause-credited g c =
    granted_now c.args.name.now c.args.credit c.in-Some.amount c.args.desk.now c.grant_recorded.new.desk c.account.result c.is_ok.result c.in-Some.is c.account.ensures.account c.is_ok.ensures.value c.if-is_ok.false c.in-Ok.ensures.granted
