use Rattle.std.proofs.Common.{[], inl, inr, refl, rules}
use Rattle.std.proofs.lemmas.Result.{IfOk-weaker}
use Rattle.desk_recorder.proofs.Composed.{records_nothing}
use Rattle.desk_recorder.proofs.recorded_answers.keep_recorded.Goals as goal

pub returns-then-not-recorder-clause-kept : goal.returns-then-not-recorder-clause-kept
returns-then-not-recorder-clause-kept g c = inr (refl, search rules)

pub returns-then-not-recorder-clause-records : goal.returns-then-not-recorder-clause-records
returns-then-not-recorder-clause-records g c = records_nothing g.Q.RecordQueue.taken g.Q.RecordQueue.has_failed c.args.recorder.now c.args.desk.now c.args.desk.now refl

pub returns-then-ahead-eq0-clause-kept : goal.returns-then-ahead-eq0-clause-kept
returns-then-ahead-eq0-clause-kept g c = inl c.keep_within-ahead.ensures.kept

pub returns-then-ahead-eq0-clause-records : goal.returns-then-ahead-eq0-clause-records
returns-then-ahead-eq0-clause-records g c =
    records_nothing g.Q.RecordQueue.taken g.Q.RecordQueue.has_failed c.args.recorder.now c.args.desk.now c.keep_within-ahead.new.self
    (c.keep_within-ahead.ensures.forgets.same c.if-ahead-eq0.true)

pub returns-clause-kept : goal.returns-clause-kept
returns-clause-kept g c = inl c.keep_within-ahead.ensures.kept

pub returns-clause-records : goal.returns-clause-records
returns-clause-records g c =
    c.note.ensures c.args.desk.now c.keep_within-ahead.new.self []
    (IfOk-weaker c.forgetting_record.result _ _ (λ bytes is. is c.args.desk.now c.keep_within-ahead.new.self c.keep_within-ahead.ensures.forgets.forgets) c.forgetting_record.ensures.record)
