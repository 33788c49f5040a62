use Rattle.std.proofs.Common.{[], Result, ℕ, subst, inl, inr}
use Rattle.std.proofs.lemmas.Result.{IfOk-weaker}
use Rattle.credit_book.specs.declared.book.Report.{Report}
use Rattle.accounts.specs.Ledgers.{Finishes}
use Rattle.desk_recorder.proofs.Composed.{records_nothing}
use Rattle.desk_recorder.proofs.recorded_ends.end_job.Goals as goal

pub returns-in-Ok-clause-noted : goal.returns-in-Ok-clause-noted
returns-in-Ok-clause-noted g c =
    inl (subst (λ (o : Result Report ℕ). Finishes c.args.desk.now c.args.number o c.finish.new.self) c.end_record-record.ensures.same c.in-Ok.ensures.finished)

pub returns-in-Ok-clause-records : goal.returns-in-Ok-clause-records
returns-in-Ok-clause-records g c =
    let over = subst (λ (o : Result Report ℕ). Finishes c.args.desk.now c.args.number o c.finish.new.self) c.end_record-record.ensures.same c.in-Ok.ensures.finished in
    c.note.ensures c.args.desk.now c.finish.new.self [] (IfOk-weaker c.end_record-record.result.0 _ _ (λ bytes are. are c.args.desk.now c.finish.new.self over) c.end_record-record.ensures.record)

pub returns-in-Err-clause-noted : goal.returns-in-Err-clause-noted
returns-in-Err-clause-noted g c = inr (c.in-Err.ensures.refused.1, c.in-Err.ensures.unchanged)

pub returns-in-Err-clause-records : goal.returns-in-Err-clause-records
returns-in-Err-clause-records g c = records_nothing g.Q.RecordQueue.taken g.Q.RecordQueue.has_failed c.args.recorder.now c.args.desk.now c.finish.new.self c.in-Err.ensures.unchanged
