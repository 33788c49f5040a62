use Rattle.std.proofs.Common.{◌≡◌, [], false, sym}
use Rattle.streams.specs.Prepared.{asked_of}
use Rattle.desk_recorder.proofs.Composed.{records_keyed, unkeyed}
use Rattle.desk_recorder.proofs.Answered.{recorded_err, recorded_ok, tells_kept_or_same}
use Rattle.desk_recorder.proofs.recorded_answers.answer_recorded.Goals as goal

pub returns-clause-refusal : goal.returns-clause-refusal
returns-clause-refusal g c =
    tells_kept_or_same c.args.keep c.reply_recorded-refusal.new.desk c.keep_recorded.new.desk (c.reply_recorded-refusal.new.recorder.has_changed ≡ false) (asked_of c.args.request) c.reply_recorded-refusal.result.0 c.reply_recorded-refusal.result.1
    c.keep_recorded.ensures.kept c.reply_recorded-refusal.ensures.refusal

pub returns-clause-ok : goal.returns-clause-ok
returns-clause-ok g c =
    let r = c.reply_recorded-refusal in
    let records = records_keyed g.Q.RecordQueue.taken g.Q.RecordQueue.has_failed c.pass_recorded.new.recorder r.new.recorder c.pass_recorded.new.desk r.new.desk [] _ (sym (unkeyed c.pass_recorded.new.desk r.new.desk)) r.ensures.records in
    recorded_ok g.N.Runner.starts g.N.Runner.looks g.N.Runner.takes g.Q.RecordQueue.taken g.Q.RecordQueue.has_failed c.args.keep (asked_of c.args.request)
    c.args.desk.now c.pass_recorded.new.desk c.reply_recorded-refusal.new.desk c.keep_recorded.new.desk c.args.runner.now c.pass_recorded.new.runner c.reply_recorded-refusal.new.runner
    c.args.recorder.now c.begin.new.self c.pass_recorded.new.recorder c.reply_recorded-refusal.new.recorder c.keep_recorded.new.recorder
    c.begin.ensures.same.0 c.begin.ensures.same.1 c.begin.ensures.unchanged c.pass_recorded.ensures.passed c.pass_recorded.ensures.records records
    c.keep_recorded.ensures.kept c.keep_recorded.ensures.records c.reply_recorded-refusal.result.1 c.reply_recorded-refusal.ensures.done

pub returns-clause-err : goal.returns-clause-err
returns-clause-err g c =
    let r = c.reply_recorded-refusal in
    let records = records_keyed g.Q.RecordQueue.taken g.Q.RecordQueue.has_failed c.pass_recorded.new.recorder r.new.recorder c.pass_recorded.new.desk r.new.desk [] _ (sym (unkeyed c.pass_recorded.new.desk r.new.desk)) r.ensures.records in
    recorded_err g.N.Runner.starts g.N.Runner.looks g.N.Runner.takes g.Q.RecordQueue.taken g.Q.RecordQueue.has_failed c.args.keep (asked_of c.args.request)
    c.args.desk.now c.pass_recorded.new.desk c.reply_recorded-refusal.new.desk c.keep_recorded.new.desk c.args.runner.now c.pass_recorded.new.runner c.reply_recorded-refusal.new.runner
    c.args.recorder.now c.begin.new.self c.pass_recorded.new.recorder c.reply_recorded-refusal.new.recorder c.keep_recorded.new.recorder
    c.begin.ensures.same.0 c.begin.ensures.same.1 c.begin.ensures.unchanged c.pass_recorded.ensures.passed c.pass_recorded.ensures.records records
    c.keep_recorded.ensures.kept c.keep_recorded.ensures.records c.reply_recorded-refusal.result.1 c.reply_recorded-refusal.ensures.done
