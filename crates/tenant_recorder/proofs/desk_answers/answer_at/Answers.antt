use Rattle.streams.specs.Prepared.{asked_of}
use Rattle.tenant_desks.specs.PlacedRunners.{looks_placed, starts_placed}
use Rattle.tenant_recorder.proofs.AnsweredAt.{alone_err, alone_ok, keeps_last, keeps_so, kept_count, takes_all, takes_keyed}
use Rattle.tenant_recorder.proofs.desk_answers.answer_at.Goals as goal

pub returns-clause-ok : goal.returns-clause-ok
returns-clause-ok g c =
    let r = c.reply_recorded-told in
    let keeps = keeps_last g.Q.RecordQueue.taken g.Q.RecordQueue.has_failed c.args.keep c.args.desk.now r.new.desk c.keep_recorded.new.desk
    c.args.recorder.now r.new.recorder c.keep_recorded.new.recorder c.begin.new.self _ r.ensures.records c.keep_recorded.ensures.kept c.keep_recorded.ensures.records
    c.begin.ensures.same.0 c.begin.ensures.same.1 in
    alone_ok (starts_placed g.N.Runner.starts) (looks_placed g.N.Runner.looks) c.args.keep (asked_of c.args.request) c.args.desk.now r.new.desk c.keep_recorded.new.desk
    c.args.runner.now r.new.runner _ r.result.1 r.ensures.done keeps

pub returns-clause-err : goal.returns-clause-err
returns-clause-err g c =
    let r = c.reply_recorded-told in
    let keeps = keeps_last g.Q.RecordQueue.taken g.Q.RecordQueue.has_failed c.args.keep c.args.desk.now r.new.desk c.keep_recorded.new.desk
    c.args.recorder.now r.new.recorder c.keep_recorded.new.recorder c.begin.new.self _ r.ensures.records c.keep_recorded.ensures.kept c.keep_recorded.ensures.records
    c.begin.ensures.same.0 c.begin.ensures.same.1 in
    alone_err (starts_placed g.N.Runner.starts) (looks_placed g.N.Runner.looks) c.args.keep (asked_of c.args.request) c.args.desk.now r.new.desk c.keep_recorded.new.desk
    c.args.runner.now r.new.runner _ r.result.1 r.ensures.done keeps

pub returns-clause-forgotten : goal.returns-clause-forgotten
returns-clause-forgotten g c = λ forgot.
    let r = c.reply_recorded-told in
    keeps_so g.Q.RecordQueue.taken g.Q.RecordQueue.has_failed c.args.keep c.args.desk.now r.new.desk c.keep_recorded.new.desk
    c.args.recorder.now r.new.recorder c.keep_recorded.new.recorder c.begin.new.self _ r.ensures.records c.keep_recorded.ensures.kept c.keep_recorded.ensures.records
    c.begin.ensures.same.0 c.begin.ensures.same.1 forgot

pub returns-clause-records : goal.returns-clause-records
returns-clause-records g c =
    let r = c.reply_recorded-told in
    takes_keyed g.Q.RecordQueue.taken g.Q.RecordQueue.has_failed c.args.recorder.now c.begin.new.self c.args.desk.now r.new.desk c.keep_recorded.new.desk _ (kept_count c.args.keep r.new.desk c.keep_recorded.new.desk _ c.keep_recorded.ensures.kept)
    (takes_all g.Q.RecordQueue.taken g.Q.RecordQueue.has_failed c.args.keep c.args.desk.now r.new.desk c.keep_recorded.new.desk
    c.args.recorder.now r.new.recorder c.keep_recorded.new.recorder c.begin.new.self _ r.ensures.records c.keep_recorded.ensures.kept c.keep_recorded.ensures.records
    c.begin.ensures.same.0 c.begin.ensures.same.1)
