use Rattle.streams.specs.Prepared.{asked_of}
use Rattle.streams.proofs.Answered.{answered_ok, answered_err}
use Rattle.streams.proofs.answers.answer_by_runner.Goals as goal

pub returns-clause-ok : goal.returns-clause-ok
returns-clause-ok g c =
    answered_ok g.N.Runner.starts g.N.Runner.looks g.N.Runner.takes c.args.desk.now c.args.runner.now (asked_of c.args.request) c.pass_finished.new.desk c.pass_finished.new.runner
    c.reply_to.new.desk c.reply_to.new.runner c.pass_finished.ensures.passed c.reply_to.result.1 c.reply_to.ensures.done

pub returns-clause-err : goal.returns-clause-err
returns-clause-err g c =
    answered_err g.N.Runner.starts g.N.Runner.looks g.N.Runner.takes c.args.desk.now c.args.runner.now (asked_of c.args.request) c.pass_finished.new.desk c.pass_finished.new.runner
    c.reply_to.new.desk c.reply_to.new.runner c.pass_finished.ensures.passed c.reply_to.result.1 c.reply_to.ensures.done
