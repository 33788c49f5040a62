use Rattle.streams.specs.Prepared.{asked_of}
use Rattle.tenant_desks.proofs.PlacedLemmas.{alone_ok, alone_err}
use Rattle.tenant_desks.proofs.tenant_handler.answer_at.Goals as goal

pub returns-clause-ok : goal.returns-clause-ok
returns-clause-ok g c =
    alone_ok g.N.Runner.starts g.N.Runner.looks c.args.keep c.args.desk.now c.args.runner.now (asked_of c.args.request) c.answer_and_tell-told.new.desk c.answer_and_tell-told.new.self
    c.keep_within.new.self c.answer_and_tell-told.result.1 c.answer_and_tell-told.ensures.ok c.keep_within.ensures.kept

pub returns-clause-err : goal.returns-clause-err
returns-clause-err g c =
    alone_err g.N.Runner.starts g.N.Runner.looks c.args.keep c.args.desk.now c.args.runner.now (asked_of c.args.request) c.answer_and_tell-told.new.desk c.answer_and_tell-told.new.self
    c.keep_within.new.self c.answer_and_tell-told.result.1 c.answer_and_tell-told.ensures.err c.keep_within.ensures.kept
