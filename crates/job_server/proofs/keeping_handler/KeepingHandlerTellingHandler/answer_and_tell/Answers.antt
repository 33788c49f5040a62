use Rattle.streams.specs.Prepared.{asked_of}
use Rattle.job_server.proofs.KeptLemmas.{tells_kept}
use Rattle.job_server.proofs.keeping_handler.KeepingHandlerTellingHandler.answer_and_tell.Goals as goal

pub returns-clause-refusal : goal.returns-clause-refusal
returns-clause-refusal g c =
    tells_kept c.args.self.now.keep c.answer_and_tell-told.new.desk c.keep_within.new.self (asked_of c.args.request) c.answer_and_tell-told.result.0 c.answer_and_tell-told.result.1
    c.keep_within.ensures.kept c.answer_and_tell-told.ensures.refusal
