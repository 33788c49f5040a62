use Rattle.streams.specs.Hearing.{query_of}
use Rattle.streams.proofs.Reading.{read_err, read_ok}
use Rattle.streams.proofs.frame_handler.AnyFrameHandler.answer_payload.Goals as goal

pub returns-clause-ok : goal.returns-clause-ok
returns-clause-ok g c =
    read_ok g.H.Handler.answers _ _ _ c.args.payload.now (query_of c.in_ok-heard.heard) c.in_ok-heard.ensures c.answer.ensures.ok

pub returns-clause-err : goal.returns-clause-err
returns-clause-err g c =
    read_err g.H.Handler.answers _ _ _ c.args.payload.now (query_of c.in_ok-heard.heard) c.in_ok-heard.ensures c.answer.ensures.err
