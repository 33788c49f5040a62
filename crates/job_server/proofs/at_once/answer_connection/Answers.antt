use Rattle.job_server.proofs.GivenUp.{nothing_written}
use Rattle.job_server.proofs.at_once.answer_connection.Goals as goal

pub close-requires-clause-served : goal.close-requires-clause-served
close-requires-clause-served g c = (
  nothing_written c.args.passage c.args.seat.part c.new-reader.result.transcript.bytes c.new-tap.result.transcript.bytes c.requires.fresh c.new-tap.ensures.told,
  (c.new-reader.ensures.well, c.new-tap.ensures.well),
)
