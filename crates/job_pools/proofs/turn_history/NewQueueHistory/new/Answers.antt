use Rattle.job_pools.proofs.TurnSeats.{begins}
use Rattle.job_pools.proofs.turn_history.NewQueueHistory.new.Goals as goal

pub of_words-requires : goal.of_words-requires
of_words-requires c = begins
