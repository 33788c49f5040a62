use Rattle.seat_log.proofs.LogSteps.{begins}
use Rattle.seat_log.proofs.shared_log.NewLog.new.Goals as goal

pub of_words-requires : goal.of_words-requires
of_words-requires g c = begins
