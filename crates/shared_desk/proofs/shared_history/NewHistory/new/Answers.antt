use Rattle.shared_desk.proofs.Steps.{begins}
use Rattle.shared_desk.proofs.shared_history.NewHistory.new.Goals as goal

pub of_words-requires : goal.of_words-requires
of_words-requires c = begins
