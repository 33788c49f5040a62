use Rattle.task_register.proofs.Steps.{begins}
use Rattle.task_register.proofs.register.NewTaskRegister.new.Goals as goal

pub of_words-requires : goal.of_words-requires
of_words-requires c = begins
