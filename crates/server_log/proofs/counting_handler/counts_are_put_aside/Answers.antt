use Rattle.std.proofs.Common.{◌≡◌}
use Rattle.shared_desk.proofs.AskedOfDesks.{asked_of_desks}
use Rattle.server_log.proofs.counting_handler.counts_are_put_aside.Goals as goal

pub returns : goal.returns
returns g c = λ begun end history. asked_of_desks g.H.SharedHandler.answers (λ s. s ≡ begun) history end
