use Rattle.credit_book.proofs.Numbering.{numbered_of}
use Rattle.credit_book.proofs.Sound.{sound_of}
use Rattle.credit_book.proofs.laws.histories_add_up.Goals as goal

pub returns-clause-sums : goal.returns-clause-sums
returns-clause-sums c = λ job issued history is. (sound_of job issued history is).0.conserved

pub returns-clause-alive : goal.returns-clause-alive
returns-clause-alive c = λ job issued history number is alive. ((sound_of job issued history is).0.holding number).0 alive

pub returns-clause-numbered : goal.returns-clause-numbered
returns-clause-numbered c = λ job issued history number task is there. numbered_of job issued history is number task there
