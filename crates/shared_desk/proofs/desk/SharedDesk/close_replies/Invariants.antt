use Rattle.std.proofs.Common.{◌≡◌}
use Rattle.shared_desk.specs.Closed.{closed_of}
use Rattle.shared_desk.proofs.desk.SharedDesk.close_replies.Given as goal

-- what went through the two ends
abbrev pub ghosts-close_by : goal.ghosts-close_by
ghosts-close_by g a = record { closes = λ c. c ≡ closed_of a.passage g.S.Source.transcript g.S.Source.is_over g.S.Source.has_failed g.W.ReplySink.transcript g.W.ReplySink.has_failed a.seat a.reader.now a.writer.now a.outcome.now }
