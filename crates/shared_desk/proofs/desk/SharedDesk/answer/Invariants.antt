use Rattle.shared_desk.specs.Answered.{Records, query_by}
use Rattle.shared_desk.proofs.desk.SharedDesk.answer.Given as goal

-- the entry of what the handler answered
abbrev pub ghosts-add : goal.ghosts-add
ghosts-add g a = record { allows = λ e. Records g.H.SharedHandler.answers (a.desk_before.now.value, a.handler_before.now.value) (query_by a.passage a.request.now.value a.beyond.now.value) (a.desk.now, a.handler.now) a.reply.now e }
