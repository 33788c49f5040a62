use Rattle.job_server.proofs.at_once.answer_connection.Given as goal

-- the passage of this connection
abbrev pub ghosts-serve_durably : goal.ghosts-serve_durably
ghosts-serve_durably g a = record { passage = a.passage }
