use Rattle.job_server.proofs.serving.serve_listener.Given as goal

-- the register is the new one, and so is the history of the queue
abbrev pub ghosts-serve_registered : goal.ghosts-serve_registered
ghosts-serve_registered g a = record { table = a.new_register; turns = a.new_history }
