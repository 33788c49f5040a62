use Rattle.lanes.proofs.sharing.Lanes.alone.Given as goal

abbrev pub ghosts-give_name : goal.ghosts-give_name
ghosts-give_name g a = record { lane = a._name }
