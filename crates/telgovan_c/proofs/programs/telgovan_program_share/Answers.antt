use Rattle.telgovan_c.proofs.programs.telgovan_program_share.Goals as goal

-- what was taken is what the handle held
pub returns-clause-shared : goal.returns-clause-shared
returns-clause-shared c = rw c.replace-taken.ensures.value at c.share_held-kept.ensures.shared
