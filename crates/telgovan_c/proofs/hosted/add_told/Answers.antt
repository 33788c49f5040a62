use Rattle.std.proofs.Common.{◌≡◌, ◌==◌, arith, refl, true, ◌∙◌}
use Rattle.std.proofs.lemmas.Bool.Decides.{nat_tests}
use Rattle.telgovan_c.proofs.HostedLemmas.{not_job}
use Rattle.telgovan_c.proofs.hosted.add_told.Goals as goal

-- the helper that was added isn't one of a job's
pub returns-in-Ok-clause-beside : goal.returns-in-Ok-clause-beside
returns-in-Ok-clause-beside c =
    let same : (c.args.id == c.args.id) ≡ true = grind (arith, nat_tests) in
    λ _. not_job c.add.new.self c.args.id c.args.word c.requires.least (c.in-Ok.ensures.ok c.args.id ∙ rw same refl)
