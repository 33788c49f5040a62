use Rattle.verifier.proofs.OneVerdict.{nothing_refused}
use Rattle.verifier.proofs.laws.nothing_refused.Goals as goal

pub returns : goal.returns
returns c = nothing_refused
