use Rattle.std.proofs.lemmas.Result.{IfOk-weaker}
use Rattle.desk_store.proofs.FoundLemmas.{found_again}
use Rattle.desk_store.proofs.file.open_again.Goals as goal

pub returns-clause-found : goal.returns-clause-found
returns-clause-found g c = IfOk-weaker c.open_store.result _ _ (λ rows by was honest left. found_again g.R.Store c.args.before rows _ _ c.requires c.store-store.ensures.rows was honest left by) c.open_store.ensures.opened
