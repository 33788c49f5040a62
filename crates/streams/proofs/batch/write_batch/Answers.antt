use Rattle.std.proofs.Common.{rules, ◌≡◌, ◌++◌, List, ℕ, subst}
use Rattle.std.proofs.lemmas.Result.{IfErr-weaker}
use Rattle.streams.specs.Stops.{IsPartWritten}
use Rattle.streams.proofs.Serving.{part_of_write}
use Rattle.streams.proofs.batch.write_batch.Goals as goal

pub returns-clause-err : goal.returns-clause-err
returns-clause-err g c =
    let old = g.W.ReplySink.transcript c.args.writer.now in
    let new = g.W.ReplySink.transcript c.write_replies-written.new.self in
    let same : c.deref.result.now ≡ c.args.batch.now.items = search rules in
    let P : List ℕ → Type 0 = λ xs. IsPartWritten old (old ++ xs) new in
    IfErr-weaker c.write_replies-written.result _ _ (λ _ cut. subst P same (part_of_write old c.deref.result.now new cut.0 cut.1 cut.2)) c.write_replies-written.ensures.err
