use Rattle.std.proofs.Common.{◌≡◌, None, ap, arith, inl, inr, refl, rules, sym, ◌∙◌}
use Rattle.std.proofs.lemmas.List.Sums.{fold-append}
use Rattle.desk_store.specs.RowStores.{IsHonest}
use Rattle.desk_records.specs.Changes.{all_changed, changed}
use Rattle.shared_store.proofs.store_keeper.StoreKeeper.write.Goals as goal

pub invariant_of-self : goal.invariant_of-self
invariant_of-self g c = record {
  goes_on = search rules;
  leaves = λ honest db left.
      let early : IsHonest g.S.Store c.self.inside.rows = omega (arith, honest, c.write_batch.ensures.falls) in
      let none : c.self.inside.failed ≡ None = search rules in
      let kept = rw none at c.self.invariant in
      let was = kept.goes_on refl early in
      let first = g.J.HistoryName.first in
      elim (c.write_batch.ensures.crash honest was.is_open db left) [
        | inl before ↦ inl (kept.leaves early db before)
        | inr made ↦ inr (made ∙ ap (λ rows. all_changed rows c.as_slice.result.now) was.are ∙ ap (all_changed (all_changed first c.self.inside.committed)) c.as_slice.ensures.value ∙ sym (fold-append changed first c.self.inside.committed c.args.batch.items))
      ];
  cause = (c.as_slice.result.now, c.self.inside.rows, c.write_batch.new.rows, c.in-Err.ensures.cause);
}

pub returns-in-Err-clause-failed : goal.returns-in-Err-clause-failed
returns-in-Err-clause-failed g c = ((c.as_slice.result.now, c.self.inside.rows, c.write_batch.new.rows, c.in-Err.ensures.cause), refl, search rules)
