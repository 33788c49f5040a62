use Rattle.std.proofs.Common.{◌≡◌, ◌<◌, ap, arith, length, rules, sym, ◌∙◌, slice_index_or, take}
use Rattle.std.proofs.lemmas.List.{take_more}
use Rattle.std.proofs.lemmas.List.Elements.{All-push}
use Rattle.std.proofs.lemmas.List.Sums.{fold_more}
use Rattle.sqlite_trees.specs.Tree.{Trees}
use Rattle.desk_store.specs.RowStores.{IsHonest, now_in}
use Rattle.desk_records.specs.Changes.{IsNarrowChange, all_changed, changed}
use Rattle.desk_records.proofs.StepLemmas.{calm_then}
use Rattle.desk_records.proofs.changes.write_all.Goals as goal

pub loop-change-preserved : goal.loop-change-preserved
loop-change-preserved g c =
    let changes = c.args.changes.now in
    let first = now_in g.S.Store c.args.rows.now in
    let mid = c.loop-change.rows in
    let at = c.loop-change.change-index in
    let within : at < length changes = omega arith in
    let change = c.change-item.result in
    let here : slice_index_or changes at change ≡ change = search rules in
    let one : IsNarrowChange (slice_index_or changes at change) = rw here (search rules) in (
      λ honest.
          let back : IsHonest g.S.Store mid = omega (arith, c.write_change.ensures.calm.clean) in
          let was = c.loop-change.invariant.0 back in
          let step = c.in_ok-write_change.ensures.ok honest in record {
            now_is = step.now_is ∙ ap (λ (db : Trees). changed db change) was.now_is ∙ ap (changed (all_changed first (take at changes))) (sym here) ∙ sym (fold_more changed first changes at change within);
            kept_is = step.kept_is ∙ was.kept_is;
            opens = (λ h. step.opens.0 (was.opens.0 h), λ h. was.opens.1 (step.opens.1 h));
            reals_are = step.reals_are ∙ was.reals_are;
          },
      rw (take_more changes at change within) (All-push IsNarrowChange (take at changes) (slice_index_or changes at change) c.loop-change.invariant.1 one),
      calm_then g.S.Store c.args.rows.now mid c.write_change.new.rows c.loop-change.invariant.2 c.write_change.ensures.calm,
    )
