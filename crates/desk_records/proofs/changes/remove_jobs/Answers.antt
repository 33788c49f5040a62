use Rattle.std.proofs.Common.{◌≡◌, ◌<◌, ℕ, ap, arith, length, pos, sym, ◌∙◌, slice_index_or, take}
use Rattle.std.proofs.lemmas.List.{take_more}
use Rattle.std.proofs.lemmas.List.Elements.{All-push}
use Rattle.std.proofs.lemmas.List.Sums.{fold_more}
use Rattle.sqlite_trees.specs.Tree.{Trees}
use Rattle.desk_store.specs.RowStores.{IsHonest, now_in}
use Rattle.desk_records.specs.Changes.{IsNarrowNumber, without_jobs, without_rows}
use Rattle.desk_records.specs.Columns.{id_of}
use Rattle.desk_records.proofs.StepLemmas.{calm_then}
use Rattle.desk_records.proofs.changes.remove_jobs.Goals as goal

pub loop-number-preserved : goal.loop-number-preserved
loop-number-preserved g c =
    let numbers = c.args.numbers.now in
    let desk = c.args.desk in
    let edit : Trees → ℕ → Trees = λ db n. without_rows db (pos (id_of desk n)) in
    let first = now_in g.S.Store c.args.rows.now in
    let mid = c.loop-number.rows in
    let at = c.loop-number.number-index in
    let within : at < length numbers = omega arith in
    let number = slice_index_or numbers at 0 in
    let one : IsNarrowNumber number = c.in_ok-remove_job.ensures.narrow in (
      λ honest.
          let back : IsHonest g.S.Store mid = omega (arith, c.remove_job.ensures.calm.clean) in
          let was = c.loop-number.invariant.0 back in
          let step = c.in_ok-remove_job.ensures.ok honest in record {
            now_is = step.now_is ∙ ap (λ (db : Trees). edit db number) was.now_is ∙ sym (fold_more edit first numbers at 0 within);
            kept_is = step.kept_is ∙ was.kept_is;
            opens = (λ h. step.opens.0 (was.opens.0 h), λ h. was.opens.1 (step.opens.1 h));
            reals_are = step.reals_are ∙ was.reals_are;
          },
      rw (take_more numbers at 0 within) (All-push IsNarrowNumber (take at numbers) number c.loop-number.invariant.1 one),
      calm_then g.S.Store c.args.rows.now mid c.remove_job.new.rows c.loop-number.invariant.2 c.remove_job.ensures.calm,
    )
