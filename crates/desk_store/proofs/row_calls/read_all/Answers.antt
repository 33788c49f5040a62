use Rattle.std.proofs.lemmas.List.Elements.{All-push}
use Rattle.std.proofs.lemmas.Option.{same_Some}
use Rattle.std.proofs.Common.{◌≡◌, ◌++◌, ◌∷◌, [], rules, arith, refl, sym, ap, ◌∙◌}
use Rattle.sqlite_typed.proofs.RowLemmas.{from_no_key}
use Rattle.sqlite_trees.specs.View.{View}
use Rattle.desk_store.proofs.LoadLemmas.{one_read}
use Rattle.desk_store.proofs.row_calls.read_all.Goals as goal

pub rows-init : goal.rows-init
rows-init g c =
    let all = (g.S.Store.view c.args.store.now).trees c.args.tree in
    let placed = rw (c.clear.ensures, from_no_key) at c.in_ok-seek.ensures.ok in
    (λ clean. (all, ap (λ (v : View). v.cursors 0) (placed clean), rw c.new-all.ensures.items refl), search rules, c.in_ok-seek.ensures.live, λ clean. rw (placed clean), search rules)

pub rows-preserved : goal.rows-preserved
rows-preserved g c = (
  λ clean.
      let was = c.rows.invariant.0 (omega (arith, c.next.ensures.quiet.clean)) in
      let step = rw c.if-not-branch.false at (c.in_ok-next.ensures.ok clean) in
      let row = c.next.new.row in
      let left : was.0 ≡ row ∷ step.0 = same_Some _ _ (sym was.1 ∙ step.1) in
      let pushed : c.push.new.self.items ≡ c.rows.all.items ++ c.in-Some.record ∷ [] = search rules in
      let same : g.R.Record.stored c.in-Some.record ≡ row = search rules in
      (step.0, ap (λ (v : View). v.cursors 0) step.2, rw pushed (one_read g.R.Record.stored _ step.0 c.rows.all.items c.in-Some.record row (rw left at was.2) same)),
  let pushed : c.push.new.self.items ≡ c.rows.all.items ++ c.in-Some.record ∷ [] = search rules in
      let one : g.R.Record.is_narrow c.in-Some.record = search rules in
      rw pushed (All-push g.R.Record.is_narrow c.rows.all.items c.in-Some.record c.rows.invariant.1 one),
  search rules,
  search rules,
  search rules,
)
