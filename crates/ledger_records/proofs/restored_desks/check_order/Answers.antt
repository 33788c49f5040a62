use Rattle.std.proofs.Common.{◌≡◌, ◌<◌, ◌≤◌, ◌+◌, ◌*◌, ◌++◌, ◌∷◌, [], ap, arith, length, rules, slice_index_or, subst, sym, take}
use Rattle.std.proofs.lemmas.List.{take_more}
use Rattle.desk_records.specs.Columns.{id_of}
use Rattle.desk_records.specs.declared.stored_key.StoredKey.{StoredKey}
use Rattle.ledger_records.proofs.OrderLemmas.{AreBelow, below_more, none_below}
use Rattle.ledger_records.proofs.restored_desks.check_order.Goals as goal

pub loop-row-init : goal.loop-row-init
loop-row-init c = none_below

pub loop-row-preserved : goal.loop-row-preserved
loop-row-preserved c =
    let rows = c.args.keys.now in
    let at = c.loop-row.row-index in
    let row = c.row-item.result in
    let id = c.from.result * 100000000000000 + row.number in
    let within : at < length rows = omega arith in
    let here : slice_index_or rows at row ≡ row = search rules in
    let from : c.from.result ≡ row.desk = search rules in
    let above : c.loop-row.next ≤ id = search rules in
    rw (take_more rows at row within)
    (subst (λ (r : StoredKey). AreBelow (take at rows ++ r ∷ []) (id + 1)) (sym here) (below_more (take at rows) row c.loop-row.next id c.loop-row.invariant (ap (λ d. id_of d row.number) from) above))
