use Rattle.std.proofs.Common.{◌≡◌, ◌<◌, ◌++◌, ◌∷◌, [], arith, length, rules, slice_index_or, subst, sym, take}
use Rattle.std.proofs.lemmas.List.{take_more}
use Rattle.desk_records.specs.declared.stored_key.StoredKey.{StoredKey}
use Rattle.ledger_records.specs.SoFar.{AreKeysSoFar}
use Rattle.ledger_records.proofs.DeskLemmas.{key_noted}
use Rattle.ledger_records.proofs.restored_desk.restore_keys.Goals as goal

pub loop-row-preserved : goal.loop-row-preserved
loop-row-preserved c =
    let rows = c.args.rows.now in
    let at = c.loop-row.row-index in
    let row = c.row-item.result in
    let within : at < length rows = omega arith in
    let here : slice_index_or rows at row ≡ row = search rules in
    rw (take_more rows at row within)
    (subst (λ (r : StoredKey). AreKeysSoFar c.args.number c.args.count (take at rows ++ r ∷ []) c.note_row.new.keys.jobs) (sym here)
    (key_noted c.args.number c.args.count (take at rows) row c.loop-row.keys.jobs c.note_row.new.keys.jobs c.loop-row.invariant c.in_ok-note_row.ensures))
