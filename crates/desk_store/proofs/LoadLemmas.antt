-- Records that are loaded one by one.
use Rattle.std.proofs.Common.{◌≡◌, List, [], ◌∷◌, ◌++◌, map, refl, sym, ap, ◌∙◌, append_assoc, IsTrue}
use Rattle.std.proofs.lemmas.List.{map-append}
use Rattle.sqlite_value.specs.Order.{Row}
use Rattle.sqlite_trees.specs.Tree.{rowid}
use Rattle.sqlite_trees.specs.View.{is_int}
use Rattle.desk_store.specs.declared.table.StoreTable.{StoreTable}
use Rattle.desk_store.specs.Tables.{IsRowOf}

-- a row of a table has a number as its key
pub keyed : (table : StoreTable) (row : Row) → IsRowOf table row → IsTrue (is_int (rowid row))
keyed table row of = rw of.is refl

-- one record more is read
pub one_read : {R : Type 0} (row : R → Row) (rows left : List Row) (all : List R) (it : R) (here : Row) → rows ≡ map row all ++ here ∷ left → row it ≡ here → rows ≡ map row (all ++ it ∷ []) ++ left
one_read row rows left all it here was same =
    was ∙ sym (ap (λ rs. rs ++ left) (map-append row all (it ∷ [])) ∙ append_assoc (map row all) (row it ∷ []) left ∙ ap (λ r. map row all ++ r ∷ left) same)
