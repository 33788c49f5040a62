-- Keys that stand in the order of their rows.
use Rattle.std.proofs.Common.{◌≡◌, ◌⊎◌, ◌+◌, ◌<◌, ◌≤◌, ℕ, zero, suc, ap, pos, ◌<ℤ◌, List, [], ◌∷◌, ◌++◌, Some, All, length, refl, sym, subst, arith, inl, inr, slice_get}
use Rattle.std.proofs.lemmas.Int.{ints}
use Rattle.std.specs.List.{AllByRecursion}
use Rattle.sqlite_trees.specs.Tree.{IsAscending}
use Rattle.sqlite_keyed.specs.Keyed.{IsKeyedBy}
use Rattle.desk_records.specs.Columns.{id_of}
use Rattle.desk_records.specs.Made.{key_id}
use Rattle.desk_records.specs.Stored.{Ledgers}
use Rattle.desk_records.specs.declared.stored_key.StoredKey.{StoredKey}
use Rattle.ledger_records.specs.RestoredDesks.{AreEachRestored, IsRestored}
use Rattle.ledger_records.specs.declared.restored_desk.RestoredDesk.{RestoredDesk}

-- they rise, and all are below a number
pub record AreBelow (keys : List StoredKey) (next : ℕ) : Type 0 where
  pub rise : IsKeyedBy key_id keys
  pub below : AllByRecursion (λ k. id_of k.desk k.number < next) keys

pub none_below : AreBelow [] 0
none_below = record { rise = tt; below = tt }

all_push : (P : StoredKey → Type 0) (xs : List StoredKey) (x : StoredKey) → AllByRecursion P xs → P x → AllByRecursion P (xs ++ x ∷ [])
all_push P [] x each here = (here, tt)
all_push P (y ∷ xs) x each here = (each.0, all_push P xs x each.1 here)

all_then : (P Q : StoredKey → Type 0) → ((k : StoredKey) → P k → Q k) → (xs : List StoredKey) → AllByRecursion P xs → AllByRecursion Q xs
all_then P Q then [] each = tt
all_then P Q then (x ∷ xs) each = (then x each.0, all_then P Q then xs each.1)

rise_push : (xs : List StoredKey) (x : StoredKey) → IsKeyedBy key_id xs → AllByRecursion (λ k. key_id k <ℤ key_id x) xs → IsKeyedBy key_id (xs ++ x ∷ [])
rise_push [] x rise below = (tt, tt)
rise_push (y ∷ xs) x rise below = (all_push (λ k. key_id y <ℤ key_id k) xs x rise.0 below.0, rise_push xs x rise.1 below.1)

below_is : (a b : ℕ) → a < b → pos a <ℤ pos b
below_is a b less = grind (arith, ints, less)

pub below_more : (xs : List StoredKey) (x : StoredKey) (next id : ℕ) → AreBelow xs next → id ≡ id_of x.desk x.number → next ≤ id → AreBelow (xs ++ x ∷ []) (id + 1)
below_more xs x next id are is above = record {
  rise = rise_push xs x are.rise (all_then (λ k. id_of k.desk k.number < next) (λ k. key_id k <ℤ key_id x) (λ k less. below_is (id_of k.desk k.number) (id_of x.desk x.number) (omega (arith, less, above, is))) xs are.below);
  below = all_push (λ k. id_of k.desk k.number < id + 1) xs x (all_then (λ k. id_of k.desk k.number < next) (λ k. id_of k.desk k.number < id + 1) (λ k less. omega (arith, less, above)) xs are.below) (omega (arith, is));
}

pub pushed_at : {X : Type 0} (xs : List X) (x : X) (n : ℕ) (y : X) → slice_get (xs ++ x ∷ []) n ≡ Some y → (slice_get xs n ≡ Some y) ⊎ ((n ≡ length xs) × (x ≡ y))
pushed_at [] x zero y at = inr (refl, cc at)
pushed_at [] x (suc n) y at = absurd (cc)
pushed_at (z ∷ xs) x zero y at = inl at
pushed_at (z ∷ xs) x (suc n) y at = elim (pushed_at xs x n y at) [ inl before ↦ inl before | inr last ↦ inr (ap suc last.0, last.1) ]

pub restored_more : (l : Ledgers) (desks : List RestoredDesk) (r : RestoredDesk) → AreEachRestored l desks → IsRestored l (length desks) r → AreEachRestored l (desks ++ r ∷ [])
restored_more l desks r each here place x at = elim (pushed_at desks r place x at) [
  | inl before ↦ each place x before
  | inr last ↦ subst (λ (p : ℕ). IsRestored l p x) (sym last.0) (subst (λ (d : RestoredDesk). IsRestored l (length desks) d) last.1 here)
]
