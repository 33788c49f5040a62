-- The desks that tenants begin with, one more.
use Rattle.std.proofs.Common.{◌≡◌, ℕ, List, [], ◌∷◌, ◌++◌, length, map, string_bytes, Option, String, sym, ap, ◌∙◌, refl, arith}
use Rattle.std.proofs.lemmas.List.{map-append}
use Rattle.std.specs.declared.alloc.Global.{Global}
use Rattle.accounts.specs.Ledgers.{Ledger}
use Rattle.tenant_desks.specs.Tenancies.{AreFirstDesks, IsFirstDesk}

-- the tenants, with their names as bytes
abbrev pub said_of : List (String Global × Option ℕ) → List (List ℕ × Option ℕ)
said_of tenants = map (λ (x : String Global × Option ℕ). (string_bytes x.0, x.1)) tenants

pub one_first_more : (tenants : List (List ℕ × Option ℕ)) (desks : List Ledger) (t : List ℕ × Option ℕ) (d : Ledger) → AreFirstDesks tenants desks → IsFirstDesk t.0 t.1 d → AreFirstDesks (tenants ++ t ∷ []) (desks ++ d ∷ [])
one_first_more [] [] t d are is = (is, tt)
one_first_more [] (e ∷ desks) t d are is = absurd are
one_first_more (u ∷ tenants) [] t d are is = absurd are
one_first_more (u ∷ tenants) (e ∷ desks) t d are is = (are.0, one_first_more tenants desks t d are.1 is)

-- a name and a desk more
pub names_more : (xs : List (List ℕ)) (tenants : List (List ℕ × Option ℕ)) (t : List ℕ × Option ℕ) → xs ≡ map (λ (x : List ℕ × Option ℕ). x.0) tenants → xs ++ t.0 ∷ [] ≡ map (λ (x : List ℕ × Option ℕ). x.0) (tenants ++ t ∷ [])
names_more xs tenants t is = ap (λ ns. ns ++ t.0 ∷ []) is ∙ sym (map-append (λ (x : List ℕ × Option ℕ). x.0) tenants (t ∷ []))

pub as_many_first : (tenants : List (List ℕ × Option ℕ)) (desks : List Ledger) → AreFirstDesks tenants desks → length desks ≡ length tenants
as_many_first [] [] are = refl
as_many_first [] (d ∷ desks) are = absurd are
as_many_first (t ∷ tenants) [] are = absurd are
as_many_first (t ∷ tenants) (d ∷ desks) are = let n = as_many_first tenants desks are.1 in omega (arith, n)
