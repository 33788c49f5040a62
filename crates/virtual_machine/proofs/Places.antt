-- Places in a table of functions, and the table of helpers beside it.
use Rattle.std.proofs.Common.{◌≡◌, ◌≢◌, ℕ, ◌+◌, ◌-◌, ◌<◌, ◌≤◌, ◌==◌, nat_lt, refl, sym, ◌∙◌, ap, arith, Bool, true, false, List, length, Option, Some, None, slice_index_or, slice_set, if◌then◌else◌}
use Rattle.std.proofs.lemmas.Bool.Decides.{nat_tests}
use Rattle.std.proofs.lemmas.List.{get_or-set_same, get_or-set_other}
use Rattle.helpers.specs.Table.{Table, arity_in}
use Rattle.virtual_machine.specs.Functions.{AreSameHelpers, HaveFunctions, function_of}

over_64 : (place : ℕ) → nat_lt (place + 64) 64 ≡ false
over_64 place = grind (arith, nat_tests)

-- a place by its id
pub place_of : {R : Type 0} (functions : List (Option R)) (place : ℕ) → function_of functions (place + 64) ≡ slice_index_or functions place None
place_of functions place =
    let e : place + 64 - 64 ≡ place = omega arith in
    rw (over_64 place) (ap (λ (n : ℕ). slice_index_or functions n None) e)

arity_place : (table : Table) (place : ℕ) → arity_in table (place + 64) ≡ slice_index_or table place None
arity_place table place =
    let e : place + 64 - 64 ≡ place = omega arith in
    rw (over_64 place) (ap (λ (n : ℕ). slice_index_or table n None) e)

-- tables that give each id the same function have the same ones
pub have_same : {R : Type 0} (table : Table) (old new : List (Option R)) → HaveFunctions table old →
    ((id : ℕ) → function_of new id ≡ function_of old id) → HaveFunctions table new
have_same table old new have same place arity is none =
    have place arity is (sym (place_of old place) ∙ sym (same (place + 64)) ∙ place_of new place ∙ none)

-- a table of the same helpers has the same functions
pub have_alike : {R : Type 0} (table other : Table) (functions : List (Option R)) → AreSameHelpers table other → HaveFunctions other functions →
    HaveFunctions table functions
have_alike table other functions same have place arity is =
    have place arity (sym (arity_place other place) ∙ sym (same (place + 64)) ∙ arity_place table place ∙ is)

-- the function that was put at a place
pub function_put : {R : Type 0} (functions : List (Option R)) (id : ℕ) (f : R) → 64 ≤ id → id - 64 < length functions →
    function_of (slice_set functions (id - 64) (Some f)) id ≡ Some f
function_put functions id f least within =
    let t : nat_lt id 64 ≡ false = grind (arith, nat_tests) in
    rw t (get_or-set_same functions (id - 64) (Some f) None within)

module _ {R : Type 0} (table table' : Table) (functions : List (Option R)) (id amount : ℕ) (f : R) (least : 64 ≤ id)
    (within : id - 64 < length functions) (have : HaveFunctions table functions)
    (adds : (other : ℕ) → arity_in table' other ≡ (if other == id then Some amount else arity_in table other)) where
  put_at : (place arity : ℕ) (b : Bool) → (place + 64 == id) ≡ b → (if b then Some amount else arity_in table (place + 64)) ≡ Some arity →
      slice_index_or (slice_set functions (id - 64) (Some f)) place None ≢ None
  put_at place arity true t is none =
      let e : id - 64 ≡ place = grind (arith, nat_tests) in
      let put = get_or-set_same functions (id - 64) (Some f) None within in
      cc (put, e, none)
  put_at place arity false t is none =
      let ne : place ≢ id - 64 = grind (arith, nat_tests) in
      have place arity (sym (arity_place table place) ∙ is) (sym (get_or-set_other functions (id - 64) place (Some f) None ne) ∙ none)

  -- a helper that is added has the function that is put at its place, and the others have theirs
  pub have_put : (new : List (Option R)) → new ≡ slice_set functions (id - 64) (Some f) → HaveFunctions table' new
  have_put new set place arity is none =
      put_at place arity (place + 64 == id) refl (sym (adds (place + 64)) ∙ arity_place table' place ∙ is)
      (ap (λ (fs : List (Option R)). slice_index_or fs place None) (sym set) ∙ none)
