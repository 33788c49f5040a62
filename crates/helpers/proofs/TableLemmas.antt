-- What an added helper makes of a table.
use Rattle.std.proofs.Common.{◌≡◌, ◌≢◌, ℕ, zero, suc, ◌-◌, ◌<◌, ◌≤◌, List, length, slice_set, slice_index_or, refl, sym, ◌∙◌, arith, ap, Option, Some, None, replicate, get_or-set_same, get_or-set_other, Bool, true, false, nat_eq, nat_lt, ◌==◌, if◌then◌else◌, subst}
use Rattle.std.proofs.lemmas.Bool.Decides.{nat_tests}
use Rattle.helpers.specs.Table.{Table, own_arity, arity_in, job_table, IsHelperTable}

abbrev chosen : Bool → Option ℕ → Option ℕ → Option ℕ
chosen b x y = if b then x else y

by : (table : Table) (id arity other : ℕ) (low same : Bool) → nat_lt other 64 ≡ low → nat_eq other id ≡ same → 64 ≤ id → id - 64 < length table →
    chosen low (own_arity other) (slice_index_or (slice_set table (id - 64) (Some arity)) (other - 64) None)
    ≡ chosen same (Some arity) (chosen low (own_arity other) (slice_index_or table (other - 64) None))
by table id arity other true true l s h within = absurd (grind (arith, nat_tests))
by table id arity other true false l s h within = refl
by table id arity other false true l s h within =
    let one : other ≡ id = grind (arith, nat_tests) in
    subst (λ (n : ℕ). slice_index_or (slice_set table (id - 64) (Some arity)) (n - 64) None ≡ Some arity) (sym one)
    (get_or-set_same table (id - 64) (Some arity) None within)
by table id arity other false false l s h within =
    let high : 64 ≤ other = grind (arith, nat_tests) in
    let ne : other ≢ id = grind (arith, nat_tests) in
    let apart : other - 64 ≢ id - 64 = λ e. ne (omega (arith, e, high, h)) in
    get_or-set_other table (id - 64) (other - 64) (Some arity) None apart

-- the helper of that id has that arity, and the others have theirs
pub added_arity : (table : Table) (id arity : ℕ) → 64 ≤ id → id - 64 < length table →
    (other : ℕ) → arity_in (slice_set table (id - 64) (Some arity)) other ≡ chosen (other == id) (Some arity) (arity_in table other)
added_arity table id arity h within other = by table id arity other (nat_lt other 64) (nat_eq other id) refl refl h within

none_there : (n id : ℕ) → let empty : List (Option ℕ) = replicate n None in slice_index_or empty id None ≡ None
none_there zero id = refl
none_there (suc n) zero = refl
none_there (suc n) (suc id) = none_there n id

-- before the first is added there are only the helpers of every program
pub none_added : (other : ℕ) → let empty : Table = replicate 64 None in arity_in empty other ≡ arity_in job_table other
none_added other = ap (chosen (nat_lt other 64) (own_arity other)) (none_there 64 (other - 64))

-- the first one that is added
pub first_arity : (table : Table) (id arity : ℕ) → table ≡ job_table → 64 ≤ id → id < 128 →
    let empty : Table = replicate 64 None in
    (other : ℕ) → arity_in (slice_set empty (id - 64) (Some arity)) other ≡ chosen (other == id) (Some arity) (arity_in table other)
first_arity table id arity none h few other =
    let empty : Table = replicate 64 None in
    let within : id - 64 < length empty = omega (arith, h, few) in
    added_arity empty id arity h within other
    ∙ ap (chosen (other == id) (Some arity)) (none_added other ∙ ap (λ (t : Table). arity_in t other) (sym none))

some_there : (n k a : ℕ) → let empty : Table = replicate n None in slice_index_or empty k None ≡ Some a → ⊥
some_there n k a at = absurd (let no : None ≡ Some a = sym (none_there n k) ∙ at in cc)

is_first : (n arity k a : ℕ) (same : Bool) → nat_eq k n ≡ same → n < 64 → arity ≤ 5 →
    let empty : Table = replicate 64 None in
    slice_index_or (slice_set empty n (Some arity)) k None ≡ Some a → (k < 64) × (a ≤ 5)
is_first n arity k a true e few small at =
    let empty : Table = replicate 64 None in
    let one : k ≡ n = grind (arith, nat_tests) in
    let there : Some arity ≡ Some a =
    sym (get_or-set_same empty n (Some arity) None few) ∙ subst (λ (m : ℕ). slice_index_or (slice_set empty n (Some arity)) m None ≡ Some a) one at in
    let same_arity : arity ≡ a = cc in
    (omega (arith, one, few), omega (arith, same_arity, small))
is_first n arity k a false e few small at =
    let empty : Table = replicate 64 None in
    let ne : k ≢ n = grind (arith, nat_tests) in
    absurd (some_there 64 k a (sym (get_or-set_other empty n k (Some arity) None ne) ∙ at))

-- there is one helper in it
pub first_known : (id arity : ℕ) → 64 ≤ id → id < 128 → arity ≤ 5 →
    let empty : Table = replicate 64 None in
    IsHelperTable (slice_set empty (id - 64) (Some arity))
first_known id arity h few small = record {
  each = λ k a at. is_first (id - 64) arity k a (nat_eq k (id - 64)) refl (omega (arith, h, few)) small at;
}
