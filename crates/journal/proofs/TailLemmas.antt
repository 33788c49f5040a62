-- A tail has one kind, and a search over its places finds it.
use Rattle.std.proofs.Common.{◌≡◌, ◌≢◌, true, false, ℕ, ◌+◌, ◌<◌, ◌≤◌, List, [], ◌∷◌, length, drop, refl, ap, arith, inl, inr}
use Rattle.std.proofs.lemmas.Bool.{cases_lt}
use Rattle.std.proofs.lemmas.Bool.Decides.{nat_tests}
use Rattle.std.specs.Prelude.{◌==◌}
use Rattle.std.proofs.lemmas.List.{length-append, length-drop}
use Rattle.journal.specs.Records.{record_of, IsTorn}
use Rattle.journal.specs.Tails.{check_cost, search_cost, HasNoRecord, HasFirstRecordAt, IsTail}
use Rattle.journal.specs.declared.inspection.TailKind.{TailKind}
use Rattle.journal.specs.declared.inspection.TailKind.TheVariants.{Empty, Torn, Damaged, Unsearched}
use Rattle.journal.proofs.RecordLemmas.{length-record, torn_short}

-- ---- one kind

stands : (bytes : List ℕ) (place : ℕ) → HasFirstRecordAt bytes place → IsTorn (drop place bytes) → ⊥
stands bytes place r torn = torn r.payload r.more r.fits r.stands

not_empty : (bytes : List ℕ) (place : ℕ) → HasFirstRecordAt bytes place → bytes ≡ [] → ⊥
not_empty bytes place r e =
    let n = ap length r.stands in
    absurd (omega (arith, ap length e, length-drop place bytes, length-append (record_of r.payload) r.more, length-record r.payload))

one_place : (bytes : List ℕ) (p q : ℕ) → HasFirstRecordAt bytes p → HasFirstRecordAt bytes q → p ≡ q
one_place bytes p q r s =
    elim (cases_lt p q) [
      | inl lt ↦ absurd (stands bytes p r (s.first p lt))
      | inr le ↦ elim (cases_lt q p) [
        | inl lt ↦ absurd (stands bytes q s (r.first q lt))
        | inr ge ↦ omega arith
      ]
    ]

pub one_kind : (bytes : List ℕ) (budget : ℕ) (a b : TailKind) → search_cost bytes ≤ budget → IsTail bytes budget a → IsTail bytes budget b → a ≡ b
one_kind bytes budget Empty Empty le x y = refl
one_kind bytes budget Empty Torn le x y = absurd (y.0 x)
one_kind bytes budget Empty (Damaged q) le x y = absurd (not_empty bytes q y x)
one_kind bytes budget Torn Empty le x y = absurd (x.0 y)
one_kind bytes budget Torn Torn le x y = refl
one_kind bytes budget Torn (Damaged q) le x y = absurd (stands bytes q y (x.1 q))
one_kind bytes budget (Damaged p) Empty le x y = absurd (not_empty bytes p x y)
one_kind bytes budget (Damaged p) Torn le x y = absurd (stands bytes p x (y.1 p))
one_kind bytes budget (Damaged p) (Damaged q) le x y = ap Damaged (one_place bytes p q x y)
one_kind bytes budget Unsearched b le x y = let lt = x.1 in absurd (omega arith)
one_kind bytes budget Empty Unsearched le x y = let lt = y.1 in absurd (omega arith)
one_kind bytes budget Torn Unsearched le x y = let lt = y.1 in absurd (omega arith)
one_kind bytes budget (Damaged p) Unsearched le x y = let lt = y.1 in absurd (omega arith)

-- ---- the search

pub check_le_search : (bytes : List ℕ) → 0 < length bytes → check_cost bytes ≤ search_cost bytes
check_le_search [] lt = absurd (omega arith)
check_le_search (byte ∷ bytes) lt = omega arith

pub over_budget : (bytes rest : List ℕ) (budget left cost : ℕ) → budget + search_cost rest ≡ left + search_cost bytes → 0 < length rest
    → cost ≡ check_cost rest → left < cost → budget < search_cost bytes
over_budget bytes rest budget left cost e lt is over = omega (arith, check_le_search rest lt)

pub none_further : (bytes : List ℕ) (n : ℕ) → length bytes ≤ n → ((place : ℕ) → place < n → IsTorn (drop place bytes)) → HasNoRecord bytes
none_further bytes n le torn place =
    elim (cases_lt place n) [
      | inl lt ↦ torn place lt
      | inr ge ↦ torn_short (drop place bytes) (omega (arith, length-drop place bytes))
    ]

pub some_left : (n : ℕ) → false ≡ (n == 0) → 0 < n
some_left n h = grind (arith, nat_tests)

pub none_left : (n : ℕ) → true ≡ (n == 0) → n ≡ 0
none_left n h = grind (arith, nat_tests)

pub is_filled : (bytes : List ℕ) → 0 < length bytes → bytes ≢ []
is_filled bytes lt e = absurd (omega (arith, ap length e))
