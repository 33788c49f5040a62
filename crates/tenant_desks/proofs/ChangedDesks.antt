-- Desks of which one changes.
use Rattle.std.proofs.Common.{◌≡◌, ◌≢◌, ◌⊎◌, ℕ, zero, suc, List, [], ◌∷◌, length, slice_get, slice_set, Option, Some, Result, refl, sym, ap, subst, ◌∙◌, inl, inr, arith}
use Rattle.std.proofs.lemmas.List.{length-set}
use Rattle.credit_book.specs.declared.book.Report.{Report}
use Rattle.accounts.specs.Ledgers.{Ledger}
use Rattle.tenant_desks.specs.Answering.{NotesAtPlace, EndsTaken, none_yet, one_more}
use Rattle.tenant_desks.specs.Tenancies.{ChangesAt}

-- each desk is so, by its place
abbrev pub EachDesk : (ℕ → Ledger → Type 0) → List Ledger → Type 0
EachDesk P desks = (place : ℕ) (desk : Ledger) → slice_get desks place ≡ Some desk → P place desk

-- what is at a place, where one place was set
pub set_at : {X : Type 0} (xs : List X) (i : ℕ) (x : X) (j : ℕ) (y : X) → slice_get (slice_set xs i x) j ≡ Some y → ((j ≡ i) × (x ≡ y)) ⊎ ((j ≢ i) × (slice_get xs j ≡ Some y))
set_at [] i x j y at = cc
set_at (z ∷ xs) zero x zero y at = inl (refl, cc)
set_at (z ∷ xs) zero x (suc j) y at = inr ((λ same. absurd (omega (arith, same))), at)
set_at (z ∷ xs) (suc i) x zero y at = inr ((λ same. absurd (omega (arith, same))), at)
set_at (z ∷ xs) (suc i) x (suc j) y at = later (set_at xs i x j y at)
  where
    later : ((j ≡ i) × (x ≡ y)) ⊎ ((j ≢ i) × (slice_get xs j ≡ Some y)) → ((suc j ≡ suc i) × (x ≡ y)) ⊎ ((suc j ≢ suc i) × (slice_get xs j ≡ Some y))
    later (inl t) = inl (ap suc t.0, t.1)
    later (inr t) = inr ((λ same. t.0 (omega (arith, same))), t.1)

-- Where a change leads from one fact of the desk at its place to another, and the fact of every other
-- desk to the other one, each desk is so.
pub each_changed : (P Q : ℕ → Ledger → Type 0) (place : ℕ) (change : Ledger → Ledger → Type 0) (old new : List Ledger) → ChangesAt place change old new
    → ((d e : Ledger) → P place d → change d e → Q place e) → ((i : ℕ) (d : Ledger) → i ≢ place → P i d → Q i d) → EachDesk P old → EachDesk Q new
each_changed P Q place change old new c here others was i desk at = by_place (set_at old place c.after i desk (ap (λ ds. slice_get ds i) (sym c.is) ∙ at))
  where
    by_place : ((i ≡ place) × (c.after ≡ desk)) ⊎ ((i ≢ place) × (slice_get old i ≡ Some desk)) → Q i desk
    by_place (inl t) =
        let T : ℕ × Ledger → Type 0 = λ p. Q p.0 p.1 in
        subst T (λ k. (sym t.0 k, t.1 k)) (here c.before c.after (was place c.before c.was) c.changed)
    by_place (inr t) = others i desk t.0 (was i desk t.1)

-- ---- there are as many desks as before

pub count_changed : (place : ℕ) (change : Ledger → Ledger → Type 0) (old new : List Ledger) → ChangesAt place change old new → length new ≡ length old
count_changed place change old new c = ap length c.is ∙ length-set old place c.after

count_noted : (old : List Ledger) (number : ℕ) (outcome : Result Report ℕ) (new : List Ledger) → NotesAtPlace old number outcome new → length new ≡ length old
count_noted old number outcome new n = elim n.noted [
  | inl c ↦ count_changed n.place _ old new c
  | inr t ↦ ap length t.1
]

pub count_taken : {R : Type 0} (takes : R → Option (ℕ × Result Report ℕ) → R → Type 0) (ds : List Ledger) (r : R) (es : List Ledger) (s : R) → EndsTaken takes ds r es s → length es ≡ length ds
count_taken takes ds r es s none_yet = refl
count_taken takes ds r es s (one_more ds1 r1 number outcome s1 es1 before step noted) =
    count_noted ds1 number outcome es1 noted ∙ count_taken takes ds r ds1 r1 before
