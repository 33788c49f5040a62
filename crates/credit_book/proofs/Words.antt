-- What the word of a board tells.
use Rattle.std.proofs.Common.{◌≡◌, ℕ, ◌+◌, ◌*◌, ◌/◌, ◌%◌, ◌<◌, ◌↔◌, IsTrue, List, ◌++◌, sym, ap, ◌∙◌, subst, arith, nat_eq, eq-eqb, eqb-true}
use mathlib.Core.List.{IsPrefix}
use Rattle.credit_book.specs.declared.event.Event.{Event}
use Rattle.credit_book.specs.History.{IsLegal, IsHistoryOf, IsComplete, table_of, spent_in, returned_in, board_word}
use Rattle.std.proofs.Common.{false}
use mathlib.Core.Option.{none}
use Rattle.atomic_table.specs.Table.{Me, step}
use Rattle.credit_book.specs.declared.seats.View.{View}
use Rattle.credit_book.specs.Rule.{Looks}
use Rattle.credit_book.proofs.Sound.{sound_of, complete_from-held, held_from-complete}

pub seen_history : (job issued : ℕ) (h seen : List Event) → IsHistoryOf job issued h → IsPrefix h seen → IsLegal seen → IsHistoryOf job issued seen
seen_history job issued h seen is pre legal = (legal, (is.1.0 ++ pre.0, sym pre.1 ∙ ap (λ l. l ++ pre.0) is.1.1))

module _ (job issued : ℕ) (h : List Event) (n : ℕ) (is : IsHistoryOf job issued h) (word : board_word h ≡ n) where
  pub spent_is : n % 4294967296 ≡ spent_in (table_of h)
  spent_is = let s = sound_of job issued h is in let c = s.0.conserved in let w : returned_in (table_of h) * 4294967296 + spent_in (table_of h) ≡ n = word in omega arith

  pub returned_is : n / 4294967296 ≡ returned_in (table_of h)
  returned_is = let s = sound_of job issued h is in let c = s.0.conserved in let w : returned_in (table_of h) * 4294967296 + spent_in (table_of h) ≡ n = word in omega arith

  pub complete_is : IsTrue (nat_eq (n % 4294967296 + n / 4294967296) issued) ↔ IsComplete (table_of h)
  complete_is =
      let s = sound_of job issued h is in
      let c = s.0.conserved in (
        (λ t. let all = eqb-true _ _ t in complete_from-held issued (table_of h) s.0 (omega (arith, spent_is, returned_is))),
        (λ all. let none = held_from-complete issued (table_of h) s.0 all in eq-eqb _ _ (omega (arith, spent_is, returned_is))),
      )

-- what a reader's seat knows after a look
pub seen_now : {S : Type 0} (job issued : ℕ) (v : Me S View) (found : ℕ) (w : Me S View) → IsHistoryOf job issued v.0.history → Looks (step 0 0 0 0 none) v found w
    → (w.0.writes ≡ false) × IsHistoryOf job issued w.0.history × (board_word w.0.history ≡ found) × IsPrefix v.0.history w.0.history × (w.0.looks ≡ v.0.looks + 1)
seen_now job issued v found w is s =
    let same : w.0.history ≡ s.0 = ap (λ m. m.0.history) s.1 in (
      ap (λ m. m.0.writes) s.1,
      subst (IsHistoryOf job issued) (sym same) (seen_history job issued v.0.history s.0 is s.2 s.3),
      ap board_word same ∙ s.4,
      subst (IsPrefix v.0.history) (sym same) s.2,
      ap (λ m. m.0.looks) s.1,
    )

pub word_small : (job issued : ℕ) (h : List Event) → IsHistoryOf job issued h → board_word h < 18446744073709551616
word_small job issued h is = let s = sound_of job issued h is in let c = s.0.conserved in omega arith
