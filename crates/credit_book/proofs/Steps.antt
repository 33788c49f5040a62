-- Each step keeps the rule of the board.
use Rattle.std.proofs.Common.{◌≡◌, ◌≢◌, ℕ, ◌+◌, ◌≤◌, true, false, true≢false, List, [], ◌∷◌, set, refl, sym, ap, ◌∙◌, subst, ⊎_elim, zero, suc}
use Rattle.std.specs.Prelude.{slice_index, slice_set}
use mathlib.Core.Option.{some, some-ne-none, some-injective}
use mathlib.Core.List.{IsPrefix}
use lib.ListN.{get_elem?}
use Rattle.atomic_table.specs.Table.{Me, Step, keeps, Allows, Splits, opening}
use Rattle.atomic_table.proofs.Lists.{at_set, at_snoc, set_again}
use Rattle.credit_book.specs.declared.event.Event.{Event}
use Rattle.credit_book.specs.declared.event.Event.TheVariants.{Open}
use Rattle.credit_book.specs.declared.seats.Opening.{Opening}
use Rattle.credit_book.specs.declared.seats.View.{View}
use Rattle.credit_book.specs.History.{board_word, IsHistoryOf, IsLegal}
use Rattle.credit_book.specs.Rule.{writer, reader, opened, Fits, BoardRule, Tells, Looks}
use Rattle.credit_book.proofs.Histories.{longer_history}
use Rattle.credit_book.specs.Quiet.{GrowsByEnd}
use Rattle.credit_book.proofs.Prefixes.{prefix_self, prefix_trans, grown_prefix}

off : false ≡ true → ⊥
off e = true≢false (sym e)

pub fits_set : (seat : ℕ) (h now : List Event) (views : List View) (by : ℕ) (w : View) → ((j : ℕ) (u : View) → j ≢ by → get_elem? views j ≡ some u → Fits seat now j u) → Fits seat now by w
    → (j : ℕ) (u : View) → get_elem? (set views by w) j ≡ some u → Fits seat now j u
fits_set seat h now views by w others mine j u e =
    ⊎_elim
    (λ (x : (j ≡ by) × (w ≡ u)). subst (λ (y : ℕ × View). Fits seat now y.0 y.1) (λ i. (sym x.0 i, x.1 i)) mine)
    (λ (x : (j ≢ by) × (get_elem? views j ≡ some u)). others j u x.0 x.1)
    (at_set views by j w u e)

pub begins : (S : Type 0) (o : Opening) → 1 ≤ o.issued → o.issued ≤ 2147483647 → BoardRule {S = S} o (opening (0 ∷ []) [] (opened o))
begins S o low high = (0, Open o.job o.issued ∷ [], (((refl, low, high), tt), ([], refl)), refl, one)
  where
    one : (by : ℕ) (v : View) → get_elem? (opened o ∷ []) by ≡ some v → Fits 0 (Open o.job o.issued ∷ []) by v
    one zero v e = subst (Fits 0 (Open o.job o.issued ∷ []) 0) (some-injective _ _ e) (prefix_self _, (λ _. (refl, refl)))
    one (suc by) v e = absurd (some-ne-none v (sym e))

module _ {S : Type 0} (o : Opening) (slots id : ℕ) (me : Me S View) (st : Step S) where
  -- a look of a reader
  pub sees : me.0.writes ≡ false → Allows (BoardRule o) slots id me 0 (λ n. n) (Looks st me)
  sees reads s kept homes at fits =
      let history = kept.1 in
      let w = reader history (me.0.looks + 1) in
      let mine = kept.4 id me.0 at in (
        w,
        keeps,
        tt,
        (
          kept.0,
          history,
          kept.2,
          ap (λ (ws : List ℕ). slice_set ws 0 (slice_index ws 0)) kept.3,
          fits_set kept.0 history history s.views id w (λ j u _ e. kept.4 j u e) (prefix_self history, (λ e. absurd (off e))),
        ),
        (history, refl, mine.0, kept.2.0, sym (ap (λ (ws : List ℕ). slice_index ws 0) kept.3)),
      )

  -- the step of the writer that publishes a whole history
  pub publishes : (now : List Event) (f : ℕ → ℕ) → me.0.writes ≡ true → IsLegal now → GrowsByEnd me.0.history now → f (board_word me.0.history) ≡ board_word now
      → Allows (BoardRule o) slots id me 0 f (Tells now st me)
  publishes now f writes legal grows becomes s kept homes at fits =
      let longer = grown_prefix me.0.history now grows in
      let mine = (kept.4 id me.0 at).1 writes in
      let is : me.0.history ≡ kept.1 = mine.1 in
      let w = writer now in
      let history : IsHistoryOf o.job o.issued me.0.history = subst (IsHistoryOf o.job o.issued) (sym is) kept.2 in
      let words : s.words ≡ board_word me.0.history ∷ [] = kept.3 ∙ ap (λ (l : List Event). board_word l ∷ []) (sym is) in (
        w,
        keeps,
        tt,
        (
          kept.0,
          now,
          longer_history o.job o.issued me.0.history now history longer legal,
          ap (λ (ws : List ℕ). slice_set ws 0 (f (slice_index ws 0))) words ∙ ap (λ (n : ℕ). n ∷ []) becomes,
          fits_set kept.0 now now s.views id w
              (λ j u apart e'. let theirs = kept.4 j u e' in
              (prefix_trans u.history me.0.history now (subst (IsPrefix u.history) (sym is) theirs.0) longer, (λ t. absurd (apart ((theirs.1 t).0 ∙ sym mine.0)))))
              (prefix_self now, (λ _. (mine.0, refl))),
        ),
        (refl, legal, grows),
      )

-- a new reader has seen what the seat knows
pub tells : {S : Type 0} (o : Opening) (id : ℕ) (v : View) → Splits (BoardRule {S = S} o) id v v (reader v.history 0)
tells o id v s kept at = (
  kept.0,
  kept.1,
  kept.2,
  kept.3,
  λ j u e. ⊎_elim
      (λ (was : get_elem? (set s.views id v) j ≡ some u). kept.4 j u (subst (λ (l : List View). get_elem? l j ≡ some u) (set_again s.views id v at) was))
      (λ (same : reader v.history 0 ≡ u). subst (Fits kept.0 kept.1 j) same ((kept.4 id v at).0, (λ e. absurd (off e))))
      (at_snoc (set s.views id v) (reader v.history 0) u j e),
)
