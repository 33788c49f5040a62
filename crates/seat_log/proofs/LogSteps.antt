-- Each step keeps the rule of the table of a log.
use Rattle.std.proofs.Common.{◌≡◌, ◌≢◌, ◌==◌, ◌⊎◌, inl, inr, ℕ, ◌+◌, ◌<◌, Bool, true, false, true≢false, List, [], ◌∷◌, ◌++◌, length, set, if◌then◌else◌, refl, sym, ap, ◌∙◌, subst, ⊎_elim, zero, suc, arith}
use Rattle.std.proofs.lemmas.Bool.Decides.{nat_tests}
use mathlib.Core.Option.{some, some-ne-none, some-injective}
use lib.ListN.{get_elem?}
use Rattle.atomic_table.specs.Table.{State, Me, Step, keeps, Allows, Splits, Joins}
use Rattle.atomic_table.proofs.Lists.{at_set, set_again}
use Rattle.seat_log.specs.declared.log_view.SeatEntry.{SeatEntry}
use Rattle.seat_log.specs.declared.log_view.LogView.{LogView}
use Rattle.seat_log.specs.LogParts.{log_part}
use mathlib.Core.List.{IsPrefix}
use Rattle.seat_log.specs.LogRule.{blank_view, keeper_of, log_founder, seat_of_part, with_log, without_log, only_log, one_seat_more, new_seat, part_note, with_note, without_note, only_note, FitsLog, IsLog, AddsToLog, ReadsPart}
use Rattle.seat_log.proofs.LogLists.{part_own, part_other, prefix_same, prefix_more, at_end}

off : false ≡ true → ⊥
off e = true≢false (sym e)

-- the place of each seat, with one seat more
abbrev placed : (ℕ → ℕ) → ℕ → ℕ → ℕ → ℕ
placed place number now n = if n == number then now else place n

module _ {E : Type 0} where
  -- the rule, of a state
  abbrev pub Ruling : State (Unit {0}) (LogView E) → Type 0
  Ruling s = IsLog s.views

  -- one view changes
  fits_set : (seat door : ℕ) (place : ℕ → ℕ) (opened : ℕ) (entries : List (SeatEntry E)) (views : List (LogView E)) (by : ℕ) (w : (LogView E)) → ((j : ℕ) (u : (LogView E)) → j ≢ by → get_elem? views j ≡ some u → FitsLog seat door place opened entries j u) → FitsLog seat door place opened entries by w
      → (j : ℕ) (u : (LogView E)) → get_elem? (set views by w) j ≡ some u → FitsLog seat door place opened entries j u
  fits_set seat door place opened entries views by w others mine j u e =
      ⊎_elim
      (λ (x : (j ≡ by) × (w ≡ u)). subst (λ (y : ℕ × (LogView E)). FitsLog seat door place opened entries y.0 y.1) (λ i. (sym x.0 i, x.1 i)) mine)
      (λ (x : (j ≢ by) × (get_elem? views j ≡ some u)). others j u x.0 x.1)
      (at_set views by j w u e)

  -- and a new one comes behind
  fits_end : (seat door : ℕ) (place : ℕ → ℕ) (opened : ℕ) (entries : List (SeatEntry E)) (views : List (LogView E)) (w : (LogView E)) → ((j : ℕ) (u : (LogView E)) → get_elem? views j ≡ some u → FitsLog seat door place opened entries j u) → FitsLog seat door place opened entries (length views) w
      → (j : ℕ) (u : (LogView E)) → get_elem? (views ++ w ∷ []) j ≡ some u → FitsLog seat door place opened entries j u
  fits_end seat door place opened entries views w others mine j u e =
      ⊎_elim
      (λ (was : get_elem? views j ≡ some u). others j u was)
      (λ (x : (j ≡ length views) × (w ≡ u)). subst (λ (y : ℕ × (LogView E)). FitsLog seat door place opened entries y.0 y.1) (λ i. (sym x.0 i, x.1 i)) mine)
      (at_end views w u j e)

  -- a view that knows nothing fits anywhere
  nobody_fits : (seat door : ℕ) (place : ℕ → ℕ) (opened : ℕ) (entries : List (SeatEntry E)) (by : ℕ) → FitsLog seat door place opened entries by (blank_view {E = E})
  nobody_fits seat door place opened entries by = record { keeping = λ e. absurd (off e); opening = λ e. absurd (off e); sitting = λ e. absurd (off e); noting = λ e. absurd (off e) }

  -- one who doesn't keep fits wherever the keeper sits
  fits_moved : (seat now door : ℕ) (place : ℕ → ℕ) (opened : ℕ) (entries : List (SeatEntry E)) (by : ℕ) (v : (LogView E)) → by ≢ seat → FitsLog seat door place opened entries by v → FitsLog now door place opened entries by v
  fits_moved seat now door place opened entries by v apart f = record { keeping = λ k. absurd (apart (f.keeping k).0); opening = f.opening; sitting = f.sitting; noting = f.noting }

  pub begins : IsLog (log_founder {E = E} ∷ [])
  begins = record { keeper_at = 0; opener_at = 0; place_of = λ n. 0; opened = 0; entries = []; each = one; others = λ n le. refl }
    where
      one : (by : ℕ) (v : (LogView E)) → get_elem? (log_founder {E = E} ∷ []) by ≡ some v → FitsLog 0 0 (λ n. 0) 0 [] by v
      one zero v e = subst (FitsLog 0 0 (λ n. 0) 0 [] 0) (some-injective _ _ e) (record { keeping = λ k. (refl, refl); opening = λ k. (refl, refl); sitting = λ s. absurd (off s); noting = λ s. absurd (off s) })
      one (suc by) v e = absurd (some-ne-none v (sym e))

  -- a seat that knows nothing
  pub spares : (id : ℕ) (v : (LogView E)) → Splits Ruling id v v (blank_view {E = E})
  spares id v s kept at =
      record {
        keeper_at = kept.keeper_at;
        opener_at = kept.opener_at;
        place_of = kept.place_of;
        opened = kept.opened;
        entries = kept.entries;
        each = fits_end kept.keeper_at kept.opener_at kept.place_of kept.opened kept.entries (set s.views id v) (blank_view {E = E})
            (λ j u was. kept.each j u (subst (λ (l : List (LogView E)). get_elem? l j ≡ some u) (set_again s.views id v at) was))
            (nobody_fits _ _ _ _ _ _);
        others = kept.others;
      }

  -- a seat takes in the keeper's
  pub holds : (id : ℕ) (v : (LogView E)) (other : ℕ) (w : (LogView E)) → w.is_keeper ≡ true → Joins Ruling id v other w (with_log v w) (blank_view {E = E})
  holds id v other w keep s kept at apart there =
      let was : get_elem? s.views other ≡ some w =
      ⊎_elim (λ (t : (other ≡ id) × (with_log v w ≡ w)). absurd (apart t.0)) (λ (t : (other ≢ id) × (get_elem? s.views other ≡ some w)). t.1) (at_set s.views id other (with_log v w) w there) in
      let theirs = (kept.each other w was).keeping keep in
      let mine = kept.each id v at in
      record {
        keeper_at = id;
        opener_at = kept.opener_at;
        place_of = kept.place_of;
        opened = kept.opened;
        entries = kept.entries;
        each = fits_set id kept.opener_at kept.place_of kept.opened kept.entries (set s.views id (with_log v w)) other (blank_view {E = E})
            (λ j u away e. set_but j u away e (at_set s.views id j (with_log v w) u e) theirs mine)
            (nobody_fits _ _ _ _ _ _);
        others = kept.others;
      }
    where
      set_but : (j : ℕ) (u : (LogView E)) → j ≢ other → get_elem? (set s.views id (with_log v w)) j ≡ some u
          → ((j ≡ id) × (with_log v w ≡ u)) ⊎ ((j ≢ id) × (get_elem? s.views j ≡ some u))
          → (other ≡ kept.keeper_at) × (w.entries ≡ kept.entries) → FitsLog kept.keeper_at kept.opener_at kept.place_of kept.opened kept.entries id v
          → FitsLog id kept.opener_at kept.place_of kept.opened kept.entries j u
      set_but j u away e (inl t) theirs mine =
          subst (λ (y : ℕ × (LogView E)). FitsLog id kept.opener_at kept.place_of kept.opened kept.entries y.0 y.1) (λ i. (sym t.0 i, t.1 i))
          (record { keeping = λ k. (refl, theirs.1); opening = mine.opening; sitting = mine.sitting; noting = mine.noting })
      set_but j u away e (inr t) theirs mine =
          fits_moved kept.keeper_at id kept.opener_at kept.place_of kept.opened kept.entries j u (λ same. away (same ∙ sym theirs.0)) (kept.each j u t.1)

  -- and gives it up
  pub leaves : (id : ℕ) (v : (LogView E)) → v.is_keeper ≡ true → Splits Ruling id v (without_log v) (only_log v)
  leaves id v keep s kept at =
      let mine = kept.each id v at in
      let known = mine.keeping keep in
      let now = length (set s.views id (without_log v)) in
      record {
        keeper_at = now;
        opener_at = kept.opener_at;
        place_of = kept.place_of;
        opened = kept.opened;
        entries = kept.entries;
        each = fits_end now kept.opener_at kept.place_of kept.opened kept.entries (set s.views id (without_log v)) (only_log v)
            (fits_set now kept.opener_at kept.place_of kept.opened kept.entries s.views id (without_log v)
            (λ j u apart e. fits_moved kept.keeper_at now kept.opener_at kept.place_of kept.opened kept.entries j u (λ same. apart (same ∙ sym known.0)) (kept.each j u e))
            (record { keeping = λ k. absurd (off k); opening = mine.opening; sitting = mine.sitting; noting = mine.noting }))
            (record { keeping = λ k. (refl, known.1); opening = λ e. absurd (off e); sitting = λ e. absurd (off e); noting = λ e. absurd (off e) });
        others = kept.others;
      }

  -- the opener opens a seat
  pub opens : (id : ℕ) (v : (LogView E)) → v.is_opener ≡ true → v.is_seat ≡ false → Splits Ruling id v (one_seat_more v) (new_seat v)
  opens id v gate alone s kept at =
      let mine = kept.each id v at in
      let known = mine.opening gate in
      let now = length (set s.views id (one_seat_more v)) in
      let place = placed kept.place_of v.opened now in
      record {
        keeper_at = kept.keeper_at;
        opener_at = kept.opener_at;
        place_of = place;
        opened = kept.opened + 1;
        entries = kept.entries;
        each = fits_end kept.keeper_at kept.opener_at place (kept.opened + 1) kept.entries (set s.views id (one_seat_more v)) (new_seat v)
            (fits_set kept.keeper_at kept.opener_at place (kept.opened + 1) kept.entries s.views id (one_seat_more v)
            (λ j u apart e. old now known j u apart (kept.each j u e))
            (record { keeping = mine.keeping; opening = λ k. (known.0, ap (λ n. n + 1) known.1); sitting = λ e. absurd (off (sym alone ∙ e)); noting = mine.noting }))
            (record { keeping = λ k. absurd (off k); opening = λ k. absurd (off k); sitting = λ e. new now known; noting = λ k. absurd (off k) });
        others = λ n le. kept.others n (omega arith);
      }
    where
      old : (now : ℕ) → (id ≡ kept.opener_at) × (v.opened ≡ kept.opened) → (j : ℕ) (u : (LogView E)) → j ≢ id → FitsLog kept.keeper_at kept.opener_at kept.place_of kept.opened kept.entries j u → FitsLog kept.keeper_at kept.opener_at (placed kept.place_of v.opened now) (kept.opened + 1) kept.entries j u
      old now known j u apart f =
          record {
            keeping = f.keeping;
            opening = λ k. absurd (apart ((f.opening k).0 ∙ sym known.0));
            sitting = λ e. let t = f.sitting e in
                let is = known.1 in let below = t.1 in
                let apart_is : (u.number == v.opened) ≡ false = grind (arith, nat_tests) in
                (t.0 ∙ sym (ap (λ (b : Bool). if b then now else kept.place_of u.number) apart_is), omega arith, t.2);
            noting = f.noting;
          }

      new : (now : ℕ) → (id ≡ kept.opener_at) × (v.opened ≡ kept.opened) → (now ≡ placed kept.place_of v.opened now v.opened) × (v.opened < kept.opened + 1) × (log_part v.opened kept.entries ≡ [])
      new now known =
          let is = known.1 in
          let it_is : (v.opened == v.opened) ≡ true = grind (arith, nat_tests) in
          (sym (ap (λ (b : Bool). if b then now else kept.place_of v.opened) it_is), omega arith, kept.others v.opened (omega arith))

  -- a seat notes what it knows
  pub notes : (id : ℕ) (v : (LogView E)) → v.is_seat ≡ true → Splits Ruling id v v (part_note v)
  notes id v sits s kept at =
      let own = (kept.each id v at).sitting sits in
      record {
        keeper_at = kept.keeper_at;
        opener_at = kept.opener_at;
        place_of = kept.place_of;
        opened = kept.opened;
        entries = kept.entries;
        each = fits_end kept.keeper_at kept.opener_at kept.place_of kept.opened kept.entries (set s.views id v) (part_note v)
            (λ j u was. kept.each j u (subst (λ (l : List (LogView E)). get_elem? l j ≡ some u) (set_again s.views id v at) was))
            (record { keeping = λ e. absurd (off e); opening = λ e. absurd (off e); sitting = λ e. absurd (off e); noting = λ e. prefix_same v.part (log_part v.number kept.entries) (sym own.2) });
        others = kept.others;
      }

  -- a seat takes in a note
  pub takes_note : (id : ℕ) (v : (LogView E)) (other : ℕ) (w : (LogView E)) → Joins Ruling id v other w (with_note v w) (blank_view {E = E})
  takes_note id v other w s kept at apart there =
      let was : get_elem? s.views other ≡ some w =
      ⊎_elim (λ (t : (other ≡ id) × (with_note v w ≡ w)). absurd (apart t.0)) (λ (t : (other ≢ id) × (get_elem? s.views other ≡ some w)). t.1) (at_set s.views id other (with_note v w) w there) in
      let theirs = kept.each other w was in
      let mine = kept.each id v at in
      record {
        keeper_at = kept.keeper_at;
        opener_at = kept.opener_at;
        place_of = kept.place_of;
        opened = kept.opened;
        entries = kept.entries;
        each = fits_set kept.keeper_at kept.opener_at kept.place_of kept.opened kept.entries (set s.views id (with_note v w)) other (blank_view {E = E})
            (λ j u away e. fits_set kept.keeper_at kept.opener_at kept.place_of kept.opened kept.entries s.views id (with_note v w)
            (λ i x differs found. kept.each i x found)
            (record { keeping = mine.keeping; opening = mine.opening; sitting = mine.sitting; noting = theirs.noting }) j u e)
            (nobody_fits _ _ _ _ _ _);
        others = kept.others;
      }

  -- and gives it away
  pub leaves_note : (id : ℕ) (v : (LogView E)) → Splits Ruling id v (without_note v) (only_note v)
  leaves_note id v s kept at =
      let mine = kept.each id v at in
      record {
        keeper_at = kept.keeper_at;
        opener_at = kept.opener_at;
        place_of = kept.place_of;
        opened = kept.opened;
        entries = kept.entries;
        each = fits_end kept.keeper_at kept.opener_at kept.place_of kept.opened kept.entries (set s.views id (without_note v)) (only_note v)
            (fits_set kept.keeper_at kept.opener_at kept.place_of kept.opened kept.entries s.views id (without_note v)
            (λ j u apart e. kept.each j u e)
            (record { keeping = mine.keeping; opening = mine.opening; sitting = mine.sitting; noting = λ e. absurd (off e) }))
            (record { keeping = λ e. absurd (off e); opening = λ e. absurd (off e); sitting = λ e. absurd (off e); noting = mine.noting });
        others = kept.others;
      }

  module _ (slots id : ℕ) (me : Me (Unit {0}) (LogView E)) (st : Step (Unit {0})) where
    -- an entry is added by the seat that is the keeper too
    pub adds : (may : E → Type 0) (e : E) → me.0.is_keeper ≡ true → me.0.is_seat ≡ true → may e → Allows Ruling slots id me 0 (λ n. n) (AddsToLog may st me)
    adds may e keep sits allowed s kept homes at fits =
        let mine = kept.each id me.0 at in
        let known = mine.keeping keep in
        let own = mine.sitting sits in
        let more : SeatEntry E = record { seat = me.0.number; entry = e } in
        let now : List (SeatEntry E) = me.0.entries ++ more ∷ [] in
        let w = with_log (seat_of_part me.0.number (me.0.part ++ e ∷ [])) (keeper_of now) in
        let longer : now ≡ kept.entries ++ more ∷ [] = ap (λ (l : List (SeatEntry E)). l ++ more ∷ []) known.1 in
        let part : log_part me.0.number now ≡ me.0.part ++ e ∷ [] =
        ap (log_part me.0.number) longer ∙ (part_own me.0.number kept.entries more refl ∙ ap (λ (l : List E). l ++ e ∷ []) own.2) in (
          w,
          keeps,
          tt,
          record {
            keeper_at = kept.keeper_at;
            opener_at = kept.opener_at;
            place_of = kept.place_of;
            opened = kept.opened;
            entries = now;
            each = fits_set kept.keeper_at kept.opener_at kept.place_of kept.opened now s.views id w
                (λ j u apart e'. let f = kept.each j u e' in
                record {
                  keeping = λ k. absurd (apart ((f.keeping k).0 ∙ sym known.0));
                  opening = f.opening;
                  sitting = λ srv. let t = f.sitting srv in
                      let differs : me.0.number ≢ u.number = λ same. apart (t.0 ∙ (ap kept.place_of (sym same) ∙ sym own.0)) in
                      (t.0, t.1, ap (log_part u.number) longer ∙ (part_other u.number kept.entries more differs ∙ t.2));
                  noting = λ k. subst (λ (l : List (SeatEntry E)). IsPrefix u.known (log_part u.noted l)) (sym longer) (prefix_more u.known u.noted kept.entries more (f.noting k));
                })
                (record { keeping = λ k. (known.0, refl); opening = λ k. absurd (off k); sitting = λ srv. (own.0, own.1, part); noting = λ k. absurd (off k) });
            others = λ n le. let below = own.1 in
                let differs : me.0.number ≢ n = λ same. absurd (omega (arith, same, below, le)) in
                ap (log_part n) longer ∙ (part_other n kept.entries more differs ∙ kept.others n le);
          },
          (e, allowed, refl),
        )

    -- the note that was taken in is a beginning of the noted seat's part
    pub reads : me.0.is_seat ≡ true → me.0.is_note ≡ true → Allows Ruling slots id me 0 (λ n. n) (ReadsPart st me)
    reads sits noted s kept homes at fits =
        let mine = kept.each id me.0 at in
        let own = mine.sitting sits in (
          me.0,
          keeps,
          tt,
          record {
            keeper_at = kept.keeper_at;
            opener_at = kept.opener_at;
            place_of = kept.place_of;
            opened = kept.opened;
            entries = kept.entries;
            each = λ j u e. kept.each j u (subst (λ (l : List (LogView E)). get_elem? l j ≡ some u) (set_again s.views id me.0 at) e);
            others = kept.others;
          },
          (
            refl,
            λ same. subst (λ (l : List E). IsPrefix me.0.known l) (ap (λ (n : ℕ). log_part n kept.entries) same ∙ own.2) (mine.noting noted),
          ),
        )
