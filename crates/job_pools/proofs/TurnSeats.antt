-- Each step keeps the rule of the table of a queue's history.
use Rattle.std.proofs.Common.{◌≡◌, ◌≢◌, ◌==◌, ◌⊎◌, inl, inr, ℕ, ◌+◌, ◌<◌, ◌≤◌, Bool, true, false, true≢false, List, [], ◌∷◌, ◌++◌, length, set, if◌then◌else◌, refl, sym, ap, ◌∙◌, subst, ⊎_elim, zero, suc, arith}
use Rattle.std.proofs.lemmas.Bool.Decides.{nat_tests}
use mathlib.Core.Option.{some, some-ne-none, some-injective}
use lib.ListN.{get_elem?}
use Rattle.atomic_table.specs.Table.{State, Me, Step, keeps, Allows, Splits, Joins}
use Rattle.atomic_table.proofs.Lists.{at_set, set_again}
use Rattle.job_pools.specs.declared.turn_seats.QueueStep.{QueueStep}
use Rattle.job_pools.specs.declared.turn_seats.TurnView.{TurnView}
use Rattle.job_pools.specs.TurnHistories.{steps_of}
use Rattle.job_pools.specs.TurnRule.{no_turn_view, turn_recorder, turn_founder, end_view, with_history, without_history, only_history, one_end_more, new_end_view, FitsTurns, IsQueueHistory, AddsStep}
use Rattle.job_pools.proofs.TurnParts.{steps_own, steps_other, at_end}

off : false ≡ true → ⊥
off e = true≢false (sym e)

-- the rule, of a state
abbrev pub Ruling : State (Unit {0}) TurnView → Type 0
Ruling s = IsQueueHistory s.views

-- one view changes
fits_set : (seat door : ℕ) (place : ℕ → ℕ) (opened : ℕ) (history : List QueueStep) (views : List TurnView) (by : ℕ) (w : TurnView) → ((j : ℕ) (u : TurnView) → j ≢ by → get_elem? views j ≡ some u → FitsTurns seat door place opened history j u) → FitsTurns seat door place opened history by w
    → (j : ℕ) (u : TurnView) → get_elem? (set views by w) j ≡ some u → FitsTurns seat door place opened history j u
fits_set seat door place opened history views by w others mine j u e =
    ⊎_elim
    (λ (x : (j ≡ by) × (w ≡ u)). subst (λ (y : ℕ × TurnView). FitsTurns seat door place opened history y.0 y.1) (λ i. (sym x.0 i, x.1 i)) mine)
    (λ (x : (j ≢ by) × (get_elem? views j ≡ some u)). others j u x.0 x.1)
    (at_set views by j w u e)

-- and a new one comes behind
fits_end : (seat door : ℕ) (place : ℕ → ℕ) (opened : ℕ) (history : List QueueStep) (views : List TurnView) (w : TurnView) → ((j : ℕ) (u : TurnView) → get_elem? views j ≡ some u → FitsTurns seat door place opened history j u) → FitsTurns seat door place opened history (length views) w
    → (j : ℕ) (u : TurnView) → get_elem? (views ++ w ∷ []) j ≡ some u → FitsTurns seat door place opened history j u
fits_end seat door place opened history views w others mine j u e =
    ⊎_elim
    (λ (was : get_elem? views j ≡ some u). others j u was)
    (λ (x : (j ≡ length views) × (w ≡ u)). subst (λ (y : ℕ × TurnView). FitsTurns seat door place opened history y.0 y.1) (λ i. (sym x.0 i, x.1 i)) mine)
    (at_end views w u j e)

-- a view that knows nothing fits anywhere
nobody_fits : (seat door : ℕ) (place : ℕ → ℕ) (opened : ℕ) (history : List QueueStep) (by : ℕ) → FitsTurns seat door place opened history by no_turn_view
nobody_fits seat door place opened history by = record { recording = λ e. absurd (off e); opening = λ e. absurd (off e); serving = λ e. absurd (off e) }

-- one who doesn't keep fits wherever the recorder sits
fits_moved : (seat now door : ℕ) (place : ℕ → ℕ) (opened : ℕ) (history : List QueueStep) (by : ℕ) (v : TurnView) → by ≢ seat → FitsTurns seat door place opened history by v → FitsTurns now door place opened history by v
fits_moved seat now door place opened history by v apart f = record { recording = λ k. absurd (apart (f.recording k).0); opening = f.opening; serving = f.serving }

pub begins : IsQueueHistory (turn_founder ∷ [])
begins = record { recorder_at = 0; opener_at = 0; seat_of = λ n. 0; opened = 0; history = []; each = one; others = λ n le. refl }
  where
    one : (by : ℕ) (v : TurnView) → get_elem? (turn_founder ∷ []) by ≡ some v → FitsTurns 0 0 (λ n. 0) 0 [] by v
    one zero v e = subst (FitsTurns 0 0 (λ n. 0) 0 [] 0) (some-injective _ _ e) (record { recording = λ k. (refl, refl); opening = λ k. (refl, refl); serving = λ s. absurd (off s) })
    one (suc by) v e = absurd (some-ne-none v (sym e))

-- a seat that knows nothing
pub spares : (id : ℕ) (v : TurnView) → Splits Ruling id v v no_turn_view
spares id v s kept at =
    record {
      recorder_at = kept.recorder_at;
      opener_at = kept.opener_at;
      seat_of = kept.seat_of;
      opened = kept.opened;
      history = kept.history;
      each = fits_end kept.recorder_at kept.opener_at kept.seat_of kept.opened kept.history (set s.views id v) no_turn_view
          (λ j u was. kept.each j u (subst (λ (l : List TurnView). get_elem? l j ≡ some u) (set_again s.views id v at) was))
          (nobody_fits _ _ _ _ _ _);
      others = kept.others;
    }

-- a seat takes in the recorder's
pub holds : (id : ℕ) (v : TurnView) (other : ℕ) (w : TurnView) → w.is_recorder ≡ true → Joins Ruling id v other w (with_history v w) no_turn_view
holds id v other w keep s kept at apart there =
    let was : get_elem? s.views other ≡ some w =
    ⊎_elim (λ (t : (other ≡ id) × (with_history v w ≡ w)). absurd (apart t.0)) (λ (t : (other ≢ id) × (get_elem? s.views other ≡ some w)). t.1) (at_set s.views id other (with_history v w) w there) in
    let theirs = (kept.each other w was).recording keep in
    let mine = kept.each id v at in
    record {
      recorder_at = id;
      opener_at = kept.opener_at;
      seat_of = kept.seat_of;
      opened = kept.opened;
      history = kept.history;
      each = fits_set id kept.opener_at kept.seat_of kept.opened kept.history (set s.views id (with_history v w)) other no_turn_view
          (λ j u away e. set_but j u away e (at_set s.views id j (with_history v w) u e) theirs mine)
          (nobody_fits _ _ _ _ _ _);
      others = kept.others;
    }
  where
    set_but : (j : ℕ) (u : TurnView) → j ≢ other → get_elem? (set s.views id (with_history v w)) j ≡ some u
        → ((j ≡ id) × (with_history v w ≡ u)) ⊎ ((j ≢ id) × (get_elem? s.views j ≡ some u))
        → (other ≡ kept.recorder_at) × (w.history ≡ kept.history) → FitsTurns kept.recorder_at kept.opener_at kept.seat_of kept.opened kept.history id v
        → FitsTurns id kept.opener_at kept.seat_of kept.opened kept.history j u
    set_but j u away e (inl t) theirs mine =
        subst (λ (y : ℕ × TurnView). FitsTurns id kept.opener_at kept.seat_of kept.opened kept.history y.0 y.1) (λ i. (sym t.0 i, t.1 i))
        (record { recording = λ k. (refl, theirs.1); opening = mine.opening; serving = mine.serving })
    set_but j u away e (inr t) theirs mine =
        fits_moved kept.recorder_at id kept.opener_at kept.seat_of kept.opened kept.history j u (λ same. away (same ∙ sym theirs.0)) (kept.each j u t.1)

-- and gives it up
pub leaves : (id : ℕ) (v : TurnView) → v.is_recorder ≡ true → Splits Ruling id v (without_history v) (only_history v)
leaves id v keep s kept at =
    let mine = kept.each id v at in
    let known = mine.recording keep in
    let now = length (set s.views id (without_history v)) in
    record {
      recorder_at = now;
      opener_at = kept.opener_at;
      seat_of = kept.seat_of;
      opened = kept.opened;
      history = kept.history;
      each = fits_end now kept.opener_at kept.seat_of kept.opened kept.history (set s.views id (without_history v)) (only_history v)
          (fits_set now kept.opener_at kept.seat_of kept.opened kept.history s.views id (without_history v)
          (λ j u apart e. fits_moved kept.recorder_at now kept.opener_at kept.seat_of kept.opened kept.history j u (λ same. apart (same ∙ sym known.0)) (kept.each j u e))
          (record { recording = λ k. absurd (off k); opening = mine.opening; serving = mine.serving }))
          (record { recording = λ k. (refl, known.1); opening = λ e. absurd (off e); serving = λ e. absurd (off e) });
      others = kept.others;
    }

-- the seat of each end, with one end more
abbrev placed : (ℕ → ℕ) → ℕ → ℕ → ℕ → ℕ
placed place number now n = if n == number then now else place n

-- the opener opens an end
pub opens : (id : ℕ) (v : TurnView) → v.is_opener ≡ true → v.is_end ≡ false → Splits Ruling id v (one_end_more v) (new_end_view v)
opens id v gate alone s kept at =
    let mine = kept.each id v at in
    let known = mine.opening gate in
    let now = length (set s.views id (one_end_more v)) in
    let place = placed kept.seat_of v.opened now in
    record {
      recorder_at = kept.recorder_at;
      opener_at = kept.opener_at;
      seat_of = place;
      opened = kept.opened + 1;
      history = kept.history;
      each = fits_end kept.recorder_at kept.opener_at place (kept.opened + 1) kept.history (set s.views id (one_end_more v)) (new_end_view v)
          (fits_set kept.recorder_at kept.opener_at place (kept.opened + 1) kept.history s.views id (one_end_more v)
          (λ j u apart e. old now known j u apart (kept.each j u e))
          (record { recording = mine.recording; opening = λ k. (known.0, ap (λ n. n + 1) known.1); serving = λ e. absurd (off (sym alone ∙ e)) }))
          (record { recording = λ k. absurd (off k); opening = λ k. absurd (off k); serving = λ e. new now known });
      others = λ n le. kept.others n (omega arith);
    }
  where
    old : (now : ℕ) → (id ≡ kept.opener_at) × (v.opened ≡ kept.opened) → (j : ℕ) (u : TurnView) → j ≢ id → FitsTurns kept.recorder_at kept.opener_at kept.seat_of kept.opened kept.history j u → FitsTurns kept.recorder_at kept.opener_at (placed kept.seat_of v.opened now) (kept.opened + 1) kept.history j u
    old now known j u apart f =
        record {
          recording = f.recording;
          opening = λ k. absurd (apart ((f.opening k).0 ∙ sym known.0));
          serving = λ e. let t = f.serving e in
              let is = known.1 in let below = t.1 in
              let apart_is : (u.number == v.opened) ≡ false = grind (arith, nat_tests) in
              (t.0 ∙ sym (ap (λ (b : Bool). if b then now else kept.seat_of u.number) apart_is), omega arith, t.2);
        }

    new : (now : ℕ) → (id ≡ kept.opener_at) × (v.opened ≡ kept.opened) → (now ≡ placed kept.seat_of v.opened now v.opened) × (v.opened < kept.opened + 1) × (steps_of v.opened kept.history ≡ [])
    new now known =
        let is = known.1 in
        let it_is : (v.opened == v.opened) ≡ true = grind (arith, nat_tests) in
        (sym (ap (λ (b : Bool). if b then now else kept.seat_of v.opened) it_is), omega arith, kept.others v.opened (omega arith))

module _ (slots id : ℕ) (me : Me (Unit {0}) TurnView) (st : Step (Unit {0})) where
  -- a step is added by the end that is the recorder too
  pub adds : (may : QueueStep → Type 0) (e : QueueStep) → me.0.is_recorder ≡ true → me.0.is_end ≡ true → may e → e.end ≡ me.0.number → Allows Ruling slots id me 0 (λ n. n) (AddsStep may st me)
  adds may e keep serve allowed whose s kept homes at fits =
      let mine = kept.each id me.0 at in
      let known = mine.recording keep in
      let own = mine.serving serve in
      let now : List QueueStep = me.0.history ++ e ∷ [] in
      let w = with_history (end_view me.0.number (me.0.part ++ e ∷ [])) (turn_recorder now) in
      let longer : now ≡ kept.history ++ e ∷ [] = ap (λ l. l ++ e ∷ []) known.1 in
      let part : steps_of me.0.number now ≡ me.0.part ++ e ∷ [] =
      ap (steps_of me.0.number) longer ∙ (steps_own me.0.number kept.history e whose ∙ ap (λ l. l ++ e ∷ []) own.2) in (
        w,
        keeps,
        tt,
        record {
          recorder_at = kept.recorder_at;
          opener_at = kept.opener_at;
          seat_of = kept.seat_of;
          opened = kept.opened;
          history = now;
          each = fits_set kept.recorder_at kept.opener_at kept.seat_of kept.opened now s.views id w
              (λ j u apart e'. let f = kept.each j u e' in
              record {
                recording = λ k. absurd (apart ((f.recording k).0 ∙ sym known.0));
                opening = f.opening;
                serving = λ srv. let t = f.serving srv in
                    let differs : e.end ≢ u.number = λ same. apart (t.0 ∙ (ap kept.seat_of (sym same ∙ whose) ∙ sym own.0)) in
                    (t.0, t.1, ap (steps_of u.number) longer ∙ (steps_other u.number kept.history e differs ∙ t.2));
              })
              (record { recording = λ k. (known.0, refl); opening = λ k. absurd (off k); serving = λ srv. (own.0, own.1, part) });
          others = λ n le. let below = own.1 in
              let differs : e.end ≢ n = λ same. absurd (omega (arith, sym same ∙ whose, below, le)) in
              ap (steps_of n) longer ∙ (steps_other n kept.history e differs ∙ kept.others n le);
        },
        (e, allowed, whose, refl),
      )
