-- Each step keeps the rule of the table.
use Rattle.std.proofs.Common.{◌≡◌, ◌≢◌, ◌==◌, ◌⊎◌, inl, inr, ℕ, ◌+◌, ◌<◌, ◌≤◌, Bool, true, false, true≢false, List, [], ◌∷◌, ◌++◌, length, set, if◌then◌else◌, refl, sym, ap, ◌∙◌, subst, ⊎_elim, zero, suc, arith}
use Rattle.std.proofs.lemmas.Bool.Decides.{nat_tests}
use mathlib.Core.Option.{some, some-ne-none, some-injective}
use mathlib.Core.List.{IsPrefix}
use lib.ListN.{get_elem?}
use Rattle.atomic_table.specs.Table.{State, Me, Step, keeps, Allows, Splits, Joins}
use Rattle.atomic_table.proofs.Lists.{at_set, set_again}
use Rattle.shared_desk.specs.Histories.{HistoryEntry}
use Rattle.shared_desk.specs.declared.closed.ClosedConnection.{ClosedConnection}
use Rattle.shared_desk.specs.Closed.{AreClosed, is_among}
use Rattle.shared_desk.specs.declared.seats.DeskView.{DeskView}
use Rattle.shared_desk.specs.Histories.{part_of}
use Rattle.shared_desk.specs.Rule.{recorder, founder, client, empty_desk_view, with_recorder, without_recorder, only_recorder, one_more_opened, new_client_view, FitsHistory, IsShared, AddsEntry, SeesAll, ClosesItself, KnowsTheCount, KnowsItsPart}
use Rattle.shared_desk.proofs.Parts.{prefix_self, prefix_more, part_own, part_other, at_end}

off : false ≡ true → ⊥
off e = true≢false (sym e)

-- the rule, of a state
abbrev pub Ruling : State (Unit {0}) DeskView → Type 0
Ruling s = IsShared s.views

-- one view changes
fits_set : (seat door : ℕ) (place : ℕ → ℕ) (opened : ℕ) (history : List HistoryEntry) (closed : List ClosedConnection) (views : List DeskView) (by : ℕ) (w : DeskView) → ((j : ℕ) (u : DeskView) → j ≢ by → get_elem? views j ≡ some u → FitsHistory seat door place opened history closed j u) → FitsHistory seat door place opened history closed by w
    → (j : ℕ) (u : DeskView) → get_elem? (set views by w) j ≡ some u → FitsHistory seat door place opened history closed j u
fits_set seat door place opened history closed views by w others mine j u e =
    ⊎_elim
    (λ (x : (j ≡ by) × (w ≡ u)). subst (λ (y : ℕ × DeskView). FitsHistory seat door place opened history closed y.0 y.1) (λ i. (sym x.0 i, x.1 i)) mine)
    (λ (x : (j ≢ by) × (get_elem? views j ≡ some u)). others j u x.0 x.1)
    (at_set views by j w u e)

-- and a new one comes behind
fits_end : (seat door : ℕ) (place : ℕ → ℕ) (opened : ℕ) (history : List HistoryEntry) (closed : List ClosedConnection) (views : List DeskView) (w : DeskView) → ((j : ℕ) (u : DeskView) → get_elem? views j ≡ some u → FitsHistory seat door place opened history closed j u) → FitsHistory seat door place opened history closed (length views) w
    → (j : ℕ) (u : DeskView) → get_elem? (views ++ w ∷ []) j ≡ some u → FitsHistory seat door place opened history closed j u
fits_end seat door place opened history closed views w others mine j u e =
    ⊎_elim
    (λ (was : get_elem? views j ≡ some u). others j u was)
    (λ (x : (j ≡ length views) × (w ≡ u)). subst (λ (y : ℕ × DeskView). FitsHistory seat door place opened history closed y.0 y.1) (λ i. (sym x.0 i, x.1 i)) mine)
    (at_end views w u j e)

-- a view that knows nothing fits anywhere
nobody_fits : (seat door : ℕ) (place : ℕ → ℕ) (opened : ℕ) (history : List HistoryEntry) (closed : List ClosedConnection) (by : ℕ) → FitsHistory seat door place opened history closed by empty_desk_view
nobody_fits seat door place opened history closed by = record { recording = λ e. absurd (off e); opening = λ e. absurd (off e); serving = λ e. absurd (off e) }

-- one who doesn't keep fits wherever the recorder sits
fits_moved : (seat now door : ℕ) (place : ℕ → ℕ) (opened : ℕ) (history : List HistoryEntry) (closed : List ClosedConnection) (by : ℕ) (v : DeskView) → by ≢ seat → FitsHistory seat door place opened history closed by v → FitsHistory now door place opened history closed by v
fits_moved seat now door place opened history closed by v apart f = record { recording = λ k. absurd (apart (f.recording k).0); opening = f.opening; serving = f.serving }

same_number : (m n : ℕ) → m ≡ n → (m == n) ≡ true
same_number m n is = grind (arith, nat_tests)

other_number : (m n : ℕ) → m ≢ n → (m == n) ≡ false
other_number m n differs = grind (arith, nat_tests)

-- who isn't among them is neither the first nor among the others
among_rest : (n : ℕ) (c : ClosedConnection) (cs : List ClosedConnection) → is_among n (c ∷ cs) ≡ false → (n ≢ c.connection) × (is_among n cs ≡ false)
among_rest n c cs apart = by_test (n == c.connection) refl apart
  where
    by_test : (b : Bool) → (n == c.connection) ≡ b → (if b then true else is_among n cs) ≡ false → (n ≢ c.connection) × (is_among n cs ≡ false)
    by_test true is e = absurd (true≢false e)
    by_test false is e = ((λ same. true≢false (sym (same_number n c.connection same) ∙ is)), e)

among_none : (n : ℕ) (c : ClosedConnection) (cs : List ClosedConnection) → n ≢ c.connection → is_among n cs ≡ false → is_among n (c ∷ cs) ≡ false
among_none n c cs differs apart = ap (λ (b : Bool). if b then true else is_among n cs) (other_number n c.connection differs) ∙ apart

-- another connection's answer changes no part of those that are over
closed_longer : (opened : ℕ) (history : List HistoryEntry) (e : HistoryEntry) (cs : List ClosedConnection) → is_among e.connection cs ≡ false → AreClosed opened history cs → AreClosed opened (history ++ e ∷ []) cs
closed_longer opened history e [] apart all = tt
closed_longer opened history e (c ∷ cs) apart all =
    let others = among_rest e.connection c cs apart in
    (all.0, part_other c.connection history e others.0 ∙ all.1, all.2, closed_longer opened history e cs others.1 all.3)

closed_wider : (opened : ℕ) (history : List HistoryEntry) (cs : List ClosedConnection) → AreClosed opened history cs → AreClosed (opened + 1) history cs
closed_wider opened history [] all = tt
closed_wider opened history (c ∷ cs) all = ((let below = all.0 in omega arith), all.1, all.2, closed_wider opened history cs all.3)

-- who was not opened isn't over
none_among : (opened n : ℕ) (history : List HistoryEntry) (cs : List ClosedConnection) → opened ≤ n → AreClosed opened history cs → is_among n cs ≡ false
none_among opened n history [] le all = refl
none_among opened n history (c ∷ cs) le all =
    among_none n c cs (λ same. let below = all.0 in absurd (omega (arith, same, le, below))) (none_among opened n history cs le all.3)

pub begins : IsShared (founder ∷ [])
begins = record { recorder_at = 0; opener_at = 0; seat_of = λ n. 0; opened = 0; history = []; closed = []; each = one; ended = tt; others = λ n le. refl }
  where
    one : (by : ℕ) (v : DeskView) → get_elem? (founder ∷ []) by ≡ some v → FitsHistory 0 0 (λ n. 0) 0 [] [] by v
    one zero v e = subst (FitsHistory 0 0 (λ n. 0) 0 [] [] 0) (some-injective _ _ e) (record { recording = λ k. (refl, refl, refl); opening = λ k. (refl, refl); serving = λ s. absurd (off s) })
    one (suc by) v e = absurd (some-ne-none v (sym e))

-- a seat that knows nothing
pub spares : (id : ℕ) (v : DeskView) → Splits Ruling id v v empty_desk_view
spares id v s kept at =
    record {
      recorder_at = kept.recorder_at;
      opener_at = kept.opener_at;
      seat_of = kept.seat_of;
      opened = kept.opened;
      history = kept.history;
      closed = kept.closed;
      each = fits_end kept.recorder_at kept.opener_at kept.seat_of kept.opened kept.history kept.closed (set s.views id v) empty_desk_view
          (λ j u was. kept.each j u (subst (λ (l : List DeskView). get_elem? l j ≡ some u) (set_again s.views id v at) was))
          (nobody_fits _ _ _ _ _ _ _);
      ended = kept.ended;
      others = kept.others;
    }

-- a seat takes in the recorder's
pub holds : (id : ℕ) (v : DeskView) (other : ℕ) (w : DeskView) → w.is_recorder ≡ true → Joins Ruling id v other w (with_recorder v w) empty_desk_view
holds id v other w keep s kept at apart there =
    let was : get_elem? s.views other ≡ some w =
    ⊎_elim (λ (t : (other ≡ id) × (with_recorder v w ≡ w)). absurd (apart t.0)) (λ (t : (other ≢ id) × (get_elem? s.views other ≡ some w)). t.1) (at_set s.views id other (with_recorder v w) w there) in
    let theirs = (kept.each other w was).recording keep in
    let mine = kept.each id v at in
    record {
      recorder_at = id;
      opener_at = kept.opener_at;
      seat_of = kept.seat_of;
      opened = kept.opened;
      history = kept.history;
      closed = kept.closed;
      each = fits_set id kept.opener_at kept.seat_of kept.opened kept.history kept.closed (set s.views id (with_recorder v w)) other empty_desk_view
          (λ j u away e. set_but j u away e (at_set s.views id j (with_recorder v w) u e) theirs mine)
          (nobody_fits _ _ _ _ _ _ _);
      ended = kept.ended;
      others = kept.others;
    }
  where
    set_but : (j : ℕ) (u : DeskView) → j ≢ other → get_elem? (set s.views id (with_recorder v w)) j ≡ some u
        → ((j ≡ id) × (with_recorder v w ≡ u)) ⊎ ((j ≢ id) × (get_elem? s.views j ≡ some u))
        → (other ≡ kept.recorder_at) × (w.history ≡ kept.history) × (w.closed ≡ kept.closed) → FitsHistory kept.recorder_at kept.opener_at kept.seat_of kept.opened kept.history kept.closed id v
        → FitsHistory id kept.opener_at kept.seat_of kept.opened kept.history kept.closed j u
    set_but j u away e (inl t) theirs mine =
        subst (λ (y : ℕ × DeskView). FitsHistory id kept.opener_at kept.seat_of kept.opened kept.history kept.closed y.0 y.1) (λ i. (sym t.0 i, t.1 i))
        (record { recording = λ k. (refl, theirs.1, theirs.2); opening = mine.opening; serving = mine.serving })
    set_but j u away e (inr t) theirs mine =
        fits_moved kept.recorder_at id kept.opener_at kept.seat_of kept.opened kept.history kept.closed j u (λ same. away (same ∙ sym theirs.0)) (kept.each j u t.1)

-- and gives it up
pub leaves : (id : ℕ) (v : DeskView) → v.is_recorder ≡ true → Splits Ruling id v (without_recorder v) (only_recorder v)
leaves id v keep s kept at =
    let mine = kept.each id v at in
    let known = mine.recording keep in
    let now = length (set s.views id (without_recorder v)) in
    record {
      recorder_at = now;
      opener_at = kept.opener_at;
      seat_of = kept.seat_of;
      opened = kept.opened;
      history = kept.history;
      closed = kept.closed;
      each = fits_end now kept.opener_at kept.seat_of kept.opened kept.history kept.closed (set s.views id (without_recorder v)) (only_recorder v)
          (fits_set now kept.opener_at kept.seat_of kept.opened kept.history kept.closed s.views id (without_recorder v)
          (λ j u apart e. fits_moved kept.recorder_at now kept.opener_at kept.seat_of kept.opened kept.history kept.closed j u (λ same. apart (same ∙ sym known.0)) (kept.each j u e))
          (record { recording = λ k. absurd (off k); opening = mine.opening; serving = mine.serving }))
          (record { recording = λ k. (refl, known.1, known.2); opening = λ e. absurd (off e); serving = λ e. absurd (off e) });
      ended = kept.ended;
      others = kept.others;
    }

-- the seat of each connection, with one connection more
abbrev placed : (ℕ → ℕ) → ℕ → ℕ → ℕ → ℕ
placed place number now n = if n == number then now else place n

-- the opener opens a connection
pub opens : (id : ℕ) (v : DeskView) → v.is_opener ≡ true → v.is_client ≡ false → Splits Ruling id v (one_more_opened v) (new_client_view v)
opens id v gate alone s kept at =
    let mine = kept.each id v at in
    let known = mine.opening gate in
    let now = length (set s.views id (one_more_opened v)) in
    let place = placed kept.seat_of v.opened now in
    record {
      recorder_at = kept.recorder_at;
      opener_at = kept.opener_at;
      seat_of = place;
      opened = kept.opened + 1;
      history = kept.history;
      closed = kept.closed;
      each = fits_end kept.recorder_at kept.opener_at place (kept.opened + 1) kept.history kept.closed (set s.views id (one_more_opened v)) (new_client_view v)
          (fits_set kept.recorder_at kept.opener_at place (kept.opened + 1) kept.history kept.closed s.views id (one_more_opened v)
          (λ j u apart e. old now known j u apart (kept.each j u e))
          (record { recording = mine.recording; opening = λ k. (known.0, ap (λ n. n + 1) known.1); serving = λ e. absurd (off (sym alone ∙ e)) }))
          (record { recording = λ k. absurd (off k); opening = λ k. absurd (off k); serving = λ e. new now known });
      ended = closed_wider kept.opened kept.history kept.closed kept.ended;
      others = λ n le. kept.others n (omega arith);
    }
  where
    old : (now : ℕ) → (id ≡ kept.opener_at) × (v.opened ≡ kept.opened) → (j : ℕ) (u : DeskView) → j ≢ id → FitsHistory kept.recorder_at kept.opener_at kept.seat_of kept.opened kept.history kept.closed j u → FitsHistory kept.recorder_at kept.opener_at (placed kept.seat_of v.opened now) (kept.opened + 1) kept.history kept.closed j u
    old now known j u apart f =
        record {
          recording = f.recording;
          opening = λ k. absurd (apart ((f.opening k).0 ∙ sym known.0));
          serving = λ e. let t = f.serving e in
              let is = known.1 in let below = t.1 in
              let apart_is : (u.number == v.opened) ≡ false = grind (arith, nat_tests) in
              (t.0 ∙ sym (ap (λ (b : Bool). if b then now else kept.seat_of u.number) apart_is), omega arith, t.2, t.3, t.4);
        }

    new : (now : ℕ) → (id ≡ kept.opener_at) × (v.opened ≡ kept.opened) → (now ≡ placed kept.seat_of v.opened now v.opened) × (v.opened < kept.opened + 1) × (part_of v.opened kept.history ≡ []) × IsPrefix [] kept.history × (is_among v.opened kept.closed ≡ false)
    new now known =
        let is = known.1 in
        let it_is : (v.opened == v.opened) ≡ true = grind (arith, nat_tests) in
        (sym (ap (λ (b : Bool). if b then now else kept.seat_of v.opened) it_is), omega arith, kept.others v.opened (omega arith), (kept.history, refl), none_among kept.opened v.opened kept.history kept.closed (omega (arith, is)) kept.ended)

module _ (slots id : ℕ) (me : Me (Unit {0}) DeskView) (st : Step (Unit {0})) where
  -- an answer is added to the connection that is the recorder too
  pub adds : (may : HistoryEntry → Type 0) (e : HistoryEntry) → me.0.is_recorder ≡ true → me.0.is_client ≡ true → may e → e.connection ≡ me.0.number → Allows Ruling slots id me 0 (λ n. n) (AddsEntry may st me)
  adds may e keep serve allowed whose s kept homes at fits =
      let mine = kept.each id me.0 at in
      let known = mine.recording keep in
      let own = mine.serving serve in
      let now : List HistoryEntry = me.0.history ++ e ∷ [] in
      let w = with_recorder (client me.0.number now (me.0.part ++ e ∷ [])) (recorder now me.0.closed) in
      let longer : now ≡ kept.history ++ e ∷ [] = ap (λ l. l ++ e ∷ []) known.1 in
      let part : part_of me.0.number now ≡ me.0.part ++ e ∷ [] =
      ap (part_of me.0.number) longer ∙ (part_own me.0.number kept.history e whose ∙ ap (λ l. l ++ e ∷ []) own.2) in (
        w,
        keeps,
        tt,
        record {
          recorder_at = kept.recorder_at;
          opener_at = kept.opener_at;
          seat_of = kept.seat_of;
          opened = kept.opened;
          history = now;
          closed = kept.closed;
          each = fits_set kept.recorder_at kept.opener_at kept.seat_of kept.opened now kept.closed s.views id w
              (λ j u apart e'. let f = kept.each j u e' in
              record {
                recording = λ k. absurd (apart ((f.recording k).0 ∙ sym known.0));
                opening = f.opening;
                serving = λ srv. let t = f.serving srv in
                    let differs : e.connection ≢ u.number = λ same. apart (t.0 ∙ (ap kept.seat_of (sym same ∙ whose) ∙ sym own.0)) in
                    (t.0, t.1, ap (part_of u.number) longer ∙ (part_other u.number kept.history e differs ∙ t.2), subst (IsPrefix u.seen) (sym longer) (prefix_more u.seen kept.history (e ∷ []) t.3), t.4);
              })
              (record { recording = λ k. (known.0, refl, known.2); opening = λ k. absurd (off k); serving = λ srv. (own.0, own.1, part, prefix_self now, own.4) });
          ended = subst (λ (l : List HistoryEntry). AreClosed kept.opened l kept.closed) (sym longer)
              (closed_longer kept.opened kept.history e kept.closed (ap (λ (n : ℕ). is_among n kept.closed) whose ∙ own.4) kept.ended);
          others = λ n le. let below = own.1 in
              let differs : e.connection ≢ n = λ same. absurd (omega (arith, sym same ∙ whose, below, le)) in
              ap (part_of n) longer ∙ (part_other n kept.history e differs ∙ kept.others n le);
        },
        (e, allowed, whose, subst (IsPrefix me.0.seen) (sym known.1) own.3, part, refl),
      )

  -- a connection sees the whole history
  pub looks : me.0.is_recorder ≡ true → me.0.is_client ≡ true → Allows Ruling slots id me 0 (λ n. n) (SeesAll st me)
  looks keep serve s kept homes at fits =
      let mine = kept.each id me.0 at in
      let known = mine.recording keep in
      let own = mine.serving serve in
      let w = with_recorder (client me.0.number me.0.history me.0.part) (recorder me.0.history me.0.closed) in (
        w,
        keeps,
        tt,
        record {
          recorder_at = kept.recorder_at;
          opener_at = kept.opener_at;
          seat_of = kept.seat_of;
          opened = kept.opened;
          history = kept.history;
          closed = kept.closed;
          each = fits_set kept.recorder_at kept.opener_at kept.seat_of kept.opened kept.history kept.closed s.views id w
              (λ j u apart e. kept.each j u e)
              (record { recording = λ k. known; opening = λ k. absurd (off k); serving = λ srv. (own.0, own.1, own.2, subst (λ (l : List HistoryEntry). IsPrefix l kept.history) (sym known.1) (prefix_self kept.history), own.4) });
          ended = kept.ended;
          others = kept.others;
        },
        (subst (IsPrefix me.0.seen) (sym known.1) own.3, ap (part_of me.0.number) known.1 ∙ own.2, refl),
      )

  -- the opener sees that who was not opened has no part
  pub counts : me.0.is_recorder ≡ true → me.0.is_opener ≡ true → Allows Ruling slots id me 0 (λ n. n) (KnowsTheCount st me)
  counts keep gate s kept homes at fits =
      let mine = kept.each id me.0 at in
      let known = mine.recording keep in
      let all = mine.opening gate in (
        me.0,
        keeps,
        tt,
        record {
          recorder_at = kept.recorder_at;
          opener_at = kept.opener_at;
          seat_of = kept.seat_of;
          opened = kept.opened;
          history = kept.history;
          closed = kept.closed;
          each = λ j u e. kept.each j u (subst (λ (l : List DeskView). get_elem? l j ≡ some u) (set_again s.views id me.0 at) e);
          ended = kept.ended;
          others = kept.others;
        },
        (
          refl,
          (λ n le. ap (part_of n) known.1 ∙ kept.others n (let o = all.1 in omega arith)),
          subst (λ (z : ℕ × (List HistoryEntry × List ClosedConnection)). AreClosed z.0 z.1.0 z.1.1) (λ i. (sym all.1 i, (sym known.1 i, sym known.2 i))) kept.ended,
        ),
      )

  -- what a connection knows of its part is so
  pub compares : me.0.is_recorder ≡ true → me.0.is_client ≡ true → Allows Ruling slots id me 0 (λ n. n) (KnowsItsPart st me)
  compares keep serve s kept homes at fits =
      let mine = kept.each id me.0 at in
      let known = mine.recording keep in
      let own = mine.serving serve in (
        me.0,
        keeps,
        tt,
        record {
          recorder_at = kept.recorder_at;
          opener_at = kept.opener_at;
          seat_of = kept.seat_of;
          opened = kept.opened;
          history = kept.history;
          closed = kept.closed;
          each = λ j u e. kept.each j u (subst (λ (l : List DeskView). get_elem? l j ≡ some u) (set_again s.views id me.0 at) e);
          ended = kept.ended;
          others = kept.others;
        },
        (refl, ap (part_of me.0.number) known.1 ∙ own.2, subst (IsPrefix me.0.seen) (sym known.1) own.3),
      )

  -- a connection is over, and has no seat any more
  pub closes : (may : ClosedConnection → Type 0) (c : ClosedConnection) → me.0.is_recorder ≡ true → me.0.is_client ≡ true → may c → c.connection ≡ me.0.number → c.part ≡ me.0.part → Allows Ruling slots id me 0 (λ n. n) (ClosesItself may st me)
  closes may c keep serve allowed whose part s kept homes at fits =
      let mine = kept.each id me.0 at in
      let known = mine.recording keep in
      let own = mine.serving serve in
      let w = recorder me.0.history (c ∷ me.0.closed) in (
        w,
        keeps,
        tt,
        record {
          recorder_at = kept.recorder_at;
          opener_at = kept.opener_at;
          seat_of = kept.seat_of;
          opened = kept.opened;
          history = kept.history;
          closed = c ∷ kept.closed;
          each = fits_set kept.recorder_at kept.opener_at kept.seat_of kept.opened kept.history (c ∷ kept.closed) s.views id w
              (λ j u apart e'. let f = kept.each j u e' in
              record {
                recording = λ k. absurd (apart ((f.recording k).0 ∙ sym known.0));
                opening = f.opening;
                serving = λ srv. let t = f.serving srv in
                    let differs : u.number ≢ c.connection = λ same. apart (t.0 ∙ (ap kept.seat_of (same ∙ whose) ∙ sym own.0)) in
                    (t.0, t.1, t.2, t.3, among_none u.number c kept.closed differs t.4);
              })
              (record { recording = λ k. (known.0, known.1, ap (λ (l : List ClosedConnection). c ∷ l) known.2); opening = λ k. absurd (off k); serving = λ k. absurd (off k) });
          ended = (
            (let below = own.1 in omega (arith, whose, below)),
            ap (λ (n : ℕ). part_of n kept.history) whose ∙ (own.2 ∙ sym part),
            ap (λ (n : ℕ). is_among n kept.closed) whose ∙ own.4,
            kept.ended,
          );
          others = kept.others;
        },
        (c, allowed, whose, part, refl),
      )
