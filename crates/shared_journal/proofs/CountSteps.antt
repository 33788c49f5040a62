-- The steps that look at what was added and what is durable, and those that count records, keep the rule.
use Rattle.std.proofs.Common.{◌≡◌, ℕ, ◌≤◌, max, leb, Bool, true, false, List, ◌++◌, length, set, refl, sym, ap, ◌∙◌, subst, arith}
use Rattle.std.specs.Prelude.{MatchBool, slice_index, slice_set}
use Rattle.std.proofs.lemmas.Bool.{leb-true}
use mathlib.Core.List.{IsPrefix}
use Rattle.atomic_table.specs.Table.{Me, Step, Act, keeps, Valid, homes_after, carried_after, Allows}
use Rattle.shared_journal.specs.declared.journal_part.JournalPart.{JournalPart}
use Rattle.shared_journal.specs.declared.seat_views.JournalEntry.{JournalEntry}
use Rattle.shared_journal.specs.declared.seat_views.JournalView.{JournalView}
use Rattle.shared_journal.specs.JournalRule.{JournalFacts, FitsJournal, IsJournal, StaysAsItIs, LooksAtEach, LooksAtDurable, FindsCount, CountsRecords}
use Rattle.shared_journal.proofs.JournalLists.{whole_prefix, prefix_through, longer_prefix, prefix_length, shorter_prefix}
use Rattle.shared_journal.proofs.JournalSteps.{each_set, others_set, set_fourth, set_added, set_durable, Journaling, stays}

module _ (first : List ℕ) (slots id : ℕ) (me : Me JournalPart JournalView) (st : Step JournalPart) where
  -- all that was added is seen
  pub sees_each : Allows (Journaling first) slots id me 3 (λ n. n) (LooksAtEach st me)
  sees_each s kept homes at fits =
      let f = kept.facts in
      let mine = kept.each id me.0 at in
      let w : JournalView = record me.0 { seen = f.added; count = found } in (
        w,
        keeps,
        tt,
        record {
          facts = f;
          begun = kept.begun;
          words_are = set_added s.words f kept.words_are;
          waiting_home = kept.waiting_home;
          log_home = kept.log_home;
          homes_are = kept.homes_are;
          split = kept.split;
          synced = kept.synced;
          counts = kept.counts;
          waiting = kept.waiting;
          log = kept.log;
          each = each_set f f s.views id w kept.each (λ j u apart t. t)
              (record { number = mine.number; first = mine.first; seen = whole_prefix f.added; own = mine.own; durable = mine.durable; copied = mine.copied; failed = mine.failed; waiting = λ e. let h = mine.waiting e in (h.0, h.1, h.2, h.3, is_word); log = mine.log });
          others = others_set f.added s.views id w kept.others;
        },
        record { all = f.added; seen = mine.seen; durable = durable_added; most = subst (λ (n : ℕ). length f.added ≤ n) (sym is_word) kept.counts.1; is = refl },
      )
    where
      found : ℕ
      found = slice_index s.words 3

      is_word : found ≡ kept.facts.added_word
      is_word = ap (λ (l : List ℕ). slice_index l 3) kept.words_are

      durable_added : IsPrefix me.0.durable kept.facts.added
      durable_added =
          let f = kept.facts in
          subst (λ (l : List JournalEntry). IsPrefix me.0.durable l) (sym kept.split)
          (longer_prefix me.0.durable f.taken f.waits (prefix_through me.0.durable f.durable f.taken (kept.each id me.0 at).durable kept.synced))

  -- a look whether all that was seen is durable
  pub looks_at_durable : length me.0.seen ≤ me.0.count → Allows (Journaling first) slots id me 4 (λ n. n) (LooksAtDurable st me)
  looks_at_durable most s kept homes at fits = by (leb me.0.count found) refl
    where
      f : JournalFacts
      f = kept.facts

      found : ℕ
      found = slice_index s.words 4

      is_word : found ≡ f.durable_word
      is_word = ap (λ (l : List ℕ). slice_index l 4) kept.words_are

      mine : FitsJournal f id me.0
      mine = kept.each id me.0 at

      same : (w : JournalView) → FitsJournal f id w → IsJournal first (slice_set s.words 4 found) s.homes (set s.views id w)
      same w fits_it =
          record {
            facts = f;
            begun = kept.begun;
            words_are = set_durable s.words f kept.words_are;
            waiting_home = kept.waiting_home;
            log_home = kept.log_home;
            homes_are = kept.homes_are;
            split = kept.split;
            synced = kept.synced;
            counts = kept.counts;
            waiting = kept.waiting;
            log = kept.log;
            each = each_set f f s.views id w kept.each (λ j u apart t. t) fits_it;
            others = others_set f.added s.views id w kept.others;
          }

      durable_added : IsPrefix f.durable f.added
      durable_added = subst (λ (l : List JournalEntry). IsPrefix f.durable l) (sym kept.split) (longer_prefix f.durable f.taken f.waits kept.synced)

      by : (b : Bool) → leb me.0.count found ≡ b
          → (w : JournalView) × (a : Act JournalPart) × Valid s.homes me.1 a × IsJournal first (slice_set s.words 4 found) (homes_after s.homes me.1 a) (set s.views id w)
          × MatchBool b (◌≡◌ {A = Me JournalPart JournalView} (w, carried_after me.1 a) (record me.0 { durable = me.0.seen }, me.1)) (◌≡◌ {A = Me JournalPart JournalView} (w, carried_after me.1 a) me)
      by true t =
          let counted = leb-true me.0.count found t in
          let told = kept.counts.2 in
          let short : length me.0.seen ≤ length f.durable = omega (arith, most, counted, is_word, told) in
          let w : JournalView = record me.0 { durable = me.0.seen } in (
            w,
            keeps,
            tt,
            same w (record { number = mine.number; first = mine.first; seen = mine.seen; own = mine.own; durable = shorter_prefix me.0.seen f.durable f.added mine.seen durable_added short; copied = mine.copied; failed = mine.failed; waiting = mine.waiting; log = mine.log }),
            refl,
          )
      by false t = (me.0, keeps, tt, same me.0 mine, refl)

  -- who holds those that wait knows their number
  pub finds_count : me.0.has_waiting ≡ true → Allows (Journaling first) slots id me 3 (λ n. n) (FindsCount st me)
  finds_count holding s kept homes at fits =
      let f = kept.facts in (
        me.0,
        keeps,
        tt,
        record {
          facts = f;
          begun = kept.begun;
          words_are = set_added s.words f kept.words_are;
          waiting_home = kept.waiting_home;
          log_home = kept.log_home;
          homes_are = kept.homes_are;
          split = kept.split;
          synced = kept.synced;
          counts = kept.counts;
          waiting = kept.waiting;
          log = kept.log;
          each = stays first slots id me st f f s at kept.each (λ j u t. t);
          others = others_set f.added s.views id me.0 kept.others;
        },
        (ap (λ (l : List ℕ). slice_index l 3) kept.words_are ∙ sym ((kept.each id me.0 at).waiting holding).4, refl),
      )

  -- it counts others
  pub counts_records : (n : ℕ) → me.0.has_waiting ≡ true → length (me.0.taken ++ me.0.waits) ≤ n → Allows (Journaling first) slots id me 3 (λ k. n) (λ k. CountsRecords st me n)
  counts_records n holding most s kept homes at fits =
      let f = kept.facts in
      let g : JournalFacts = record f { added_word = n } in
      let mine = kept.each id me.0 at in
      let held = mine.waiting holding in
      let all : me.0.taken ++ me.0.waits ≡ f.added = (λ i. held.2 i ++ held.3 i) ∙ sym kept.split in
      let w : JournalView = record me.0 { count = n } in (
        w,
        keeps,
        tt,
        record {
          facts = g;
          begun = kept.begun;
          words_are = set_fourth s.words f n kept.words_are;
          waiting_home = kept.waiting_home;
          log_home = kept.log_home;
          homes_are = kept.homes_are;
          split = kept.split;
          synced = kept.synced;
          counts = (λ z. absurd (held.0 z), subst (λ (l : List JournalEntry). length l ≤ n) all most, kept.counts.2);
          waiting = kept.waiting;
          log = kept.log;
          each = each_set f g s.views id w kept.each
              (λ j u apart t. record { number = t.number; first = t.first; seen = t.seen; own = t.own; durable = t.durable; copied = t.copied; failed = t.failed; waiting = λ e. absurd (apart ((t.waiting e).1 ∙ sym held.1)); log = t.log })
              (record { number = mine.number; first = mine.first; seen = mine.seen; own = mine.own; durable = mine.durable; copied = mine.copied; failed = mine.failed; waiting = λ e. (held.0, held.1, held.2, held.3, refl); log = mine.log });
          others = others_set f.added s.views id w kept.others;
        },
        refl,
      )

  -- it is told how many are durable
  pub notes_durable : (k : ℕ) → k ≡ length me.0.durable → Allows (Journaling first) slots id me 4 (λ n. max n k) (StaysAsItIs st me)
  notes_durable k counted s kept homes at fits =
      let f = kept.facts in
      let g : JournalFacts = record f { durable_word = max f.durable_word k } in
      let told = kept.counts.2 in
      let known = prefix_length me.0.durable f.durable (kept.each id me.0 at).durable in (
        me.0,
        keeps,
        tt,
        record {
          facts = g;
          begun = kept.begun;
          words_are = ap (λ (l : List ℕ). slice_set l 4 (max (slice_index l 4) k)) kept.words_are;
          waiting_home = kept.waiting_home;
          log_home = kept.log_home;
          homes_are = kept.homes_are;
          split = kept.split;
          synced = kept.synced;
          counts = (kept.counts.0, kept.counts.1, most f.durable_word k (length f.durable) told (omega (arith, counted, known)));
          waiting = kept.waiting;
          log = kept.log;
          each = stays first slots id me st f g s at kept.each
              (λ j u t. record { number = t.number; first = t.first; seen = t.seen; own = t.own; durable = t.durable; copied = t.copied; failed = t.failed; waiting = t.waiting; log = t.log });
          others = others_set f.added s.views id me.0 kept.others;
        },
        refl,
      )
    where
      most : (a b c : ℕ) → a ≤ c → b ≤ c → max a b ≤ c
      most a b c one two = grind (arith, one, two)
