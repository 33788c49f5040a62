-- Each step keeps the rule of a journal's table.
use Rattle.std.proofs.Common.{◌≡◌, ◌≢◌, ◌==◌, ◌⊎◌, inl, inr, ℕ, ◌<◌, ◌≤◌, ◌+◌, Bool, true, false, true≢false, List, [], ◌∷◌, ◌++◌, length, set, Some, refl, sym, ap, ◌∙◌, subst, ⊎_elim, zero, suc, arith, append_assoc}
use Rattle.std.specs.Prelude.{MatchBool, slice_index, slice_set}
use Rattle.std.proofs.lemmas.Bool.Decides.{nat_tests}
use mathlib.Core.Option.{Option, none, some, some-ne-none, some-injective}
use mathlib.Core.List.{IsPrefix}
use lib.ListN.{get_elem?}
use prog.Atomic.{either}
use Rattle.atomic_table.specs.Table.{State, Me, Step, Act, keeps, takes, gives, Valid, homes_after, carried_after, put_back, rest, Allows, Enters}
use Rattle.atomic_table.proofs.Lists.{at_set}
use Rattle.journal_file.specs.FileLogs.{file_state}
use Rattle.journal_file.specs.declared.file_log.FileLog.{FileLog}
use Rattle.shared_journal.specs.declared.commit_log.CommitLog.{CommitLog}
use Rattle.shared_journal.specs.declared.journal_part.JournalPart.{JournalPart}
use Rattle.shared_journal.specs.declared.seat_views.JournalEntry.{JournalEntry}
use Rattle.shared_journal.specs.declared.seat_views.JournalView.{JournalView}
use Rattle.shared_journal.specs.JournalHistories.{entries_by, journal_bytes}
use Rattle.shared_journal.specs.JournalRule.{JournalFacts, KeepsDurable, HasCopies, words_of, FitsJournal, IsJournal, journal_founder, own_entry, with_record, with_each_taken, held_bytes, Watches, TakesWaiting, TriesWaiting, StaysAsItIs, ReturnsWaiting, AddsRecord, TakesEach, TakesLog, TriesLog, SettlesLog, ReturnsLog, CopiesLog, with_copies, FailsIt, LooksAtIt}
use Rattle.shared_journal.specs.Standing.{StandForJournal}
use Rattle.shared_journal.proofs.Standings.{stands_as_it_is}
use Rattle.shared_journal.proofs.JournalLists.{whole_prefix, prefix_through, longer_prefix, same_rest, entries_own, entries_other, bytes_more, nothing_behind, set_length, more_length, there_below, at_end_or, prefix_length}

off : false ≡ true → ⊥
off e = true≢false (sym e)

not_true : (b : Bool) → (b ≡ true → ⊥) → b ≡ false
not_true true denied = absurd (denied refl)
not_true false denied = refl

one_is_some : ◌≢◌ {A = ℕ} 1 0
one_is_some e = absurd (omega (arith, e))

-- the rule, of a state
abbrev pub Journaling : List ℕ → State JournalPart JournalView → Type 0
Journaling first s = IsJournal first s.words s.homes s.views

-- one view changes
pub each_set : (f g : JournalFacts) (views : List JournalView) (id : ℕ) (w : JournalView)
    → ((j : ℕ) (u : JournalView) → get_elem? views j ≡ some u → FitsJournal f j u)
    → ((j : ℕ) (u : JournalView) → j ≢ id → FitsJournal f j u → FitsJournal g j u)
    → FitsJournal g id w
    → (j : ℕ) (u : JournalView) → get_elem? (set views id w) j ≡ some u → FitsJournal g j u
each_set f g views id w each others mine j u e =
    ⊎_elim
    (λ (x : (j ≡ id) × (w ≡ u)). subst (λ (y : ℕ × JournalView). FitsJournal g y.0 y.1) (λ i. (sym x.0 i, x.1 i)) mine)
    (λ (x : (j ≢ id) × (get_elem? views j ≡ some u)). others j u x.0 (each j u x.1))
    (at_set views id j w u e)

-- who isn't there yet still isn't
pub others_set : (added : List JournalEntry) (views : List JournalView) (id : ℕ) (w : JournalView)
    → ((n : ℕ) → length views ≤ n → entries_by n added ≡ [])
    → (n : ℕ) → length (set views id w) ≤ n → entries_by n added ≡ []
others_set added views id w others n le = others n (omega (arith, set_length views id w, le))

-- the words, once one is changed
set_first : (ws : List ℕ) (f : JournalFacts) (n : ℕ) → ws ≡ words_of f → slice_set ws 0 n ≡ words_of (record f { waiting_word = n })
set_first ws f n is = ap (λ (l : List ℕ). slice_set l 0 n) is

set_second : (ws : List ℕ) (f : JournalFacts) (n : ℕ) → ws ≡ words_of f → slice_set ws 1 n ≡ words_of (record f { log_word = n })
set_second ws f n is = ap (λ (l : List ℕ). slice_set l 1 n) is

set_third : (ws : List ℕ) (f : JournalFacts) (n : ℕ) → ws ≡ words_of f → slice_set ws 2 n ≡ words_of (record f { failed_word = n })
set_third ws f n is = ap (λ (l : List ℕ). slice_set l 2 n) is

pub set_fourth : (ws : List ℕ) (f : JournalFacts) (n : ℕ) → ws ≡ words_of f → slice_set ws 3 n ≡ words_of (record f { added_word = n })
set_fourth ws f n is = ap (λ (l : List ℕ). slice_set l 3 n) is

-- a word that is written as it is
set_word : (ws : List ℕ) (f : JournalFacts) → ws ≡ words_of f → slice_set ws 2 (slice_index ws 2) ≡ words_of f
set_word ws f is = ap (λ (l : List ℕ). slice_set l 2 (slice_index l 2)) is

pub set_added : (ws : List ℕ) (f : JournalFacts) → ws ≡ words_of f → slice_set ws 3 (slice_index ws 3) ≡ words_of f
set_added ws f is = ap (λ (l : List ℕ). slice_set l 3 (slice_index l 3)) is

pub set_durable : (ws : List ℕ) (f : JournalFacts) → ws ≡ words_of f → slice_set ws 4 (slice_index ws 4) ≡ words_of f
set_durable ws f is = ap (λ (l : List ℕ). slice_set l 4 (slice_index l 4)) is

-- the homes, once a part is put back
back_first : (hs : List (Option JournalPart)) (a b : Option JournalPart) (held : List (ℕ × JournalPart)) (p : JournalPart)
    → hs ≡ a ∷ b ∷ [] → held ≡ (0, p) ∷ rest held → put_back hs held ≡ some p ∷ b ∷ []
back_first hs a b held p is has = ap (λ (l : List (Option JournalPart)). put_back l held) is ∙ ap (put_back (a ∷ b ∷ [])) has

back_second : (hs : List (Option JournalPart)) (a b : Option JournalPart) (held : List (ℕ × JournalPart)) (p : JournalPart)
    → hs ≡ a ∷ b ∷ [] → held ≡ (1, p) ∷ rest held → put_back hs held ≡ a ∷ some p ∷ []
back_second hs a b held p is has = ap (λ (l : List (Option JournalPart)). put_back l held) is ∙ ap (put_back (a ∷ b ∷ [])) has

-- a mark leaves a lock held or free
marked_free : (n : ℕ) → either (n == 1) 2 n ≡ 0 → n ≡ 0
marked_free n is = by (n == 1) refl is
  where
    by : (b : Bool) → (n == 1) ≡ b → either b 2 n ≡ 0 → n ≡ 0
    by true t e = absurd (omega (arith, e))
    by false t e = e

marked_held : (n : ℕ) → n ≢ 0 → either (n == 1) 2 n ≢ 0
marked_held n held e = held (marked_free n e)

-- the table at the start
pub begins_journal : (first : List ℕ) (waiting log : JournalPart) (commits : CommitLog FileLog) (homes : List (Option JournalPart)) → homes ≡ some waiting ∷ some log ∷ []
    → waiting.bytes.items ≡ [] → log.commits ≡ Some commits → commits.has_failed ≡ false → file_state commits.log ≡ record { durable = first; pending = [] }
    → (log.is_followed ≡ true → log.bytes.items ≡ first)
    → IsJournal first (0 ∷ 0 ∷ 0 ∷ 0 ∷ 0 ∷ []) homes (journal_founder first ∷ [])
begins_journal first waiting log commits homes homes_are none_wait has goes whole copies =
    record {
      facts = facts;
      begun = refl;
      words_are = refl;
      waiting_home = some waiting;
      log_home = some log;
      homes_are = homes_are;
      split = refl;
      synced = whole_prefix [];
      counts = (λ e. refl, omega arith, omega arith);
      waiting = λ e. (waiting, refl, none_wait);
      log = λ e. (
        log,
        commits,
        refl,
        has,
        record {
          bytes = first;
          stands = subst (StandForJournal first) (sym (nothing_behind first)) (stands_as_it_is first);
          kept = ([], nothing_behind first ∙ sym (ap (λ s. s.durable) whole));
          all = λ f. refl;
          whole = λ f. whole;
        },
        λ e. nothing_behind first ∙ sym (copies e),
      );
      each = one;
      others = λ n le. refl;
    }
  where
    facts : JournalFacts
    facts = record { waiting_word = 0; log_word = 0; failed_word = 0; added_word = 0; durable_word = 0; waiting_at = 0; log_at = 0; first = first; added = []; taken = []; waits = []; durable = []; copied = [] }

    one : (j : ℕ) (v : JournalView) → get_elem? (journal_founder first ∷ []) j ≡ some v → FitsJournal facts j v
    one zero v e =
        subst (FitsJournal facts 0) (some-injective _ _ e)
        (record { number = λ e. refl; first = refl; seen = whole_prefix []; own = λ e. refl; durable = whole_prefix []; copied = λ e. refl; failed = λ t. absurd (off t); waiting = λ t. absurd (off t); log = λ t. absurd (off t) })
    one (suc j) v e = absurd (some-ne-none v (sym e))

-- a seat comes that fits
pub one_seat_more : (first : List ℕ) (s : State JournalPart JournalView) (kept : Journaling first s) (w : JournalView) → FitsJournal kept.facts (length s.views) w
    → IsJournal first s.words s.homes (s.views ++ w ∷ [])
one_seat_more first s kept w mine =
    record {
      facts = kept.facts;
      begun = kept.begun;
      words_are = kept.words_are;
      waiting_home = kept.waiting_home;
      log_home = kept.log_home;
      homes_are = kept.homes_are;
      split = kept.split;
      synced = kept.synced;
      counts = kept.counts;
      waiting = kept.waiting;
      log = kept.log;
      each = λ j u e. ⊎_elim
          (λ (was : get_elem? s.views j ≡ some u). kept.each j u was)
          (λ (x : (j ≡ length s.views) × (w ≡ u)). subst (λ (y : ℕ × JournalView). FitsJournal kept.facts y.0 y.1) (λ i. (sym x.0 i, x.1 i)) mine)
          (at_end_or s.views w u j e);
      others = λ n le. kept.others n (omega (arith, more_length s.views w, le));
    }

-- a new seat has seen the whole history, and put nothing in
pub watches : (slots : ℕ) (first : List ℕ) (st : Step JournalPart) (v : Me JournalPart JournalView) → v.0.first ≡ first
    → Enters (Journaling first) slots 2 (λ n w. Watches st v n (w, []))
watches slots first st v begins s kept homes fits =
    let f = kept.facts in
    let w : JournalView = record { number = length s.views; first = f.first; seen = f.added; own = []; durable = f.durable; is_failed = false; has_waiting = false; has_log = false; count = 0; taken = []; waits = []; written = []; copied = f.copied; is_note = false } in
    let mine : FitsJournal f (length s.views) w = record { number = λ e. refl; first = refl; seen = whole_prefix f.added; own = λ e. kept.others (length s.views) (omega arith); durable = whole_prefix f.durable; copied = λ e. refl; failed = λ t. absurd (off t); waiting = λ t. absurd (off t); log = λ t. absurd (off t) } in (
      w,
      one_seat_more first s kept w mine,
      (kept.begun ∙ sym begins, refl, refl, refl, refl, refl, kept.others (length s.views) (omega arith)),
    )

module _ (first : List ℕ) (slots id : ℕ) (me : Me JournalPart JournalView) (st : Step JournalPart) where
  -- a view that stays
  pub stays : (f g : JournalFacts) (s : State JournalPart JournalView) → get_elem? s.views id ≡ some me.0
      → ((j : ℕ) (u : JournalView) → get_elem? s.views j ≡ some u → FitsJournal f j u)
      → ((j : ℕ) (u : JournalView) → FitsJournal f j u → FitsJournal g j u)
      → (j : ℕ) (u : JournalView) → get_elem? (set s.views id me.0) j ≡ some u → FitsJournal g j u
  stays f g s at each go = each_set f g s.views id me.0 each (λ j u apart fits. go j u fits) (go id me.0 (each id me.0 at))

  -- the journal fails
  pub fails_it : Allows (Journaling first) slots id me 2 (λ n. 1) (λ n. FailsIt st me 1)
  fails_it s kept homes at fits =
      let f = kept.facts in
      let g : JournalFacts = record f { failed_word = 1 } in
      let mine = kept.each id me.0 at in
      let w : JournalView = record me.0 { is_failed = true } in (
        w,
        keeps,
        tt,
        record {
          facts = g;
          begun = kept.begun;
          words_are = set_third s.words f 1 kept.words_are;
          waiting_home = kept.waiting_home;
          log_home = kept.log_home;
          homes_are = kept.homes_are;
          split = kept.split;
          synced = kept.synced;
          counts = kept.counts;
          waiting = kept.waiting;
          log = kept.log;
          each = each_set f g s.views id w kept.each
              (λ j u apart t. record { number = t.number; first = t.first; seen = t.seen; own = t.own; durable = t.durable; copied = t.copied; failed = λ e. one_is_some; waiting = t.waiting; log = t.log })
              (record { number = mine.number; first = mine.first; seen = mine.seen; own = mine.own; durable = mine.durable; copied = mine.copied; failed = λ e. one_is_some; waiting = mine.waiting; log = mine.log });
          others = others_set f.added s.views id w kept.others;
        },
        refl,
      )

  -- a look whether it has failed
  pub looks_at_it : Allows (Journaling first) slots id me 2 (λ n. n) (LooksAtIt st me)
  looks_at_it s kept homes at fits = by (slice_index s.words 2 == 0) refl
    where
      found : ℕ
      found = slice_index s.words 2

      is_word : found ≡ kept.facts.failed_word
      is_word = ap (λ (l : List ℕ). slice_index l 2) kept.words_are

      same : (w : JournalView) → FitsJournal kept.facts id w → IsJournal first (slice_set s.words 2 found) s.homes (set s.views id w)
      same w mine =
          record {
            facts = kept.facts;
            begun = kept.begun;
            words_are = set_word s.words kept.facts kept.words_are;
            waiting_home = kept.waiting_home;
            log_home = kept.log_home;
            homes_are = kept.homes_are;
            split = kept.split;
            synced = kept.synced;
            counts = kept.counts;
            waiting = kept.waiting;
            log = kept.log;
            each = each_set kept.facts kept.facts s.views id w kept.each (λ j u apart t. t) mine;
            others = others_set kept.facts.added s.views id w kept.others;
          }

      by : (b : Bool) → (found == 0) ≡ b
          → (w : JournalView) × (a : Act JournalPart) × Valid s.homes me.1 a × IsJournal first (slice_set s.words 2 found) (homes_after s.homes me.1 a) (set s.views id w)
          × MatchBool b ((◌≡◌ {A = Me JournalPart JournalView} (w, carried_after me.1 a) me) × (me.0.is_failed ≡ false)) (◌≡◌ {A = Me JournalPart JournalView} (w, carried_after me.1 a) (record me.0 { is_failed = true }, me.1))
      by true t =
          let mine = kept.each id me.0 at in
          let zero_found : found ≡ 0 = grind (arith, nat_tests) in
          (me.0, keeps, tt, same me.0 mine, (refl, not_true me.0.is_failed (λ e. mine.failed e (sym is_word ∙ zero_found))))
      by false t =
          let mine = kept.each id me.0 at in
          let w : JournalView = record me.0 { is_failed = true } in
          let some_found : found ≢ 0 = λ e. true≢false (sym (is_zero found e) ∙ t) in (
            w,
            keeps,
            tt,
            same w (record { number = mine.number; first = mine.first; seen = mine.seen; own = mine.own; durable = mine.durable; copied = mine.copied; failed = λ e z. some_found (is_word ∙ z); waiting = mine.waiting; log = mine.log }),
            refl,
          )
        where
          is_zero : (n : ℕ) → n ≡ 0 → (n == 0) ≡ true
          is_zero n e = grind (arith, nat_tests)

  -- a mark at the lock of those that wait, or of the log
  pub marks_waiting : Allows (Journaling first) slots id me 0 (λ n. either (n == 1) 2 n) (StaysAsItIs st me)
  marks_waiting s kept homes at fits =
      let f = kept.facts in
      let g : JournalFacts = record f { waiting_word = either (f.waiting_word == 1) 2 f.waiting_word } in (
        me.0,
        keeps,
        tt,
        record {
          facts = g;
          begun = kept.begun;
          words_are = ap (λ (l : List ℕ). slice_set l 0 (either (slice_index l 0 == 1) 2 (slice_index l 0))) kept.words_are;
          waiting_home = kept.waiting_home;
          log_home = kept.log_home;
          homes_are = kept.homes_are;
          split = kept.split;
          synced = kept.synced;
          counts = (λ e. kept.counts.0 (marked_free f.waiting_word e), kept.counts.1, kept.counts.2);
          waiting = λ e. kept.waiting (marked_free f.waiting_word e);
          log = kept.log;
          each = stays f g s at kept.each
              (λ j u t. record { number = t.number; first = t.first; seen = t.seen; own = t.own; durable = t.durable; copied = t.copied; failed = t.failed; waiting = λ e. (marked_held f.waiting_word (t.waiting e).0, (t.waiting e).1, (t.waiting e).2, (t.waiting e).3, (t.waiting e).4); log = t.log });
          others = others_set f.added s.views id me.0 kept.others;
        },
        refl,
      )

  pub marks_log : Allows (Journaling first) slots id me 1 (λ n. either (n == 1) 2 n) (StaysAsItIs st me)
  marks_log s kept homes at fits =
      let f = kept.facts in
      let g : JournalFacts = record f { log_word = either (f.log_word == 1) 2 f.log_word } in (
        me.0,
        keeps,
        tt,
        record {
          facts = g;
          begun = kept.begun;
          words_are = ap (λ (l : List ℕ). slice_set l 1 (either (slice_index l 1 == 1) 2 (slice_index l 1))) kept.words_are;
          waiting_home = kept.waiting_home;
          log_home = kept.log_home;
          homes_are = kept.homes_are;
          split = kept.split;
          synced = kept.synced;
          counts = kept.counts;
          waiting = kept.waiting;
          log = λ e. kept.log (marked_free f.log_word e);
          each = stays f g s at kept.each
              (λ j u t. record { number = t.number; first = t.first; seen = t.seen; own = t.own; durable = t.durable; copied = t.copied; failed = t.failed; waiting = t.waiting; log = λ e. (marked_held f.log_word (t.log e).0, (t.log e).1, (t.log e).2, (t.log e).3) });
          others = others_set f.added s.views id me.0 kept.others;
        },
        refl,
      )

  -- a try to hold those that wait
  pub tries_waiting : (held : ℕ) → held ≢ 0 → Allows (Journaling first) slots id me 0 (λ n. either (n == 0) held n) (TriesWaiting st me)
  tries_waiting held some_held s kept homes at fits = by (slice_index s.words 0 == 0) refl
    where
      f : JournalFacts
      f = kept.facts

      found : ℕ
      found = slice_index s.words 0

      is_word : found ≡ f.waiting_word
      is_word = ap (λ (l : List ℕ). slice_index l 0) kept.words_are

      mine : FitsJournal f id me.0
      mine = kept.each id me.0 at

      by : (b : Bool) → (found == 0) ≡ b
          → (w : JournalView) × (a : Act JournalPart) × Valid s.homes me.1 a × IsJournal first (slice_set s.words 0 (either b held found)) (homes_after s.homes me.1 a) (set s.views id w)
          × MatchBool b (TakesWaiting me (w, carried_after me.1 a)) (◌≡◌ {A = Me JournalPart JournalView} (w, carried_after me.1 a) me)
      by true t =
          let zero_found : found ≡ 0 = grind (arith, nat_tests) in
          let free : f.waiting_word ≡ 0 = sym is_word ∙ zero_found in
          let home = kept.waiting free in
          let part : JournalPart = home.0 in
          let counted : length (f.taken ++ f.waits) ≡ f.added_word = ap length (sym kept.split) ∙ sym (kept.counts.0 free) in
          let g : JournalFacts = record f { waiting_word = held; waiting_at = id } in
          let w : JournalView = record me.0 { has_waiting = true; count = length (f.taken ++ f.waits); taken = f.taken; waits = f.waits } in (
            w,
            takes 0 part,
            ap (λ (l : List (Option JournalPart)). get_elem? l 0) kept.homes_are ∙ ap some home.1,
            record {
              facts = g;
              begun = kept.begun;
              words_are = set_first s.words f held kept.words_are;
              waiting_home = none;
              log_home = kept.log_home;
              homes_are = ap (λ (l : List (Option JournalPart)). set l 0 none) kept.homes_are;
              split = kept.split;
              synced = kept.synced;
              counts = (λ e. absurd (some_held e), kept.counts.1, kept.counts.2);
              waiting = λ e. absurd (some_held e);
              log = kept.log;
              each = each_set f g s.views id w kept.each
                  (λ j u apart t. record { number = t.number; first = t.first; seen = t.seen; own = t.own; durable = t.durable; copied = t.copied; failed = t.failed; waiting = λ e. absurd ((t.waiting e).0 free); log = t.log })
                  (record { number = mine.number; first = mine.first; seen = mine.seen; own = mine.own; durable = mine.durable; copied = mine.copied; failed = mine.failed; waiting = λ e. (some_held, refl, refl, refl, counted); log = λ e. let l = mine.log e in (l.0, l.1, refl, l.3) });
              others = others_set f.added s.views id w kept.others;
            },
            record {
              part = part;
              taken = f.taken;
              waits = f.waits;
              bytes = home.2;
              seen = subst (λ (l : List JournalEntry). IsPrefix me.0.seen l) kept.split mine.seen;
              own = λ e. subst (λ (l : List JournalEntry). entries_by me.0.number l ≡ me.0.own) kept.split (ap (λ (n : ℕ). entries_by n f.added) (mine.number e) ∙ mine.own e);
              same = λ e. sym (mine.log e).2;
              is = refl;
            },
          )
      by false t = (
        me.0,
        keeps,
        tt,
        record {
          facts = f;
          begun = kept.begun;
          words_are = ap (λ (l : List ℕ). slice_set l 0 (slice_index l 0)) kept.words_are;
          waiting_home = kept.waiting_home;
          log_home = kept.log_home;
          homes_are = kept.homes_are;
          split = kept.split;
          synced = kept.synced;
          counts = kept.counts;
          waiting = kept.waiting;
          log = kept.log;
          each = stays f f s at kept.each (λ j u t. t);
          others = others_set f.added s.views id me.0 kept.others;
        },
        refl,
      )

  -- a try to hold the log
  pub tries_log : (held : ℕ) → held ≢ 0 → Allows (Journaling first) slots id me 1 (λ n. either (n == 0) held n) (TriesLog st me)
  tries_log held some_held s kept homes at fits = by (slice_index s.words 1 == 0) refl
    where
      f : JournalFacts
      f = kept.facts

      found : ℕ
      found = slice_index s.words 1

      is_word : found ≡ f.log_word
      is_word = ap (λ (l : List ℕ). slice_index l 1) kept.words_are

      mine : FitsJournal f id me.0
      mine = kept.each id me.0 at

      by : (b : Bool) → (found == 0) ≡ b
          → (w : JournalView) × (a : Act JournalPart) × Valid s.homes me.1 a × IsJournal first (slice_set s.words 1 (either b held found)) (homes_after s.homes me.1 a) (set s.views id w)
          × MatchBool b (TakesLog me (w, carried_after me.1 a)) (◌≡◌ {A = Me JournalPart JournalView} (w, carried_after me.1 a) me)
      by true t =
          let zero_found : found ≡ 0 = grind (arith, nat_tests) in
          let free : f.log_word ≡ 0 = sym is_word ∙ zero_found in
          let home = kept.log free in
          let part : JournalPart = home.0 in
          let g : JournalFacts = record f { log_word = held; log_at = id } in
          let w : JournalView = record me.0 { has_log = true; taken = f.taken; written = f.durable; copied = f.copied } in (
            w,
            takes 1 part,
            ap (λ (l : List (Option JournalPart)). get_elem? l 1) kept.homes_are ∙ ap some home.2,
            record {
              facts = g;
              begun = kept.begun;
              words_are = set_second s.words f held kept.words_are;
              waiting_home = kept.waiting_home;
              log_home = none;
              homes_are = ap (λ (l : List (Option JournalPart)). set l 1 none) kept.homes_are;
              split = kept.split;
              synced = kept.synced;
              counts = kept.counts;
              waiting = kept.waiting;
              log = λ e. absurd (some_held e);
              each = each_set f g s.views id w kept.each
                  (λ j u apart t. record { number = t.number; first = t.first; seen = t.seen; own = t.own; durable = t.durable; copied = t.copied; failed = t.failed; waiting = t.waiting; log = λ e. absurd ((t.log e).0 free) })
                  (record { number = mine.number; first = mine.first; seen = mine.seen; own = mine.own; durable = mine.durable; copied = λ e. refl; failed = mine.failed; waiting = λ e. let l = mine.waiting e in (l.0, l.1, refl, l.3, l.4); log = λ e. (some_held, refl, refl, refl) });
              others = others_set f.added s.views id w kept.others;
            },
            record {
              part = part;
              commits = home.1;
              taken = f.taken;
              written = f.durable;
              copied = f.copied;
              has = home.3;
              keeps = subst (λ (l : List ℕ). KeepsDurable l f.taken f.durable home.1) (sym mine.first) home.4;
              copies = subst (λ (l : List ℕ). HasCopies l f.durable f.copied part) (sym mine.first) home.5;
              durable = mine.durable;
              follows = λ e z. sym (mine.copied (inl (sym (mine.number e) ∙ z)));
              is = refl;
            },
          )
      by false t = (
        me.0,
        keeps,
        tt,
        record {
          facts = f;
          begun = kept.begun;
          words_are = ap (λ (l : List ℕ). slice_set l 1 (slice_index l 1)) kept.words_are;
          waiting_home = kept.waiting_home;
          log_home = kept.log_home;
          homes_are = kept.homes_are;
          split = kept.split;
          synced = kept.synced;
          counts = kept.counts;
          waiting = kept.waiting;
          log = kept.log;
          each = stays f f s at kept.each (λ j u t. t);
          others = others_set f.added s.views id me.0 kept.others;
        },
        refl,
      )

  -- those that wait are given back as they were
  pub returns_waiting : (part : JournalPart) → me.0.has_waiting ≡ true → me.1 ≡ (0, part) ∷ rest me.1 → part.bytes.items ≡ journal_bytes me.0.waits
      → me.0.count ≡ length (me.0.taken ++ me.0.waits)
      → Allows (Journaling first) slots id me 0 (λ n. 0) (ReturnsWaiting st me)
  returns_waiting part holding has bytes counted s kept homes at fits =
      let f = kept.facts in
      let g : JournalFacts = record f { waiting_word = 0 } in
      let mine = kept.each id me.0 at in
      let held = mine.waiting holding in
      let all : me.0.taken ++ me.0.waits ≡ f.added = (λ i. held.2 i ++ held.3 i) ∙ sym kept.split in
      let w : JournalView = record me.0 { has_waiting = false } in (
        w,
        gives,
        tt,
        record {
          facts = g;
          begun = kept.begun;
          words_are = set_first s.words f 0 kept.words_are;
          waiting_home = some part;
          log_home = kept.log_home;
          homes_are = back_first s.homes kept.waiting_home kept.log_home me.1 part kept.homes_are has;
          split = kept.split;
          synced = kept.synced;
          counts = (λ e. sym held.4 ∙ (counted ∙ ap length all), kept.counts.1, kept.counts.2);
          waiting = λ e. (part, refl, bytes ∙ ap journal_bytes held.3);
          log = kept.log;
          each = each_set f g s.views id w kept.each
              (λ j u apart t. record { number = t.number; first = t.first; seen = t.seen; own = t.own; durable = t.durable; copied = t.copied; failed = t.failed; waiting = λ e. absurd (apart ((t.waiting e).1 ∙ sym held.1)); log = t.log })
              (record { number = mine.number; first = mine.first; seen = mine.seen; own = mine.own; durable = mine.durable; copied = mine.copied; failed = mine.failed; waiting = λ e. absurd (off e); log = mine.log });
          others = others_set f.added s.views id w kept.others;
        },
        refl,
      )

  -- those that wait are given back with a record behind them
  pub adds_record : (part : JournalPart) (bytes : List ℕ) → me.0.is_note ≡ false → me.0.has_waiting ≡ true → me.1 ≡ (0, part) ∷ rest me.1 → part.bytes.items ≡ journal_bytes me.0.waits ++ bytes
      → me.0.count ≡ length (me.0.taken ++ me.0.waits) + 1
      → Allows (Journaling first) slots id me 0 (λ n. 0) (AddsRecord st me)
  adds_record part bytes is_seat holding has are counted s kept homes at fits =
      let f = kept.facts in
      let e : JournalEntry = own_entry me.0 bytes in
      let g : JournalFacts = record f { waiting_word = 0; added = f.added ++ e ∷ []; waits = f.waits ++ e ∷ [] } in
      let mine = kept.each id me.0 at in
      let held = mine.waiting holding in
      let w : JournalView = with_record me.0 e in
      let all : me.0.taken ++ me.0.waits ≡ f.added = (λ i. held.2 i ++ held.3 i) ∙ sym kept.split in
      let longer : f.added_word ≡ length (f.added ++ e ∷ []) = sym held.4 ∙ (counted ∙ (ap (λ (l : List JournalEntry). length l + 1) all ∙ sym (one_more f.added e))) in
      let own : entries_by id (f.added ++ e ∷ []) ≡ me.0.own ++ e ∷ [] = entries_own id f.added e (mine.number is_seat) ∙ ap (λ (l : List JournalEntry). l ++ e ∷ []) (mine.own is_seat) in (
        w,
        gives,
        tt,
        record {
          facts = g;
          begun = kept.begun;
          words_are = set_first s.words f 0 kept.words_are;
          waiting_home = some part;
          log_home = kept.log_home;
          homes_are = back_first s.homes kept.waiting_home kept.log_home me.1 part kept.homes_are has;
          split = ap (λ (l : List JournalEntry). l ++ e ∷ []) kept.split ∙ append_assoc f.taken f.waits (e ∷ []);
          synced = kept.synced;
          counts = (λ z. longer, (let l = longer in omega (arith, l)), kept.counts.2);
          waiting = λ z. (part, refl, are ∙ (ap (λ (l : List JournalEntry). journal_bytes l ++ bytes) held.3 ∙ sym (bytes_more f.waits e)));
          log = kept.log;
          each = each_set f g s.views id w kept.each
              (λ j u apart t. record {
                number = t.number;
                first = t.first;
                seen = longer_prefix u.seen f.added (e ∷ []) t.seen;
                own = λ z. entries_other j f.added e (λ same. apart (sym same ∙ mine.number is_seat)) ∙ t.own z;
                durable = t.durable;
                copied = t.copied;
                failed = t.failed;
                waiting = λ z. absurd (apart ((t.waiting z).1 ∙ sym held.1));
                log = t.log;
              })
              (record {
                number = mine.number;
                first = mine.first;
                seen = subst (λ (l : List JournalEntry). IsPrefix (l ++ e ∷ []) (f.added ++ e ∷ [])) (sym all) (whole_prefix (f.added ++ e ∷ []));
                own = λ z. own;
                durable = mine.durable;
                copied = mine.copied;
                failed = mine.failed;
                waiting = λ z. absurd (off z);
                log = mine.log;
              });
          others = others_set (f.added ++ e ∷ []) s.views id w
              (λ n le. entries_other n f.added e (λ same. below_apart id n (length s.views) (there_below s.views id me.0 at) le (sym (mine.number is_seat) ∙ same)) ∙ kept.others n le);
        },
        record {
          entry = e;
          by = refl;
          behind = ap held_bytes has ∙ are;
          own = ap (λ (n : ℕ). entries_by n ((me.0.taken ++ me.0.waits) ++ e ∷ [])) (mine.number is_seat) ∙ (ap (λ (l : List JournalEntry). entries_by id (l ++ e ∷ [])) all ∙ own);
          is = refl;
        },
      )
    where
      one_more : (es : List JournalEntry) (x : JournalEntry) → length (es ++ x ∷ []) ≡ length es + 1
      one_more es x = let m = more_length es x in omega (arith, m)

      below_apart : (a n len : ℕ) → a < len → len ≤ n → a ≡ n → ⊥
      below_apart a n len lt le same = absurd (omega (arith, lt, le, same))

  -- all that wait are taken
  pub takes_each : (part : JournalPart) → me.0.has_waiting ≡ true → me.0.has_log ≡ true → me.1 ≡ (0, part) ∷ rest me.1 → part.bytes.items ≡ []
      → me.0.count ≡ length (me.0.taken ++ me.0.waits)
      → Allows (Journaling first) slots id me 0 (λ n. 0) (TakesEach st me)
  takes_each part holding logging has none_left counted s kept homes at fits =
      let f = kept.facts in
      let g : JournalFacts = record f { waiting_word = 0; taken = f.taken ++ f.waits; waits = [] } in
      let mine = kept.each id me.0 at in
      let held = mine.waiting holding in
      let log = mine.log logging in
      let w : JournalView = with_each_taken me.0 in
      let both : me.0.taken ++ me.0.waits ≡ f.taken ++ f.waits = λ i. held.2 i ++ held.3 i in (
        w,
        gives,
        tt,
        record {
          facts = g;
          begun = kept.begun;
          words_are = set_first s.words f 0 kept.words_are;
          waiting_home = some part;
          log_home = kept.log_home;
          homes_are = back_first s.homes kept.waiting_home kept.log_home me.1 part kept.homes_are has;
          split = kept.split ∙ sym (nothing_behind (f.taken ++ f.waits));
          synced = longer_prefix f.durable f.taken f.waits kept.synced;
          counts = (λ z. sym held.4 ∙ (counted ∙ (ap length both ∙ ap length (sym kept.split))), kept.counts.1, kept.counts.2);
          waiting = λ z. (part, refl, none_left);
          log = λ z. absurd (log.0 z);
          each = each_set f g s.views id w kept.each
              (λ j u apart t. record { number = t.number; first = t.first; seen = t.seen; own = t.own; durable = t.durable; copied = t.copied; failed = t.failed; waiting = λ z. absurd (apart ((t.waiting z).1 ∙ sym held.1)); log = λ z. absurd (apart ((t.log z).1 ∙ sym log.1)) })
              (record {
                number = mine.number;
                first = mine.first;
                seen = subst (λ (l : List JournalEntry). IsPrefix l f.added) (kept.split ∙ sym both) (whole_prefix f.added);
                own = mine.own;
                durable = mine.durable;
                copied = mine.copied;
                failed = mine.failed;
                waiting = λ z. absurd (off z);
                log = λ z. (log.0, log.1, both, log.3);
              });
          others = others_set f.added s.views id w kept.others;
        },
        refl,
      )

  -- the log is given back, with all of it durable
  pub settles_log : (part : JournalPart) (commits : CommitLog FileLog) → me.0.has_log ≡ true → me.1 ≡ (1, part) ∷ rest me.1 → part.commits ≡ Some commits
      → KeepsDurable me.0.first me.0.taken me.0.taken commits → HasCopies me.0.first me.0.taken me.0.copied part
      → Allows (Journaling first) slots id me 1 (λ n. 0) (SettlesLog st me)
  settles_log part commits logging has is_some whole copies s kept homes at fits =
      let f = kept.facts in
      let g : JournalFacts = record f { log_word = 0; durable = f.taken } in
      let mine = kept.each id me.0 at in
      let log = mine.log logging in
      let w : JournalView = record me.0 { has_log = false; durable = me.0.taken } in (
        w,
        gives,
        tt,
        record {
          facts = g;
          begun = kept.begun;
          words_are = set_second s.words f 0 kept.words_are;
          waiting_home = kept.waiting_home;
          log_home = some part;
          homes_are = back_second s.homes kept.waiting_home kept.log_home me.1 part kept.homes_are has;
          split = kept.split;
          synced = whole_prefix f.taken;
          counts = (kept.counts.0, kept.counts.1, (let c = kept.counts.2 in let l = prefix_length f.durable f.taken kept.synced in omega (arith, c, l)));
          waiting = kept.waiting;
          log = λ z. (
            part,
            commits,
            refl,
            is_some,
            subst (λ (x : List ℕ × List JournalEntry). KeepsDurable x.0 x.1 x.1 commits) (λ i. (mine.first i, log.2 i)) whole,
            subst (λ (x : List ℕ × (List JournalEntry × List ℕ)). HasCopies x.0 x.1.0 x.1.1 part) (λ i. (mine.first i, (log.2 i, mine.copied (inr logging) i))) copies,
          );
          each = each_set f g s.views id w kept.each
              (λ j u apart t. record { number = t.number; first = t.first; seen = t.seen; own = t.own; durable = prefix_through u.durable f.durable f.taken t.durable kept.synced; copied = t.copied; failed = t.failed; waiting = t.waiting; log = λ z. absurd (apart ((t.log z).1 ∙ sym log.1)) })
              (record {
                number = mine.number;
                first = mine.first;
                seen = mine.seen;
                own = mine.own;
                durable = subst (λ (l : List JournalEntry). IsPrefix l f.taken) (sym log.2) (whole_prefix f.taken);
                copied = λ e. mine.copied (inr logging);
                failed = mine.failed;
                waiting = mine.waiting;
                log = λ z. absurd (off z);
              });
          others = others_set f.added s.views id w kept.others;
        },
        refl,
      )

  -- the log is given back, with no more durable than before
  pub returns_log : (part : JournalPart) (commits : CommitLog FileLog) → me.0.has_log ≡ true → me.1 ≡ (1, part) ∷ rest me.1 → part.commits ≡ Some commits
      → KeepsDurable me.0.first me.0.taken me.0.written commits → HasCopies me.0.first me.0.written me.0.copied part
      → Allows (Journaling first) slots id me 1 (λ n. 0) (ReturnsLog st me)
  returns_log part commits logging has is_some whole copies s kept homes at fits =
      let f = kept.facts in
      let g : JournalFacts = record f { log_word = 0 } in
      let mine = kept.each id me.0 at in
      let log = mine.log logging in
      let w : JournalView = record me.0 { has_log = false } in (
        w,
        gives,
        tt,
        record {
          facts = g;
          begun = kept.begun;
          words_are = set_second s.words f 0 kept.words_are;
          waiting_home = kept.waiting_home;
          log_home = some part;
          homes_are = back_second s.homes kept.waiting_home kept.log_home me.1 part kept.homes_are has;
          split = kept.split;
          synced = kept.synced;
          counts = kept.counts;
          waiting = kept.waiting;
          log = λ z. (
            part,
            commits,
            refl,
            is_some,
            subst (λ (x : List ℕ × (List JournalEntry × List JournalEntry)). KeepsDurable x.0 x.1.0 x.1.1 commits) (λ i. (mine.first i, (log.2 i, log.3 i))) whole,
            subst (λ (x : List ℕ × (List JournalEntry × List ℕ)). HasCopies x.0 x.1.0 x.1.1 part) (λ i. (mine.first i, (log.3 i, mine.copied (inr logging) i))) copies,
          );
          each = each_set f g s.views id w kept.each
              (λ j u apart t. record { number = t.number; first = t.first; seen = t.seen; own = t.own; durable = t.durable; copied = t.copied; failed = t.failed; waiting = t.waiting; log = λ z. absurd (apart ((t.log z).1 ∙ sym log.1)) })
              (record { number = mine.number; first = mine.first; seen = mine.seen; own = mine.own; durable = mine.durable; copied = λ e. mine.copied (inr logging); failed = mine.failed; waiting = mine.waiting; log = λ z. absurd (off z) });
          others = others_set f.added s.views id w kept.others;
        },
        refl,
      )

  -- the log is given back, and all that is durable was given to who follows
  pub copies_log : (part : JournalPart) (commits : CommitLog FileLog) → me.0.is_note ≡ false → me.0.number ≡ 0 → me.0.has_log ≡ true → me.1 ≡ (1, part) ∷ rest me.1 → part.commits ≡ Some commits
      → KeepsDurable me.0.first me.0.taken me.0.written commits → part.bytes.items ≡ []
      → Allows (Journaling first) slots id me 1 (λ n. 0) (CopiesLog st me)
  copies_log part commits is_seat follows logging has is_some whole none_left s kept homes at fits =
      let f = kept.facts in
      let g : JournalFacts = record f { log_word = 0; copied = f.first ++ journal_bytes f.durable } in
      let mine = kept.each id me.0 at in
      let log = mine.log logging in
      let w : JournalView = with_copies me.0 in
      let given : me.0.first ++ journal_bytes me.0.written ≡ f.first ++ journal_bytes f.durable = λ i. mine.first i ++ journal_bytes (log.3 i) in (
        w,
        gives,
        tt,
        record {
          facts = g;
          begun = kept.begun;
          words_are = set_second s.words f 0 kept.words_are;
          waiting_home = kept.waiting_home;
          log_home = some part;
          homes_are = back_second s.homes kept.waiting_home kept.log_home me.1 part kept.homes_are has;
          split = kept.split;
          synced = kept.synced;
          counts = kept.counts;
          waiting = kept.waiting;
          log = λ z. (
            part,
            commits,
            refl,
            is_some,
            subst (λ (x : List ℕ × (List JournalEntry × List JournalEntry)). KeepsDurable x.0 x.1.0 x.1.1 commits) (λ i. (mine.first i, (log.2 i, log.3 i))) whole,
            λ e. sym (ap (λ (l : List ℕ). (f.first ++ journal_bytes f.durable) ++ l) none_left ∙ nothing_behind (f.first ++ journal_bytes f.durable)),
          );
          each = each_set f g s.views id w kept.each
              (λ j u apart t. record { number = t.number; first = t.first; seen = t.seen; own = t.own; durable = t.durable; copied = λ e. absurd (another j u apart t e); failed = t.failed; waiting = t.waiting; log = λ z. absurd (apart ((t.log z).1 ∙ sym log.1)) })
              (record { number = mine.number; first = mine.first; seen = mine.seen; own = mine.own; durable = mine.durable; copied = λ e. given; failed = mine.failed; waiting = mine.waiting; log = λ z. absurd (off z) });
          others = others_set f.added s.views id w kept.others;
        },
        refl,
      )
    where
      -- no other seat follows, or holds the log
      another : (j : ℕ) (u : JournalView) → j ≢ id → FitsJournal kept.facts j u → (j ≡ 0) ⊎ (u.has_log ≡ true) → ⊥
      another j u apart t e =
          let mine = kept.each id me.0 at in
          ⊎_elim
          (λ (first_seat : j ≡ 0). apart (first_seat ∙ (sym follows ∙ mine.number is_seat)))
          (λ (z : u.has_log ≡ true). apart ((t.log z).1 ∙ sym (mine.log logging).1))
          e

  pub marks : (word : ℕ) → (word ≡ 0) ⊎ (word ≡ 1) → Allows (Journaling first) slots id me word (λ n. either (n == 1) 2 n) (StaysAsItIs st me)
  marks word (inl is) = subst (λ (k : ℕ). Allows (Journaling first) slots id me k (λ n. either (n == 1) 2 n) (StaysAsItIs st me)) (sym is) marks_waiting
  marks word (inr is) = subst (λ (k : ℕ). Allows (Journaling first) slots id me k (λ n. either (n == 1) 2 n) (StaysAsItIs st me)) (sym is) marks_log

-- the record that was added is this one
pub own_record : (st : Step JournalPart) (v w : Me JournalPart JournalView) (found : ℕ) (part : JournalPart) (bytes : List ℕ) → v.1 ≡ (0, part) ∷ rest v.1
    → part.bytes.items ≡ journal_bytes v.0.waits ++ bytes → AddsRecord st v found w
    → (entries_by v.0.number ((v.0.taken ++ v.0.waits) ++ own_entry v.0 bytes ∷ []) ≡ v.0.own ++ own_entry v.0 bytes ∷ [])
    × (◌≡◌ {A = Me JournalPart JournalView} w (with_record v.0 (own_entry v.0 bytes), rest v.1))
own_record st v w found part bytes has are adds =
    let these : adds.entry.bytes ≡ bytes = same_rest (journal_bytes v.0.waits) adds.entry.bytes bytes (sym adds.behind ∙ (ap held_bytes has ∙ are)) in
    let this : adds.entry ≡ own_entry v.0 bytes = λ i. record { by = adds.by i; bytes = these i } in (
      subst (λ (e : JournalEntry). entries_by v.0.number ((v.0.taken ++ v.0.waits) ++ e ∷ []) ≡ v.0.own ++ e ∷ []) this adds.own,
      subst (λ (e : JournalEntry). ◌≡◌ {A = Me JournalPart JournalView} w (with_record v.0 e, rest v.1)) this adds.is,
    )
