-- Notes of what seats had seen keep the rule of a journal's table.
use Rattle.std.proofs.Common.{◌≡◌, ◌⊎◌, inl, inr, ℕ, true, false, true≢false, List, [], length, refl, sym, ◌∙◌, arith}
use Rattle.std.specs.Prelude.{slice_set}
use mathlib.Core.Option.{some}
use lib.ListN.{get_elem?}
use Rattle.atomic_table.specs.Table.{State, Me, Step, Enters, Splits}
use Rattle.shared_journal.specs.declared.journal_part.JournalPart.{JournalPart}
use Rattle.shared_journal.specs.declared.seat_views.JournalView.{JournalView}
use Rattle.shared_journal.specs.JournalRule.{FitsJournal, IsJournal, IsBlankNote, noted_view}
use Rattle.shared_journal.proofs.JournalLists.{set_length, there_below}
use Rattle.shared_journal.proofs.JournalSteps.{Journaling, each_set, others_set, one_seat_more}

-- each view stays
same_views : (first : List ℕ) (s : State JournalPart JournalView) (id : ℕ) (v : JournalView) (kept : Journaling first s) → get_elem? s.views id ≡ some v
    → IsJournal first s.words s.homes (slice_set s.views id v)
same_views first s id v kept at =
    record {
      facts = kept.facts;
      begun = kept.begun;
      words_are = kept.words_are;
      waiting_home = kept.waiting_home;
      log_home = kept.log_home;
      homes_are = kept.homes_are;
      split = kept.split;
      synced = kept.synced;
      counts = kept.counts;
      waiting = kept.waiting;
      log = kept.log;
      each = each_set kept.facts kept.facts s.views id v kept.each (λ j u apart t. t) (kept.each id v at);
      others = others_set kept.facts.added s.views id v kept.others;
    }

-- a new seat that is a note of nothing
pub begins_note : (slots : ℕ) (first : List ℕ) (st : Step JournalPart) (v : Me JournalPart JournalView) → v.0.first ≡ first
    → Enters (Journaling first) slots 2 (λ n w. IsBlankNote st v n (w, []))
begins_note slots first st v begins s kept homes fits =
    let f = kept.facts in
    let w : JournalView = record { number = 0; first = f.first; seen = []; own = []; durable = []; is_failed = false; has_waiting = false; has_log = false; count = 0; taken = []; waits = []; written = []; copied = f.copied; is_note = true } in
    let mine : FitsJournal f (length s.views) w = record { number = λ e. absurd (true≢false e); first = refl; seen = (f.added, refl); own = λ e. absurd (true≢false e); durable = (f.durable, refl); copied = λ e. refl; failed = λ t. absurd (true≢false (sym t)); waiting = λ t. absurd (true≢false (sym t)); log = λ t. absurd (true≢false (sym t)) } in (
      w,
      one_seat_more first s kept w mine,
      (kept.begun ∙ sym begins, refl, refl, refl, refl, refl, refl),
    )

-- a seat leaves a note of what it had seen
pub leaves_note : (first : List ℕ) (id : ℕ) (v : JournalView) → v.has_waiting ≡ false → v.has_log ≡ false
    → Splits (Journaling first) id v v (noted_view v)
unfolding same_views
leaves_note first id v free away s kept at =
    one_seat_more first there (same_views first s id v kept at) (noted_view v)
    (record { number = λ e. absurd (true≢false e); first = mine.first; seen = mine.seen; own = λ e. absurd (true≢false e); durable = mine.durable; copied = not_first; failed = mine.failed; waiting = λ t. absurd (true≢false (sym t ∙ free)); log = λ t. absurd (true≢false (sym t ∙ away)) })
  where
    there : State JournalPart JournalView
    there = record { words = s.words; homes = s.homes; views = slice_set s.views id v }

    mine : FitsJournal kept.facts id v
    mine = kept.each id v at

    not_first : (length there.views ≡ 0) ⊎ (v.has_log ≡ true) → v.copied ≡ kept.facts.copied
    not_first (inl none_there) = absurd (let below = there_below s.views id v at in let same = set_length s.views id v in omega (arith, below, same, none_there))
    not_first (inr logging) = absurd (true≢false (sym logging ∙ away))
