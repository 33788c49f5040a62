-- What who follows a journal takes from it, step by step.
use Rattle.std.proofs.Common.{◌≡◌, ℕ, Bool, true, false, true≢false, List, [], ◌∷◌, ◌++◌, Some, refl, sym, ap, ◌∙◌, subst}
use Rattle.atomic_table.specs.Table.{rest}
use Rattle.journal_file.specs.declared.file_log.FileLog.{FileLog}
use Rattle.shared_journal.specs.declared.commit_log.CommitLog.{CommitLog}
use Rattle.shared_journal.specs.declared.journal_part.JournalPart.{JournalPart}
use Rattle.shared_journal.specs.declared.seat_views.JournalEntry.{JournalEntry}
use Rattle.shared_journal.specs.JournalRule.{AreCopies, IsFollower, HasCopies, KeepsDurable, TakesLog, with_copies}
use Rattle.shared_journal.specs.Standing.{StandForJournal}
use Rattle.shared_journal.proofs.JournalCalls.{Held, first_held, same_part, same_log, some_or, log_there, log_one, log_view}

-- what isn't lost wasn't before
pub still_found : (old new : Bool) → (old ≡ true → new ≡ true) → new ≡ false → old ≡ false
still_found true new stays found = absurd (true≢false (sym (stays refl) ∙ found))
still_found false new stays found = refl

-- after the two exchanges the seat holds this part
pub log_two : (v w x y : Held) (t : TakesLog v w) (spare put : JournalPart) → x ≡ (w.0, (1, spare) ∷ rest w.1) → y ≡ (x.0, (1, put) ∷ rest x.1)
    → ◌≡◌ {A = Held} y (log_view v.0 t.taken t.written t.copied, (1, put) ∷ v.1)
log_two v w x y t spare put one two = two ∙ ap (λ (m : Held). (m.0, (1, put) ∷ rest m.1)) (log_one v w x t spare one)

-- what is asked where the log is given back, all of it copied
pub gives_copied : (v y : Held) (taken written : List JournalEntry) (copied : List ℕ) (put : JournalPart) (commits : CommitLog FileLog)
    → ◌≡◌ {A = Held} y (log_view v.0 taken written copied, (1, put) ∷ v.1) → put.commits ≡ Some commits → KeepsDurable v.0.first taken written commits → put.bytes.items ≡ []
    → (y.0.has_log ≡ true) × ((part : JournalPart) × (c : CommitLog FileLog) × (y.1 ≡ (1, part) ∷ rest y.1) × (part.commits ≡ Some c) × KeepsDurable y.0.first y.0.taken y.0.written c
    × (part.bytes.items ≡ []))
gives_copied v y taken written copied put commits is has keeps none_left = (
  ap (λ (m : Held). m.0.has_log) is,
  (
    put,
    commits,
    first_held 1 put y.1 v.1 (ap (λ (m : Held). m.1) is),
    has,
    subst (λ (m : Held). KeepsDurable m.0.first m.0.taken m.0.written commits) (sym is) keeps,
    none_left,
  ),
)

-- it is still the seat of who follows
pub number_held : (v y : Held) (taken written : List JournalEntry) (copied : List ℕ) (held : List (ℕ × JournalPart)) → ◌≡◌ {A = Held} y (log_view v.0 taken written copied, held) → IsFollower v → (y.0.is_note ≡ false) × (y.0.number ≡ 0)
number_held v y taken written copied held is follows = (ap (λ (m : Held). m.0.is_note) is ∙ follows.is_seat, ap (λ (m : Held). m.0.number) is ∙ follows.number)

-- who follows holds nothing then
pub follows_on : (v y z : Held) (taken written : List JournalEntry) (copied : List ℕ) (put : JournalPart) → ◌≡◌ {A = Held} y (log_view v.0 taken written copied, (1, put) ∷ v.1)
    → ◌≡◌ {A = Held} z (with_copies y.0, rest y.1) → IsFollower v → IsFollower z
follows_on v y z taken written copied put is given follows =
    let here : ◌≡◌ {A = Held} z (with_copies (log_view v.0 taken written copied), v.1) = given ∙ ap (λ (m : Held). (with_copies m.0, rest m.1)) is in
    record {
      is_seat = ap (λ (m : Held). m.0.is_note) here ∙ follows.is_seat;
      number = ap (λ (m : Held). m.0.number) here ∙ follows.number;
      no_waiting = ap (λ (m : Held). m.0.has_waiting) here ∙ follows.no_waiting;
      no_log = ap (λ (m : Held). m.0.has_log) here;
      none_held = ap (λ (m : Held). m.1) here ∙ follows.none_held;
    }

pub same_first : (v y z : Held) (taken written : List JournalEntry) (copied : List ℕ) (put : JournalPart) → ◌≡◌ {A = Held} y (log_view v.0 taken written copied, (1, put) ∷ v.1)
    → ◌≡◌ {A = Held} z (with_copies y.0, rest y.1) → z.0.first ≡ v.0.first
same_first v y z taken written copied put is given = ap (λ (m : Held). m.0.first) (given ∙ ap (λ (m : Held). (with_copies m.0, rest m.1)) is)

-- what came with the log
pub copies_of : (v w : Held) (t : TakesLog v w) (got : JournalPart) → w.1 ≡ (1, got) ∷ rest w.1 → HasCopies v.0.first t.written t.copied got
copies_of v w t got there =
    subst (HasCopies v.0.first t.written t.copied) (sym (same_part 1 got t.part w.1 (rest w.1) (rest w.1) there (log_there v w t))) t.copies

pub copies_of_slice : (v w : Held) (t : TakesLog v w) (got : JournalPart) (bytes : List ℕ) → w.1 ≡ (1, got) ∷ rest w.1 → bytes ≡ got.bytes.items
    → AreCopies v.0.first t.written t.copied got.is_followed bytes
copies_of_slice v w t got bytes there is = subst (AreCopies v.0.first t.written t.copied got.is_followed) (sym is) (copies_of v w t got there)

-- the log that was taken out keeps what is durable
pub keeps_got : (v w : Held) (t : TakesLog v w) (got : JournalPart) (commits : CommitLog FileLog) → w.1 ≡ (1, got) ∷ rest w.1 → got.commits ≡ Some commits → KeepsDurable v.0.first t.taken t.written commits
keeps_got v w t got commits there has =
    let these : commits ≡ t.commits = ap (some_or commits) (sym has ∙ same_log v w t got there) in
    subst (KeepsDurable v.0.first t.taken t.written) (sym these) t.keeps

-- what stands for the bytes that were given stands for those that the log knows of
pub stands_for_copied : (v w : Held) (t : TakesLog v w) (bytes : List ℕ) → IsFollower v → StandForJournal bytes v.0.copied → StandForJournal bytes t.copied
stands_for_copied v w t bytes follows stands = subst (StandForJournal bytes) (sym (t.follows follows.is_seat follows.number)) stands

-- the bytes that were given are those that weren't given before
pub copies_given : (v w y z : Held) (t : TakesLog v w) (put got : JournalPart) → ◌≡◌ {A = Held} y (log_view v.0 t.taken t.written t.copied, (1, put) ∷ v.1)
    → ◌≡◌ {A = Held} z (with_copies y.0, rest y.1) → IsFollower v → HasCopies v.0.first t.written t.copied got → got.is_followed ≡ true
    → z.0.copied ≡ v.0.copied ++ got.bytes.items
copies_given v w y z t put got is given follows copies followed =
    ap (λ (m : Held). m.0.copied) (given ∙ ap (λ (m : Held). (with_copies m.0, rest m.1)) is)
    ∙ (copies followed ∙ ap (λ (l : List ℕ). l ++ got.bytes.items) (t.follows follows.is_seat follows.number))
