-- What the calls of a journal come to, step by step.
use Rattle.std.proofs.Common.{◌≡◌, ℕ, Bool, true, false, true≢false, ◌+◌, ◌≤◌, List, [], ◌∷◌, ◌++◌, length, Option, Some, None, refl, sym, ap, ◌∙◌, subst, arith, append_assoc}
use mathlib.Core.List.{IsPrefix}
use Rattle.atomic_table.specs.Table.{Me, rest}
use Rattle.journal.specs.Logs.{LogState}
use Rattle.journal_file.specs.FileLogs.{file_state}
use Rattle.journal_file.specs.declared.file_log.FileLog.{FileLog}
use Rattle.shared_journal.specs.declared.commit_log.CommitLog.{CommitLog}
use Rattle.shared_journal.specs.declared.journal_part.JournalPart.{JournalPart}
use Rattle.shared_journal.specs.declared.seat_views.JournalEntry.{JournalEntry}
use Rattle.shared_journal.specs.declared.seat_views.JournalView.{JournalView}
use Rattle.shared_journal.specs.JournalHistories.{entries_by, journal_bytes}
use Rattle.shared_journal.specs.JournalRule.{KeepsDurable, AreCopies, HasCopies, own_entry, with_record, with_each_taken, TakesWaiting, TakesLog, PutsRecord, SeesWaiting, TakesBytes, WritesAll, WritesNone, CommitsAll, CommitsNone, SeesEach}
use Rattle.shared_journal.specs.Standing.{StandForJournal}
use Rattle.shared_journal.proofs.JournalLists.{whole_prefix, prefix_through, bytes_both}
use Rattle.shared_journal.proofs.Standings.{stands_with_more}

-- a log that has failed keeps what is durable, whatever was taken
pub keeps_failed : (first : List ℕ) (taken later written : List JournalEntry) (old new : CommitLog FileLog) → KeepsDurable first taken written old
    → new.has_failed ≡ true → (file_state new.log).durable ≡ (file_state old.log).durable → KeepsDurable first later written new
keeps_failed first taken later written old new keeps stopped same =
    record {
      bytes = keeps.bytes;
      stands = keeps.stands;
      kept = subst (IsPrefix keeps.bytes) (sym same) keeps.kept;
      all = λ e. absurd (true≢false (sym stopped ∙ e));
      whole = λ e. absurd (true≢false (sym stopped ∙ e));
    }

-- a new log, whose bytes stand for the journal's
pub keeps_new : (first : List ℕ) (taken written : List JournalEntry) (bytes whole : List ℕ) (new : CommitLog FileLog) → StandForJournal bytes whole
    → first ++ journal_bytes written ≡ whole → file_state new.log ≡ record { durable = bytes; pending = [] } → written ≡ taken → KeepsDurable first taken written new
keeps_new first taken written bytes whole new stands is state all =
    record {
      bytes = bytes;
      stands = subst (StandForJournal bytes) (sym is) stands;
      kept = subst (IsPrefix bytes) (sym (ap (λ (s : LogState). s.durable) state)) (whole_prefix bytes);
      all = λ e. all;
      whole = λ e. state;
    }

abbrev pub Held : Type 0
Held = Me JournalPart JournalView

-- the first part that is held, whatever is held behind it
pub first_held : (slot : ℕ) (part : JournalPart) (held more : List (ℕ × JournalPart)) → held ≡ (slot, part) ∷ more → held ≡ (slot, part) ∷ rest held
first_held slot part held more is = is ∙ ap (λ (l : List (ℕ × JournalPart)). (slot, part) ∷ l) (sym (ap rest is))

abbrev part_or : JournalPart → List (ℕ × JournalPart) → JournalPart
part_or none_held [] = none_held
part_or none_held (held ∷ more) = held.1

pub same_part : (slot : ℕ) (a b : JournalPart) (held more others : List (ℕ × JournalPart)) → held ≡ (slot, a) ∷ more → held ≡ (slot, b) ∷ others → a ≡ b
same_part slot a b held more others one two = ap (part_or a) (sym one ∙ two)

-- ---- those that wait

abbrev pub counted_view : JournalView → ℕ → List JournalEntry → List JournalEntry → JournalView
counted_view v count taken waits = record v { has_waiting = true; count = count; taken = taken; waits = waits }

abbrev pub waiting_view : JournalView → List JournalEntry → List JournalEntry → JournalView
waiting_view v taken waits = counted_view v (length (taken ++ waits)) taken waits

pub waiting_there : (v w : Held) (t : TakesWaiting v w) → w.1 ≡ (0, t.part) ∷ rest w.1
waiting_there v w t = first_held 0 t.part w.1 v.1 (ap (λ (m : Held). m.1) t.is)

pub waiting_bytes : (v w : Held) (t : TakesWaiting v w) (got : JournalPart) → w.1 ≡ (0, got) ∷ rest w.1 → got.bytes.items ≡ journal_bytes t.waits
waiting_bytes v w t got there =
    ap (λ (p : JournalPart). p.bytes.items) (same_part 0 got t.part w.1 (rest w.1) (rest w.1) there (waiting_there v w t)) ∙ t.bytes

-- after one part was put in its place, and after two
pub waiting_one : (v w x : Held) (t : TakesWaiting v w) (put : JournalPart) → x ≡ (w.0, (0, put) ∷ rest w.1) → ◌≡◌ {A = Held} x (waiting_view v.0 t.taken t.waits, (0, put) ∷ v.1)
waiting_one v w x t put is = is ∙ ap (λ (m : Held). (m.0, (0, put) ∷ rest m.1)) t.is

pub waiting_two : (v w x y : Held) (t : TakesWaiting v w) (spare put : JournalPart) → x ≡ (w.0, (0, spare) ∷ rest w.1) → y ≡ (x.0, (0, put) ∷ rest x.1) → ◌≡◌ {A = Held} y (waiting_view v.0 t.taken t.waits, (0, put) ∷ v.1)
waiting_two v w x y t spare put one two = two ∙ ap (λ (m : Held). (m.0, (0, put) ∷ rest m.1)) (waiting_one v w x t spare one)

-- what is asked where they are given back
pub gives_waiting : (v y : Held) (taken waits : List JournalEntry) (put : JournalPart) → ◌≡◌ {A = Held} y (waiting_view v.0 taken waits, (0, put) ∷ v.1)
    → put.bytes.items ≡ journal_bytes waits
    → (y.0.has_waiting ≡ true) × ((part : JournalPart) × (y.1 ≡ (0, part) ∷ rest y.1) × (part.bytes.items ≡ journal_bytes y.0.waits))
gives_waiting v y taken waits put is bytes = (
  ap (λ (m : Held). m.0.has_waiting) is,
  (put, first_held 0 put y.1 v.1 (ap (λ (m : Held). m.1) is), bytes ∙ sym (ap (λ (m : Held). journal_bytes m.0.waits) is)),
)

-- another number is counted
pub counts_more : (v y z : Held) (taken waits : List JournalEntry) (put : JournalPart) (n : ℕ) → ◌≡◌ {A = Held} y (waiting_view v.0 taken waits, (0, put) ∷ v.1)
    → ◌≡◌ {A = Held} z (record y.0 { count = n }, y.1) → ◌≡◌ {A = Held} z (counted_view v.0 n taken waits, (0, put) ∷ v.1)
counts_more v y z taken waits put n is counted = counted ∙ ap (λ (m : Held). (record m.0 { count = n }, m.1)) is

pub gives_record : (v y : Held) (taken waits : List JournalEntry) (put : JournalPart) (n : ℕ) (bytes : List ℕ) → ◌≡◌ {A = Held} y (counted_view v.0 n taken waits, (0, put) ∷ v.1)
    → put.bytes.items ≡ journal_bytes waits ++ bytes
    → (y.0.has_waiting ≡ true) × ((part : JournalPart) × (y.1 ≡ (0, part) ∷ rest y.1) × (part.bytes.items ≡ journal_bytes y.0.waits ++ bytes))
gives_record v y taken waits put n bytes is are = (
  ap (λ (m : Held). m.0.has_waiting) is,
  (put, first_held 0 put y.1 v.1 (ap (λ (m : Held). m.1) is), are ∙ sym (ap (λ (m : Held). journal_bytes m.0.waits ++ bytes) is)),
)

-- what is known of the number
pub counts_more_than : (v y : Held) (n : ℕ) (taken waits : List JournalEntry) (held : List (ℕ × JournalPart)) → ◌≡◌ {A = Held} y (counted_view v.0 n taken waits, held)
    → n ≡ length (taken ++ waits) + 1 → y.0.count ≡ length (y.0.taken ++ y.0.waits) + 1
counts_more_than v y n taken waits held is e = subst (λ (m : Held). m.0.count ≡ length (m.0.taken ++ m.0.waits) + 1) (sym is) e

pub counts_each : (v y : Held) (taken waits : List JournalEntry) (held : List (ℕ × JournalPart)) → ◌≡◌ {A = Held} y (waiting_view v.0 taken waits, held)
    → y.0.count ≡ length (y.0.taken ++ y.0.waits)
counts_each v y taken waits held is = subst (λ (m : Held). m.0.count ≡ length (m.0.taken ++ m.0.waits)) (sym is) refl

pub counted_by : (v w : Held) (t : TakesWaiting v w) (n : ℕ) → n ≡ w.0.count → n ≡ length (t.taken ++ t.waits)
counted_by v w t n e = e ∙ ap (λ (m : Held). m.0.count) t.is

pub one_more : (n k : ℕ) → n ≡ k → n + 1 ≡ k + 1
one_more n k e = ap (λ (m : ℕ). m + 1) e

pub no_fewer : (v y : Held) (n : ℕ) (taken waits : List JournalEntry) (held : List (ℕ × JournalPart)) → ◌≡◌ {A = Held} y (waiting_view v.0 taken waits, held)
    → n ≡ length (taken ++ waits) → length (y.0.taken ++ y.0.waits) ≤ n + 1
no_fewer v y n taken waits held is e =
    let all : length (y.0.taken ++ y.0.waits) ≡ length (taken ++ waits) = ap (λ (m : Held). length (m.0.taken ++ m.0.waits)) is in omega (arith, all, e)

pub still_held : (v y : Held) (taken waits : List JournalEntry) (held : List (ℕ × JournalPart)) → ◌≡◌ {A = Held} y (waiting_view v.0 taken waits, held) → y.0.has_waiting ≡ true
still_held v y taken waits held is = ap (λ (m : Held). m.0.has_waiting) is

-- so many were taken
pub taken_count : (v x z : Held) (n : ℕ) (taken waits : List JournalEntry) (held : List (ℕ × JournalPart)) → ◌≡◌ {A = Held} x (waiting_view v.0 taken waits, held)
    → ◌≡◌ {A = Held} z (with_each_taken x.0, rest x.1) → n ≡ length (taken ++ waits) → n ≡ length z.0.taken
taken_count v x z n taken waits held is given e =
    e ∙ sym (ap (λ (m : Held). length m.0.taken) given ∙ ap (λ (m : Held). length (m.0.taken ++ m.0.waits)) is)

-- a record was put in
pub puts : (v w y z : Held) (t : TakesWaiting v w) (put : JournalPart) (n : ℕ) (bytes : List ℕ) → ◌≡◌ {A = Held} y (counted_view v.0 n t.taken t.waits, (0, put) ∷ v.1)
    → entries_by y.0.number ((y.0.taken ++ y.0.waits) ++ own_entry y.0 bytes ∷ []) ≡ y.0.own ++ own_entry y.0 bytes ∷ []
    → ◌≡◌ {A = Held} z (with_record y.0 (own_entry y.0 bytes), rest y.1) → PutsRecord v bytes z
puts v w y z t put n bytes is own given =
    record {
      count = n;
      taken = t.taken;
      waits = t.waits;
      seen = t.seen;
      own = subst (λ (m : Held). entries_by m.0.number ((m.0.taken ++ m.0.waits) ++ own_entry m.0 bytes ∷ []) ≡ m.0.own ++ own_entry m.0 bytes ∷ []) is own;
      is = given ∙ ap (λ (m : Held). (with_record m.0 (own_entry m.0 bytes), rest m.1)) is;
    }

-- they were looked at
pub sees : (v w y z : Held) (t : TakesWaiting v w) (put : JournalPart) → ◌≡◌ {A = Held} y (waiting_view v.0 t.taken t.waits, (0, put) ∷ v.1)
    → ◌≡◌ {A = Held} z (record y.0 { has_waiting = false }, rest y.1) → SeesWaiting v z
sees v w y z t put is given =
    record { count = length (t.taken ++ t.waits); taken = t.taken; waits = t.waits; is = given ∙ ap (λ (m : Held). (record m.0 { has_waiting = false }, rest m.1)) is }

-- all of them were taken
pub gives_none : (v y : Held) (taken waits : List JournalEntry) (put : JournalPart) → ◌≡◌ {A = Held} y (waiting_view v.0 taken waits, (0, put) ∷ v.1) → put.bytes.items ≡ []
    → (part : JournalPart) × (y.1 ≡ (0, part) ∷ rest y.1) × (part.bytes.items ≡ [])
gives_none v y taken waits put is none_left = (put, first_held 0 put y.1 v.1 (ap (λ (m : Held). m.1) is), none_left)

pub takes_bytes : (v w x z : Held) (t : TakesWaiting v w) (put got : JournalPart) → v.0.has_log ≡ true → ◌≡◌ {A = Held} x (waiting_view v.0 t.taken t.waits, (0, put) ∷ v.1)
    → w.1 ≡ (0, got) ∷ rest w.1 → ◌≡◌ {A = Held} z (with_each_taken x.0, rest x.1) → TakesBytes v got.bytes.items z
takes_bytes v w x z t put got logging is there given =
    let same : t.taken ≡ v.0.taken = t.same logging in
    record {
      waits = t.waits;
      are = waiting_bytes v w t got there;
      seen = subst (λ (l : List JournalEntry). IsPrefix v.0.seen (l ++ t.waits)) same t.seen;
      is = given ∙ (ap (λ (m : Held). (with_each_taken m.0, rest m.1)) is
          ∙ ap (λ (l : List JournalEntry). (with_each_taken (waiting_view v.0 l t.waits), v.1)) same);
    }

-- ---- the log

-- nothing was written
pub none_written : (v : Held) → v.0.has_waiting ≡ false → WritesNone v v
none_written v free =
    record { count = v.0.count; seen = v.0.seen; taken = v.0.taken; waits = v.0.waits; later = whole_prefix v.0.seen; is = λ i. (record v.0 { has_waiting = free i }, v.1) }

-- what was taken was not written
pub taken_for_none : (v w : Held) (bytes : List ℕ) → TakesBytes v bytes w → WritesNone v w
taken_for_none v w bytes t =
    record { count = length (v.0.taken ++ t.waits); seen = v.0.taken ++ t.waits; taken = v.0.taken ++ t.waits; waits = t.waits; later = t.seen; is = t.is }

pub taken_and_written : (v w : Held) (bytes : List ℕ) → v.0.written ≡ v.0.taken → TakesBytes v bytes w → WritesAll v w
taken_and_written v w bytes before t = record { waits = t.waits; before = before; seen = t.seen; is = t.is }

-- a log that has what was taken
pub keeps_more : (v w : Held) (bytes : List ℕ) (old new : CommitLog FileLog) → TakesBytes v bytes w → KeepsDurable v.0.first v.0.taken v.0.written old → old.has_failed ≡ false
    → file_state new.log ≡ record { durable = (file_state old.log).durable ++ bytes; pending = [] }
    → KeepsDurable w.0.first w.0.taken w.0.taken new
keeps_more v w bytes old new t keeps goes whole =
    subst (λ (m : Held). KeepsDurable m.0.first m.0.taken m.0.taken new) (sym t.is) now
  where
    all : (v.0.first ++ journal_bytes v.0.written) ++ bytes ≡ v.0.first ++ journal_bytes (v.0.taken ++ t.waits)
    all =
        append_assoc v.0.first (journal_bytes v.0.written) bytes
        ∙ ((λ i. v.0.first ++ (journal_bytes (keeps.all goes i) ++ t.are i))
        ∙ ap (λ (l : List ℕ). v.0.first ++ l) (sym (bytes_both v.0.taken t.waits)))

    state : file_state new.log ≡ record { durable = keeps.bytes ++ bytes; pending = [] }
    state = whole ∙ ap (λ (s : LogState). record { durable = s.durable ++ bytes; pending = [] }) (keeps.whole goes)

    now : KeepsDurable v.0.first (v.0.taken ++ t.waits) (v.0.taken ++ t.waits) new
    now =
        record {
          bytes = keeps.bytes ++ bytes;
          stands = subst (StandForJournal (keeps.bytes ++ bytes)) all (stands_with_more keeps.bytes (v.0.first ++ journal_bytes v.0.written) bytes keeps.stands);
          kept = subst (λ (l : List ℕ). IsPrefix (keeps.bytes ++ bytes) l) (sym (ap (λ (s : LogState). s.durable) state)) (whole_prefix (keeps.bytes ++ bytes));
          all = λ e. refl;
          whole = λ e. state;
        }

-- a log that failed has what it had
pub keeps_old : (v w : Held) (bytes : List ℕ) (old new : CommitLog FileLog) → TakesBytes v bytes w → KeepsDurable v.0.first v.0.taken v.0.written old
    → new.has_failed ≡ true → (file_state new.log).durable ≡ (file_state old.log).durable
    → KeepsDurable w.0.first w.0.taken w.0.written new
keeps_old v w bytes old new t keeps stopped same =
    subst (λ (m : Held). KeepsDurable m.0.first m.0.taken m.0.written new) (sym t.is)
    (keeps_failed v.0.first v.0.taken (v.0.taken ++ t.waits) v.0.written old new keeps stopped same)

-- a log that differs in its buffer alone
pub keeps_same : (first : List ℕ) (taken written : List JournalEntry) (old new : CommitLog FileLog) → new.log ≡ old.log → new.has_failed ≡ old.has_failed
    → KeepsDurable first taken written old → KeepsDurable first taken written new
keeps_same first taken written old new log failed keeps =
    record {
      bytes = keeps.bytes;
      stands = keeps.stands;
      kept = subst (λ (l : FileLog). IsPrefix keeps.bytes (file_state l).durable) (sym log) keeps.kept;
      all = λ e. keeps.all (sym failed ∙ e);
      whole = λ e. ap file_state log ∙ keeps.whole (sym failed ∙ e);
    }

pub written_ok : (v w : Held) (bytes : List ℕ) (old new : CommitLog FileLog) → TakesBytes v bytes w → KeepsDurable v.0.first v.0.taken v.0.written old → old.has_failed ≡ false
    → ((file_state old.log).pending ≡ [] → file_state new.log ≡ record { durable = (file_state old.log).durable ++ bytes; pending = [] })
    → WritesAll v w × KeepsDurable w.0.first w.0.taken w.0.taken new
written_ok v w bytes old new t keeps goes state = (
  taken_and_written v w bytes (keeps.all goes) t,
  keeps_more v w bytes old new t keeps goes (state (ap (λ (s : LogState). s.pending) (keeps.whole goes))),
)

-- what was taken was copied too
pub copies_more : (v w : Held) (bytes copies more : List ℕ) (old new : Bool) (commits : CommitLog FileLog) → TakesBytes v bytes w → KeepsDurable v.0.first v.0.taken v.0.written commits → commits.has_failed ≡ false
    → AreCopies v.0.first v.0.written v.0.copied old copies → (new ≡ true → (old ≡ true) × (more ≡ copies ++ bytes))
    → AreCopies w.0.first w.0.taken w.0.copied new more
copies_more v w bytes copies more old new commits t keeps goes are put follows =
    let is = put follows in
    subst (λ (m : Held). m.0.first ++ journal_bytes m.0.taken ≡ m.0.copied ++ more) (sym t.is)
    (ap (λ (l : List ℕ). v.0.first ++ l) (bytes_both v.0.taken t.waits)
    ∙ (sym (λ i. v.0.first ++ (journal_bytes (keeps.all goes i) ++ t.are i))
    ∙ (sym (append_assoc v.0.first (journal_bytes v.0.written) bytes)
    ∙ (ap (λ (l : List ℕ). l ++ bytes) (are is.0) ∙ (append_assoc v.0.copied copies bytes ∙ ap (λ (l : List ℕ). v.0.copied ++ l) (sym is.1))))))

pub written_err : (v w : Held) (bytes : List ℕ) (old new : CommitLog FileLog) → TakesBytes v bytes w → KeepsDurable v.0.first v.0.taken v.0.written old
    → new.has_failed ≡ true → (file_state new.log).durable ≡ (file_state old.log).durable
    → WritesNone v w × KeepsDurable w.0.first w.0.taken w.0.written new
written_err v w bytes old new t keeps stops kept = (taken_for_none v w bytes t, keeps_old v w bytes old new t keeps stops kept)

abbrev pub log_view : JournalView → List JournalEntry → List JournalEntry → List ℕ → JournalView
log_view v taken written copied = record v { has_log = true; taken = taken; written = written; copied = copied }

pub log_there : (v w : Held) (t : TakesLog v w) → w.1 ≡ (1, t.part) ∷ rest w.1
log_there v w t = first_held 1 t.part w.1 v.1 (ap (λ (m : Held). m.1) t.is)

pub log_one : (v w x : Held) (t : TakesLog v w) (put : JournalPart) → x ≡ (w.0, (1, put) ∷ rest w.1) → ◌≡◌ {A = Held} x (log_view v.0 t.taken t.written t.copied, (1, put) ∷ v.1)
log_one v w x t put is = is ∙ ap (λ (m : Held). (m.0, (1, put) ∷ rest m.1)) t.is

abbrev pub some_or : CommitLog FileLog → Option (CommitLog FileLog) → CommitLog FileLog
some_or other None = other
some_or other (Some commits) = commits

-- the log that was taken out is the one that the seat knows
pub same_log : (v w : Held) (t : TakesLog v w) (got : JournalPart) → w.1 ≡ (1, got) ∷ rest w.1 → got.commits ≡ Some t.commits
same_log v w t got there =
    ap (λ (p : JournalPart). p.commits) (same_part 1 got t.part w.1 (rest w.1) (rest w.1) there (log_there v w t)) ∙ t.has

pub keeps_taken : (v w x : Held) (t : TakesLog v w) (put got : JournalPart) (commits : CommitLog FileLog) → w.1 ≡ (1, got) ∷ rest w.1 → got.commits ≡ Some commits
    → x ≡ (w.0, (1, put) ∷ rest w.1) → KeepsDurable x.0.first x.0.taken x.0.written commits
keeps_taken v w x t put got commits there has is =
    let these : commits ≡ t.commits = ap (some_or commits) (sym has ∙ same_log v w t got there) in
    subst (λ (c : CommitLog FileLog). KeepsDurable x.0.first x.0.taken x.0.written c) (sym these)
    (subst (λ (m : Held). KeepsDurable m.0.first m.0.taken m.0.written t.commits) (sym (log_one v w x t put is)) t.keeps)

-- the bytes that came with it are those that weren't given yet
pub copies_taken : (v w x : Held) (t : TakesLog v w) (put got : JournalPart) → w.1 ≡ (1, got) ∷ rest w.1 → x ≡ (w.0, (1, put) ∷ rest w.1)
    → AreCopies x.0.first x.0.written x.0.copied got.is_followed got.bytes.items
copies_taken v w x t put got there is =
    subst (HasCopies x.0.first x.0.written x.0.copied) (sym (same_part 1 got t.part w.1 (rest w.1) (rest w.1) there (log_there v w t)))
    (subst (λ (m : Held). HasCopies m.0.first m.0.written m.0.copied t.part) (sym (log_one v w x t put is)) t.copies)

-- the log is put back in its place, and given back
pub log_back : (x y z : Held) (put : JournalPart) → y.1 ≡ x.1 → ◌≡◌ {A = Held} z (y.0, (1, put) ∷ rest y.1) → ◌≡◌ {A = Held} z (y.0, (1, put) ∷ rest x.1)
log_back x y z put same is = is ∙ ap (λ (l : List (ℕ × JournalPart)). (y.0, (1, put) ∷ rest l)) same

pub gives_log : (y z : Held) (put : JournalPart) (commits : CommitLog FileLog) → y.0.has_log ≡ true → ◌≡◌ {A = Held} z (y.0, (1, put) ∷ rest y.1) → put.commits ≡ Some commits
    → KeepsDurable y.0.first y.0.taken y.0.taken commits → HasCopies y.0.first y.0.taken y.0.copied put
    → (z.0.has_log ≡ true) × ((part : JournalPart) × (c : CommitLog FileLog) × (z.1 ≡ (1, part) ∷ rest z.1) × (part.commits ≡ Some c) × KeepsDurable z.0.first z.0.taken z.0.taken c
    × HasCopies z.0.first z.0.taken z.0.copied part)
gives_log y z put commits logging is has keeps copies = (
  ap (λ (m : Held). m.0.has_log) is ∙ logging,
  (
    put,
    commits,
    first_held 1 put z.1 (rest y.1) (ap (λ (m : Held). m.1) is),
    has,
    subst (λ (m : Held). KeepsDurable m.0.first m.0.taken m.0.taken commits) (sym is) keeps,
    subst (λ (m : Held). HasCopies m.0.first m.0.taken m.0.copied put) (sym is) copies,
  ),
)

pub gives_log_up : (y z : Held) (put : JournalPart) (commits : CommitLog FileLog) → y.0.has_log ≡ true → ◌≡◌ {A = Held} z (y.0, (1, put) ∷ rest y.1) → put.commits ≡ Some commits
    → KeepsDurable y.0.first y.0.taken y.0.written commits → HasCopies y.0.first y.0.written y.0.copied put
    → (z.0.has_log ≡ true) × ((part : JournalPart) × (c : CommitLog FileLog) × (z.1 ≡ (1, part) ∷ rest z.1) × (part.commits ≡ Some c) × KeepsDurable z.0.first z.0.taken z.0.written c
    × HasCopies z.0.first z.0.written z.0.copied part)
gives_log_up y z put commits logging is has keeps copies = (
  ap (λ (m : Held). m.0.has_log) is ∙ logging,
  (
    put,
    commits,
    first_held 1 put z.1 (rest y.1) (ap (λ (m : Held). m.1) is),
    has,
    subst (λ (m : Held). KeepsDurable m.0.first m.0.taken m.0.written commits) (sym is) keeps,
    subst (λ (m : Held). HasCopies m.0.first m.0.written m.0.copied put) (sym is) copies,
  ),
)

-- all that it saw was durable
pub commits_seen : (u v w : Held) (n : ℕ) → u.0.has_waiting ≡ false → u.0.has_log ≡ false → SeesEach u n v → ◌≡◌ {A = Held} w (record v.0 { durable = v.0.seen }, v.1) → CommitsAll u w
commits_seen u v w n free away sees is =
    let seen_durable : Held → Held = λ m. (record m.0 { durable = m.0.seen }, m.1) in
    record {
      count = n;
      all = sees.all;
      taken = u.0.taken;
      waits = u.0.waits;
      written = u.0.written;
      copied = u.0.copied;
      seen = sees.seen;
      durable = sees.durable;
      is = is ∙ (ap seen_durable sees.is
          ∙ λ i. (record u.0 { has_waiting = free i; has_log = away i; count = n; seen = sees.all; durable = sees.all }, u.1));
    }

pub commits_all : (u v w x y z a : Held) (n : ℕ) (sees : SeesEach u n v) (t : TakesLog v w) (spare put : JournalPart) → x ≡ (w.0, (1, spare) ∷ rest w.1) → (all : WritesAll x y) → ◌≡◌ {A = Held} z (y.0, (1, put) ∷ rest y.1)
    → ◌≡◌ {A = Held} a (record z.0 { has_log = false; durable = z.0.taken }, rest z.1) → CommitsAll u a
commits_all u v w x y z a n sees t spare put is all back given =
    let here : ◌≡◌ {A = Held} x (log_view v.0 t.taken t.written t.copied, (1, spare) ∷ v.1) = log_one v w x t spare is in
    let settled : Held → Held = λ m. (record m.0 { has_log = false; durable = m.0.taken }, rest m.1) in
    let replaced : Held → Held = λ m. (m.0, (1, put) ∷ rest m.1) in
    let written : Held → Held = λ m. (with_each_taken (record m.0 { has_waiting = true; count = length (m.0.taken ++ all.waits); waits = all.waits }), m.1) in
    let before : t.written ≡ t.taken = subst (λ (m : Held). m.0.written ≡ m.0.taken) here all.before in
    let later : IsPrefix v.0.seen (t.taken ++ all.waits) = subst (λ (m : Held). IsPrefix m.0.seen (m.0.taken ++ all.waits)) here all.seen in
    let all_seen : IsPrefix sees.all (t.taken ++ all.waits) = subst (λ (m : Held). IsPrefix m.0.seen (t.taken ++ all.waits)) sees.is later in
    record {
      count = length (t.taken ++ all.waits);
      all = t.taken ++ all.waits;
      taken = t.taken ++ all.waits;
      waits = all.waits;
      written = t.written;
      copied = t.copied;
      seen = prefix_through u.0.seen sees.all (t.taken ++ all.waits) sees.seen all_seen;
      durable = prefix_through u.0.durable sees.all (t.taken ++ all.waits) sees.durable all_seen;
      is = given ∙ (ap settled (back ∙ ap replaced (all.is ∙ ap written here))
          ∙ ap (λ (m : Held). (record m.0 { has_waiting = false; has_log = false; count = length (t.taken ++ all.waits); seen = t.taken ++ all.waits; durable = t.taken ++ all.waits; taken = t.taken ++ all.waits; waits = all.waits; written = t.written; copied = t.copied }, m.1)) sees.is);
    }

pub commits_none : (u v w x y z a : Held) (n : ℕ) (sees : SeesEach u n v) (t : TakesLog v w) (spare put : JournalPart) → x ≡ (w.0, (1, spare) ∷ rest w.1) → (old : WritesNone x y) → ◌≡◌ {A = Held} z (y.0, (1, put) ∷ rest y.1)
    → ◌≡◌ {A = Held} a (record z.0 { has_log = false }, rest z.1) → CommitsNone u a
commits_none u v w x y z a n sees t spare put is old back given =
    let here : ◌≡◌ {A = Held} x (log_view v.0 t.taken t.written t.copied, (1, spare) ∷ v.1) = log_one v w x t spare is in
    let settled : Held → Held = λ m. (record m.0 { has_log = false }, rest m.1) in
    let replaced : Held → Held = λ m. (m.0, (1, put) ∷ rest m.1) in
    let written : Held → Held = λ m. (record m.0 { has_waiting = false; count = old.count; seen = old.seen; taken = old.taken; waits = old.waits }, m.1) in
    let later : IsPrefix v.0.seen old.seen = subst (λ (m : Held). IsPrefix m.0.seen old.seen) here old.later in
    record {
      count = old.count;
      seen = old.seen;
      taken = old.taken;
      waits = old.waits;
      written = t.written;
      copied = t.copied;
      later = prefix_through u.0.seen sees.all old.seen sees.seen (subst (λ (m : Held). IsPrefix m.0.seen old.seen) sees.is later);
      is = given ∙ (ap settled (back ∙ ap replaced (old.is ∙ ap written here))
          ∙ ap (λ (m : Held). (record m.0 { has_waiting = false; has_log = false; count = old.count; seen = old.seen; taken = old.taken; waits = old.waits; written = t.written; copied = t.copied }, m.1)) sees.is);
    }

-- what the seat saw before it takes the log
pub seen_count : (u v : Held) (n : ℕ) → SeesEach u n v → n ≡ v.0.count
seen_count u v n sees = sym (ap (λ (m : Held). m.0.count) sees.is)

pub seen_most : (u v : Held) (n : ℕ) → SeesEach u n v → length v.0.seen ≤ v.0.count
seen_most u v n sees = subst (λ (m : Held). length m.0.seen ≤ m.0.count) (sym sees.is) sees.most

pub seen_free : (u v w x : Held) (n : ℕ) (sees : SeesEach u n v) (t : TakesLog v w) (put : JournalPart) → u.0.has_waiting ≡ false → x ≡ (w.0, (1, put) ∷ rest w.1)
    → (x.0.has_log ≡ true) × (x.0.has_waiting ≡ false)
seen_free u v w x n sees t put free is =
    let here : ◌≡◌ {A = Held} x (log_view v.0 t.taken t.written t.copied, (1, put) ∷ v.1) = log_one v w x t put is in (
      ap (λ (m : Held). m.0.has_log) here,
      ap (λ (m : Held). m.0.has_waiting) here ∙ (ap (λ (m : Held). m.0.has_waiting) sees.is ∙ free),
    )
