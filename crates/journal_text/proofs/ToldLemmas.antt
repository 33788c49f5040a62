-- The lines of the changes so far, and one more.
use Rattle.std.proofs.Common.{◌≡◌, ◌≤◌, ◌+◌, ◌-◌, ℕ, List, [], ◌∷◌, ◌++◌, length, map, drop, take, refl, sym, ap, subst, ◌∙◌, arith, append_assoc}
use Rattle.std.proofs.lemmas.List.{append-nil, drop_at, length-append, length-drop, map_push}
use Rattle.std.proofs.Math.Seq.{take-append-add, take-append_seam}
use Rattle.journal.specs.Records.{AllFitRecords, FitsRecord, IsTorn, journal_of, record_of}
use Rattle.journal.proofs.RecordLemmas.{length-record, reads_on}
use Rattle.journal.specs.Tails.{IsTail}
use Rattle.journal.specs.declared.inspection.TailKind.{TailKind}
use Rattle.keyed_desk.specs.KeyedChanges.{keyed_bytes}
use Rattle.keyed_desk.specs.declared.keyed_change.KeyedChange.{KeyedChange}
use Rattle.journal_text.specs.ChangeLines.{change_line, lines_from, lines_of, number_behind}
use Rattle.journal_text.specs.JournalEnds.{ArePartlyTold, BeginWithChanges, EndChangesWith, StartWithNoChange}
use Rattle.journal_text.specs.declared.journal_lines.JournalEnd.TheVariants.{Tail, NotAChange}

-- Ahead of the rest stand the records of these changes, with these lines. The lines of more changes go
-- on from there.
pub record AreLines (bytes rest : List ℕ) (number : ℕ) (changes : List KeyedChange) (lines : List ℕ) : Type 0 where
  pub whole : bytes ≡ journal_of (map keyed_bytes changes) ++ rest
  pub each : AllFitRecords (map keyed_bytes changes)
  pub onward : (more : List KeyedChange) → lines_of (changes ++ more) ≡ lines ++ lines_from (length bytes - length rest) number more

-- these lines were written
abbrev pub AreTold : List ℕ → List ℕ → ℕ → List ℕ → List ℕ → Type 0
AreTold bytes rest number before now =
    (changes : List KeyedChange) × (lines : List ℕ) × AreLines bytes rest number changes lines × (now ≡ before ++ lines)

pub none_told : (bytes before : List ℕ) → AreTold bytes bytes 1 before before
none_told bytes before =
    let place : 0 ≡ length bytes - length bytes = omega arith in
    ([], [], record { whole = refl; each = tt; onward = λ more. ap (λ n. lines_from n 1 more) place }, sym (append-nil before))

-- the lines of one change more, behind others
lines_more : (changes : List KeyedChange) (change : KeyedChange) (lines : List ℕ) (at behind number next : ℕ) (more : List KeyedChange)
    → ((ms : List KeyedChange) → lines_of (changes ++ ms) ≡ lines ++ lines_from at number ms) → behind ≡ at + length (record_of (keyed_bytes change)) → next ≡ number_behind number change
    → lines_of ((changes ++ change ∷ []) ++ more) ≡ (lines ++ change_line at number change) ++ lines_from behind next more
lines_more changes change lines at behind number next more onward place is =
    ap lines_of (append_assoc changes (change ∷ []) more)
    ∙ (onward (change ∷ more)
    ∙ (sym (append_assoc lines (change_line at number change) (lines_from (at + length (record_of (keyed_bytes change))) (number_behind number change) more))
    ∙ (ap (λ n. (lines ++ change_line at number change) ++ lines_from n (number_behind number change) more) (sym place)
    ∙ ap (λ n. (lines ++ change_line at number change) ++ lines_from behind n more) (sym is))))

module _ (bytes rest : List ℕ) (number : ℕ) (payload : List ℕ) (change : KeyedChange) (within : length rest ≤ length bytes) (fits : FitsRecord payload)
    (stands : rest ≡ record_of payload ++ drop (8 + length payload) rest) (there : 8 + length payload ≤ length rest) (is : keyed_bytes change ≡ payload) where
  more_lines : (after : List ℕ) (next : ℕ) (changes : List KeyedChange) (lines : List ℕ) → AreLines bytes rest number changes lines → after ≡ drop (8 + length payload) rest → next ≡ number_behind number change
      → AreLines bytes after next (changes ++ change ∷ []) (lines ++ change_line (length bytes - length rest) number change)
  more_lines after next changes lines are behind counts =
      let at = length bytes - length rest in
      let pushed : map keyed_bytes (changes ++ change ∷ []) ≡ map keyed_bytes changes ++ payload ∷ [] =
      map_push keyed_bytes changes change ∙ ap (λ p. map keyed_bytes changes ++ p ∷ []) is in
      let more = reads_on bytes rest after payload (map keyed_bytes changes) (map keyed_bytes (changes ++ change ∷ [])) are.whole are.each fits stands behind pushed in
      let place : length bytes - length after ≡ at + length (record_of (keyed_bytes change)) =
      omega (arith, ap length behind, length-drop (8 + length payload) rest, length-record (keyed_bytes change), ap length is, within, there) in
      record {
        whole = more.0;
        each = more.1;
        onward = λ ms. lines_more changes change lines at (length bytes - length after) number next ms are.onward place counts;
      }

  -- the line of the change is written
  pub told_more : (after : List ℕ) (next : ℕ) (before mid now : List ℕ) → AreTold bytes rest number before mid → after ≡ drop (8 + length payload) rest → next ≡ number_behind number change
      → now ≡ mid ++ change_line (length bytes - length rest) number change → AreTold bytes after next before now
  told_more after next before mid now told behind counts line =
      let text = change_line (length bytes - length rest) number change in (
        told.0 ++ change ∷ [],
        told.1 ++ text,
        more_lines after next told.0 told.1 told.2 behind counts,
        line ∙ (ap (λ l. l ++ text) told.3 ∙ append_assoc before told.1 text),
      )

-- the lines so far are all of these changes'
all_lines : (bytes rest : List ℕ) (number : ℕ) (changes : List KeyedChange) (lines : List ℕ) → AreLines bytes rest number changes lines → lines_of changes ≡ lines
all_lines bytes rest number changes lines are = ap lines_of (sym (append-nil changes)) ∙ (are.onward [] ∙ append-nil lines)

place_of : (bytes rest : List ℕ) (number : ℕ) (changes : List KeyedChange) (lines : List ℕ) → AreLines bytes rest number changes lines → length bytes - length rest ≡ length (journal_of (map keyed_bytes changes))
place_of bytes rest number changes lines are = omega (arith, ap length are.whole, length-append (journal_of (map keyed_bytes changes)) rest)

rest_is : (bytes rest : List ℕ) (number : ℕ) (changes : List KeyedChange) (lines : List ℕ) → AreLines bytes rest number changes lines → drop (length bytes - length rest) bytes ≡ rest
rest_is bytes rest number changes lines are =
    let at = length bytes - length rest in
    ap (drop at) are.whole ∙ drop_at (journal_of (map keyed_bytes changes)) rest at (sym (place_of bytes rest number changes lines are))

begin_so : (bytes rest : List ℕ) (number : ℕ) (changes : List KeyedChange) (lines : List ℕ) → AreLines bytes rest number changes lines → BeginWithChanges bytes changes (length bytes - length rest)
begin_so bytes rest number changes lines are = record {
  whole = are.whole ∙ ap (λ l. journal_of (map keyed_bytes changes) ++ l) (sym (rest_is bytes rest number changes lines are));
  each = are.each;
  place = place_of bytes rest number changes lines are;
}

-- ---- the ends

pub told_to_tail : (bytes rest : List ℕ) (number budget : ℕ) (before now : List ℕ) (kind : TailKind) → AreTold bytes rest number before now → IsTorn rest → IsTail rest budget kind
    → (changes : List KeyedChange) × EndChangesWith bytes budget changes (Tail (length bytes - length rest) kind) × (now ≡ before ++ lines_of changes)
told_to_tail bytes rest number budget before now kind told torn tail =
    let same = sym (rest_is bytes rest number told.0 told.1 told.2) in (
      told.0,
      (begin_so bytes rest number told.0 told.1 told.2, subst IsTorn same torn, subst (λ (l : List ℕ). IsTail l budget kind) same tail),
      told.3 ∙ ap (λ l. before ++ l) (sym (all_lines bytes rest number told.0 told.1 told.2)),
    )

pub told_to_other : (bytes rest : List ℕ) (number budget : ℕ) (before now payload : List ℕ) → AreTold bytes rest number before now → FitsRecord payload
    → rest ≡ record_of payload ++ drop (8 + length payload) rest → ((change : KeyedChange) → keyed_bytes change ≡ payload → ⊥)
    → (changes : List KeyedChange) × EndChangesWith bytes budget changes (NotAChange (length bytes - length rest)) × (now ≡ before ++ lines_of changes)
told_to_other bytes rest number budget before now payload told fits stands none =
    let start : StartWithNoChange rest = record { payload = payload; more = drop (8 + length payload) rest; fits = fits; stands = stands; no_change = none } in (
      told.0,
      (begin_so bytes rest number told.0 told.1 told.2, subst StartWithNoChange (sym (rest_is bytes rest number told.0 told.1 told.2)) start),
      told.3 ∙ ap (λ l. before ++ l) (sym (all_lines bytes rest number told.0 told.1 told.2)),
    )

-- nothing more is written
pub told_so_far : (bytes rest : List ℕ) (number : ℕ) (before now : List ℕ) → AreTold bytes rest number before now → ArePartlyTold bytes before now
told_so_far bytes rest number before now told =
    let lines = told.1 in
    let all = all_lines bytes rest number told.0 lines told.2 in
    let front : lines ≡ take (length lines) (lines_of told.0) = sym (ap (take (length lines)) (all ∙ sym (append-nil lines)) ∙ take-append_seam lines []) in
    (told.0, length bytes - length rest, begin_so bytes rest number told.0 lines told.2, length lines, told.3 ∙ ap (λ l. before ++ l) front)

-- a beginning of one line more is written
pub told_in_part : (bytes rest : List ℕ) (number : ℕ) (payload : List ℕ) (change : KeyedChange) → length rest ≤ length bytes → FitsRecord payload
    → rest ≡ record_of payload ++ drop (8 + length payload) rest → 8 + length payload ≤ length rest → keyed_bytes change ≡ payload
    → (before mid now : List ℕ) (n : ℕ) → AreTold bytes rest number before mid → now ≡ mid ++ take n (change_line (length bytes - length rest) number change) → ArePartlyTold bytes before now
told_in_part bytes rest number payload change within fits stands there is before mid now n told line =
    let text = change_line (length bytes - length rest) number change in
    let lines = told.1 in
    let after = drop (8 + length payload) rest in
    let changes = told.0 ++ change ∷ [] in
    let are : AreLines bytes after (number_behind number change) changes (lines ++ text) =
    more_lines bytes rest number payload change within fits stands there is after (number_behind number change) told.0 lines told.2 refl refl in
    let all = all_lines bytes after (number_behind number change) changes (lines ++ text) are in
    let front : lines ++ take n text ≡ take (length lines + n) (lines_of changes) = sym (ap (take (length lines + n)) all ∙ take-append-add lines text n) in (
      changes,
      length bytes - length after,
      begin_so bytes after (number_behind number change) changes (lines ++ text) are,
      length lines + n,
      line ∙ (ap (λ l. l ++ take n text) told.3 ∙ (append_assoc before lines (take n text) ∙ ap (λ l. before ++ l) front)),
    )
