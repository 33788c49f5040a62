-- Bytes that stand for those of a whole journal.
use Rattle.std.proofs.Common.{◌≡◌, ℕ, List, [], ◌∷◌, ◌++◌, length, drop, refl, sym, ap, subst, ◌∙◌, append_assoc, inl, inr}
use Rattle.std.proofs.lemmas.List.{drop_at}
use Rattle.journal.specs.Records.{journal_of, AllFitRecords, DecodesTo}
use Rattle.journal.proofs.JoinedRecords.{fits_both, journal_both}
use Rattle.recovery.specs.Histories.{IsAfter}
use Rattle.compaction.specs.Snapshots.{IsAlikeAfter, IsInPlace, StandsForBytes, StandsForHistory}
use Rattle.compaction.proofs.SnapshotLemmas.{StepsCarryOver, stands_for}

-- what `one_reading` of `journal` says
abbrev pub OneReading : Type 0
OneReading = (bytes : List ℕ) (ps qs : List (List ℕ)) (x y : List ℕ) → DecodesTo bytes ps x → DecodesTo bytes qs y → (ps ≡ qs) × (x ≡ y)

-- what `whole_first` of `journal` says
abbrev pub WholeFirst : Type 0
WholeFirst = (payloads qs : List (List ℕ)) (rest tail : List ℕ) → AllFitRecords payloads → DecodesTo (journal_of payloads ++ rest) qs tail
    → (more : List (List ℕ)) × (qs ≡ payloads ++ more)

-- ---- records one behind the other

journal_then : (first more : List (List ℕ)) (tail : List ℕ) → journal_of (first ++ more) ++ tail ≡ journal_of first ++ (journal_of more ++ tail)
journal_then first more tail = ap (λ (b : List ℕ). b ++ tail) (journal_both first more) ∙ append_assoc (journal_of first) (journal_of more) tail

fit_behind : (first more : List (List ℕ)) → AllFitRecords (first ++ more) → AllFitRecords more
fit_behind [] more all = all
fit_behind (p ∷ first) more all = fit_behind first more all.1

-- the same bytes ahead of both
same_behind : (front xs ys : List ℕ) → front ++ xs ≡ front ++ ys → xs ≡ ys
same_behind front xs ys is =
    sym (drop_at front xs (length front) refl) ∙ (ap (drop (length front)) is ∙ drop_at front ys (length front) refl)

-- ---- the first records are others

-- other records ahead of those that stand behind the first
read_on : WholeFirst → (bytes whole more tail : List ℕ) (first others history : List (List ℕ)) → AllFitRecords first → AllFitRecords others
    → bytes ≡ journal_of others ++ more → whole ≡ journal_of first ++ more → DecodesTo whole history tail
    → (behind : List (List ℕ)) × (history ≡ first ++ behind) × DecodesTo bytes (others ++ behind) tail
read_on law bytes whole more tail first others history fit fits are were read =
    let cut = law first history more tail fit (subst (λ (b : List ℕ). DecodesTo b history tail) were read) in
    let behind = cut.0 in
    let same : more ≡ journal_of behind ++ tail = same_behind (journal_of first) more (journal_of behind ++ tail)
    (sym were ∙ (read.whole ∙ (ap (λ (ps : List (List ℕ)). journal_of ps ++ tail) cut.1 ∙ journal_then first behind tail))) in (
      behind,
      cut.1,
      record {
        whole = are ∙ (ap (λ (b : List ℕ). journal_of others ++ b) same ∙ sym (journal_then others behind tail));
        each = fits_both others behind fits (fit_behind first behind (subst AllFitRecords cut.1 read.each));
        torn = read.torn;
      },
    )

module _ {M : Type 0} (starts : M → Type 0) (steps : M → List ℕ → M → Type 0) (alike : M → M → Type 0) (itself : (s : M) → alike s s)
    (carries : StepsCarryOver steps alike) (first_law : WholeFirst) where
  abbrev StandsAsRead : (bytes tail : List ℕ) (history : List (List ℕ)) → Type 0
  StandsAsRead bytes tail history = (payloads : List (List ℕ)) × DecodesTo bytes payloads tail × StandsForHistory starts steps alike payloads history

  -- nothing is in place of anything
  as_before : (bytes whole tail : List ℕ) (history : List (List ℕ)) → bytes ≡ whole → DecodesTo whole history tail → StandsAsRead bytes tail history
  as_before bytes whole tail history same read =
      (history, subst (λ (b : List ℕ). DecodesTo b history tail) (sym same) read, λ other goes. (other, goes, itself other))

  -- a snapshot is in place of the first records
  as_replaced : (bytes whole base replaced more tail : List ℕ) (history : List (List ℕ)) → bytes ≡ base ++ more → whole ≡ replaced ++ more → IsInPlace starts steps alike base replaced
      → DecodesTo whole history tail → StandsAsRead bytes tail history
  as_replaced bytes whole base replaced more tail history are were place read =
      let snapshot = place.snapshot in
      let on = read_on first_law bytes whole more tail place.history snapshot.payloads history place.fits snapshot.fits
      (are ∙ ap (λ (b : List ℕ). b ++ more) snapshot.are) (were ∙ ap (λ (b : List ℕ). b ++ more) place.were) read in
      let stands = stands_for starts steps alike carries place.history snapshot.payloads on.0 place.machine place.after snapshot.restores in
      (snapshot.payloads ++ on.0, on.2, subst (StandsForHistory starts steps alike (snapshot.payloads ++ on.0)) (sym on.1) stands)

  pub stands_as_read : (bytes whole tail : List ℕ) (history : List (List ℕ)) → StandsForBytes starts steps alike bytes whole → DecodesTo whole history tail
      → StandsAsRead bytes tail history
  stands_as_read bytes whole tail history s read =
      elim s.in_place [
        | inl same ↦ as_before bytes whole tail history (s.are ∙ (ap (λ (b : List ℕ). b ++ s.more) same ∙ sym s.were)) read
        | inr place ↦ as_replaced bytes whole s.base s.replaced s.more tail history s.are s.were place read
      ]

  pub standing_is_read : (bytes whole tail : List ℕ) (history : List (List ℕ)) → StandsForBytes starts steps alike bytes whole → DecodesTo whole history tail
      → (payloads : List (List ℕ)) × DecodesTo bytes payloads tail
  standing_is_read bytes whole tail history s read =
      let r = stands_as_read bytes whole tail history s read in
      (r.0, r.1)

  pub standing_keeps : OneReading → (bytes whole tail left : List ℕ) (history payloads : List (List ℕ)) (recovered : M) → StandsForBytes starts steps alike bytes whole
      → DecodesTo whole history tail → DecodesTo bytes payloads left → IsAfter starts steps payloads recovered
      → (left ≡ tail) × IsAlikeAfter starts steps alike history recovered
  standing_keeps one bytes whole tail left history payloads recovered s read there after =
      let r = stands_as_read bytes whole tail history s read in
      let same = one bytes payloads r.0 left tail there r.1 in
      (same.1, r.2 recovered (subst (λ (ps : List (List ℕ)). IsAfter starts steps ps recovered) same.0 after))
