-- Records behind others.
use Rattle.std.proofs.Common.{◌≡◌, ℕ, List, [], ◌∷◌, ◌++◌, refl, sym, ap, ◌∙◌, append_assoc}
use Rattle.journal.specs.Records.{record_of, journal_of, AllFitRecords}

pub journal_both : (first more : List (List ℕ)) → journal_of (first ++ more) ≡ journal_of first ++ journal_of more
journal_both [] more = refl
journal_both (payload ∷ first) more =
    ap (λ (l : List ℕ). record_of payload ++ l) (journal_both first more) ∙ sym (append_assoc (record_of payload) (journal_of first) (journal_of more))

pub fits_both : (first more : List (List ℕ)) → AllFitRecords first → AllFitRecords more → AllFitRecords (first ++ more)
fits_both [] more one two = two
fits_both (payload ∷ first) more one two = (one.0, fits_both first more one.1 two)
