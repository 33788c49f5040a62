-- Journals of desks that stand at places.
use Rattle.std.specs.Prelude.{◌≡◌, ℕ, List, slice_get, Some}
use Rattle.std.specs.List.{AllZip}
use Rattle.shared_journal.specs.Followers.{FollowerView}
use Rattle.shared_journal.specs.declared.shared_journal.SharedJournal.{SharedJournal}

-- each of these journals is that of the desk at its place
abbrev pub AreAtTheirPlaces : List SharedJournal → Type 0
AreAtTheirPlaces journals =
    (place : ℕ) (journal : SharedJournal) → slice_get journals place ≡ Some journal
    → journal.place ≡ place

-- each of these follows the journal at its place
abbrev pub AreFollowed : List FollowerView → List SharedJournal → Type 0
AreFollowed = AllZip (λ f journal. f.journal ≡ journal.history)
