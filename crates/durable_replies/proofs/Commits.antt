-- Commits of the notes of several journals, one after the other.
use Rattle.std.proofs.Common.{◌≡◌, ◌≢◌, ◌⊎◌, inl, inr, ℕ, zero, suc, ◌+◌, ◌<◌, ◌≤◌, List, [], ◌∷◌, ◌++◌, Some, length, slice_get, slice_set, refl, sym, ap, ◌∙◌, subst, append-nil, arith}
use Rattle.std.proofs.lemmas.Option.{slice_get_within}
use mathlib.Core.List.{IsPrefix}
use Rattle.shared_desk.specs.ClientViews.{ClientView, Extends}
use Rattle.shared_desk.specs.Histories.{HistoryEntry, Query, part_of}
use Rattle.shared_desk.specs.Notes.{IsNotedAt}
use Rattle.shared_journal.proofs.JournalLists.{prefix_through}
use Rattle.shared_journal.specs.JournalHistories.{NoteKnowledge}
use Rattle.durable_replies.specs.Durable.{EachNote, IsDurableAt}

-- ---- places of a list

get_set_same : {X : Type 0} (xs : List X) (i : ℕ) (x : X) → i < length xs → slice_get (slice_set xs i x) i ≡ Some x
get_set_same [] i x less = absurd (omega (arith, less))
get_set_same (z ∷ zs) zero x less = refl
get_set_same (z ∷ zs) (suc i) x less = get_set_same zs i x (omega (arith, less))

get_set_other : {X : Type 0} (xs : List X) (i : ℕ) (x : X) (j : ℕ) → j ≢ i → slice_get (slice_set xs i x) j ≡ slice_get xs j
get_set_other [] i x j differs = refl
get_set_other (z ∷ zs) zero x zero differs = absurd (differs refl)
get_set_other (z ∷ zs) zero x (suc j) differs = refl
get_set_other (z ∷ zs) (suc i) x zero differs = refl
get_set_other (z ∷ zs) (suc i) x (suc j) differs = get_set_other zs i x j (λ e. differs (ap suc e))

pub set_back : {X : Type 0} (xs : List X) (i : ℕ) (x : X) → slice_get xs i ≡ Some x → slice_set xs i x ≡ xs
set_back [] i x at = refl
set_back (z ∷ zs) zero x at =
    let same : z ≡ x = cc in ap (λ y. y ∷ zs) (sym same)
set_back (z ∷ zs) (suc i) x at = ap (λ ys. z ∷ ys) (set_back zs i x at)

at_or_before : (i n : ℕ) → i < n + 1 → (i ≡ n) ⊎ (i < n)
at_or_before zero zero less = inl refl
at_or_before zero (suc n) less = inr (omega arith)
at_or_before (suc i) zero less = absurd (omega (arith, less))
at_or_before (suc i) (suc n) less = up (at_or_before i n (omega (arith, less)))
  where
    up : (i ≡ n) ⊎ (i < n) → (suc i ≡ suc n) ⊎ (suc i < suc n)
    up (inl same) = inl (ap suc same)
    up (inr before) = inr (omega (arith, before))

before_or_not : (i n : ℕ) → (i < n) ⊎ (n ≤ i)
before_or_not i zero = inr (omega arith)
before_or_not zero (suc n) = inl (omega arith)
before_or_not (suc i) (suc n) = up (before_or_not i n)
  where
    up : (i < n) ⊎ (n ≤ i) → (suc i < suc n) ⊎ (suc n ≤ suc i)
    up (inl before) = inl (omega (arith, before))
    up (inr behind) = inr (omega (arith, behind))

-- the notes from this place on are as they were
abbrev pub AreSameFrom : {X : Type 0} → ℕ → List X → List X → Type 0
AreSameFrom n notes before = (i : ℕ) → n ≤ i → slice_get notes i ≡ slice_get before i

pub same_from_one : {X : Type 0} (n : ℕ) (notes before : List X) (note : X) → AreSameFrom n notes before → AreSameFrom (n + 1) (slice_set notes n note) before
same_from_one n notes before note same i behind =
    let differs : i ≢ n = λ is. absurd (omega (arith, is, behind)) in
    get_set_other notes n note i differs ∙ same i (omega (arith, behind))

module _ {K N : Type 0} (P : K → N → Type 0) where
  -- so of the first journals
  abbrev pub EachNoteTo : ℕ → List K → List N → Type 0
  EachNoteTo n journals notes = (i : ℕ) (journal : K) → i < n → slice_get journals i ≡ Some journal → (note : N) × (slice_get notes i ≡ Some note) × P journal note

  pub noted_to_none : (journals : List K) (notes : List N) → EachNoteTo 0 journals notes
  noted_to_none journals notes i journal less at = absurd (omega (arith, less))

  pub noted_to_one : (n : ℕ) (journals : List K) (notes : List N) (journal : K) (note : N) → slice_get journals n ≡ Some journal → n < length notes → EachNoteTo n journals notes
      → P journal note → EachNoteTo (n + 1) journals (slice_set notes n note)
  noted_to_one n journals notes journal note here within before so i other less at = by_place (at_or_before i n less)
    where
      by_place : (i ≡ n) ⊎ (i < n) → (found : N) × (slice_get (slice_set notes n note) i ≡ Some found) × P other found
      by_place (inl same) =
          let one : Some journal ≡ Some other = sym here ∙ ap (slice_get journals) (sym same) ∙ at in
          let is : journal ≡ other = cc in
          (note, ap (slice_get (slice_set notes n note)) same ∙ get_set_same notes n note within, subst (λ (b : K). P b note) is so)
      by_place (inr less_than) =
          let found = before i other less_than at in
          let differs : i ≢ n = λ same. absurd (omega (arith, same, less_than)) in
          (found.0, get_set_other notes n note i differs ∙ found.1, found.2)

  -- of all journals
  pub noted_to_all : (n : ℕ) (journals : List K) (notes : List N) → length journals ≤ n → EachNoteTo n journals notes → EachNote P journals notes
  noted_to_all n journals notes all so i journal at =
      let within = slice_get_within journals i journal at in so i journal (omega (arith, within, all)) at

-- where the first notes are newer, what was so of each still is
pub noted_still : {K N : Type 0} (Now Then : K → N → Type 0) (n : ℕ) (journals : List K) (notes before : List N) → EachNoteTo Now n journals notes → AreSameFrom n notes before
    → ((journal : K) (note : N) → Now journal note → Then journal note) → EachNote Then journals before → EachNote Then journals notes
noted_still Now Then n journals notes before new same back was i journal at = by_place (before_or_not i n)
  where
    by_place : (i < n) ⊎ (n ≤ i) → (found : _) × (slice_get notes i ≡ Some found) × Then journal found
    by_place (inl less) =
        let found = new i journal less at in (found.0, found.1, back journal found.0 found.2)
    by_place (inr behind) =
        let found = was i journal at in (found.0, same i behind ∙ found.1, found.2)

module _ {D H N K : Type 0} (answers : D × H → Query → List ℕ → D × H → Type 0) (begins : D × H → Type 0) (covers : ℕ → N → H → Type 0) (desk : K → ℕ) (known : N → NoteKnowledge) where
  -- behind its commit all that a note says is durable
  pub durable_at : (place asked : ℕ) (taken note : N) (v : ClientView) → asked ≡ place → IsNotedAt answers begins covers asked taken v → (known note).journal ≡ (known taken).journal
      → IsPrefix (known taken).seen (known note).seen → (known note).durable ≡ (known note).seen → IsDurableAt answers begins covers desk known place note v
  durable_at place asked taken note v same noted journal seen durable = record {
    history = noted.history;
    state = noted.state;
    legal = noted.legal;
    seen = noted.seen;
    own = ([], append-nil v.part ∙ sym noted.own);
    taken = taken;
    covered = subst (λ (p : ℕ). covers p taken noted.state.1) same noted.covered;
    journal = journal;
    durable = subst (λ (l : List _). IsPrefix (known taken).seen l) (sym durable) seen;
  }

  -- what is durable now was asked for before
  pub durable_before : (place : ℕ) (note : N) (past v : ClientView) (later : List HistoryEntry) → Extends past later v → IsDurableAt answers begins covers desk known place note v
      → IsDurableAt answers begins covers desk known place note past
  durable_before place note past v later goes_on at = record {
    history = at.history;
    state = at.state;
    legal = at.legal;
    seen = prefix_through past.seen v.seen at.history goes_on.seen at.seen;
    own = subst (λ (n : ℕ). IsPrefix past.part (part_of n at.history)) goes_on.number (prefix_through past.part v.part (part_of v.number at.history) (later, sym goes_on.more) at.own);
    taken = at.taken;
    covered = at.covered;
    journal = at.journal;
    durable = at.durable;
  }
