-- The moments from which a log's bytes are the journal.
use Rattle.std.proofs.Common.{◌≡◌, ℕ, List, [], ◌++◌, false, ap, subst, ◌∙◌, inl, inr}
use Rattle.std.specs.Prelude.{◌⊎◌}
use Rattle.compaction.specs.Files.{Old, Moments, SomeLeaves, KeepsOldJournal}

abbrev pub stands_at : List ℕ → List ℕ → Moments
stands_at journal beside = record {
  now = record { journal = journal; beside = beside; is_synced = false; named = Old };
  earlier = [];
}

module _ (journal beside : List ℕ) (at : Moments) (is : at ≡ stands_at journal beside) where
  pub keeps_stood : KeepsOldJournal journal at
  keeps_stood =
      record {
        named = ap (λ (m : Moments). m.now.named) is;
        journal = ap (λ (m : Moments). m.now.journal) is;
      }

  pub ahead_stood : (l : List ℕ) → SomeLeaves at.earlier l → l ≡ journal
  ahead_stood l some =
      let none : ⊥ = subst (λ (m : Moments). SomeLeaves m.earlier l) is some in
      absurd none

  pub either_stood : (rest left : List ℕ) → (left ≡ journal) ⊎ (left ≡ at.now.beside ++ rest) → (left ≡ journal) ⊎ (left ≡ beside ++ rest)
  either_stood rest left either =
      elim either [
        | inl old ↦ inl old
        | inr new ↦ inr (new ∙ ap (λ (m : Moments). m.now.beside ++ rest) is)
      ]
