-- A journal that was opened newly is the old one.
use Rattle.std.proofs.Common.{◌≡◌, ℕ, List, ◌++◌, ap, subst, ◌∙◌, inl, inr}
use Rattle.std.specs.Prelude.{◌⊎◌}
use Rattle.compaction.specs.Files.{Moments, SomeLeaves, newly_opened, KeepsOldJournal}

pub keeps_opened : (journal : List ℕ) (at : Moments) → at ≡ newly_opened journal → KeepsOldJournal journal at
keeps_opened journal at is =
    record {
      named = ap (λ (m : Moments). m.now.named) is;
      journal = ap (λ (m : Moments). m.now.journal) is;
    }

pub ahead_opened : (journal : List ℕ) (at : Moments) → at ≡ newly_opened journal → (l : List ℕ) → SomeLeaves at.earlier l → l ≡ journal
ahead_opened journal at is l some =
    let none : ⊥ = subst (λ (m : Moments). SomeLeaves m.earlier l) is some in
    absurd none

pub behind_opened : (journal bytes : List ℕ) (at : Moments) → at ≡ newly_opened journal → at.now.beside ++ bytes ≡ bytes
behind_opened journal bytes at is = ap (λ (m : Moments). m.now.beside ++ bytes) is

pub either_opened : (journal bytes left : List ℕ) (at : Moments) → at ≡ newly_opened journal → (left ≡ journal) ⊎ (left ≡ at.now.beside ++ bytes) → (left ≡ journal) ⊎ (left ≡ bytes)
either_opened journal bytes left at is either =
    elim either [
      | inl old ↦ inl old
      | inr new ↦ inr (new ∙ behind_opened journal bytes at is)
    ]
