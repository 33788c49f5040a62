-- Bytes that stand for a journal's do so with the same bytes behind both.
use Rattle.std.proofs.Common.{◌≡◌, inl, inr, ℕ, List, [], ◌++◌, refl, sym, ap, ◌∙◌, append_assoc}
use Rattle.shared_journal.specs.Standing.{StandForJournal, AreSnapshotFor}
use Rattle.shared_journal.proofs.JournalLists.{nothing_behind}

pub stands_as_it_is : (bytes : List ℕ) → StandForJournal bytes bytes
stands_as_it_is bytes = record { base = bytes; replaced = bytes; more = []; are = sym (nothing_behind bytes); were = sym (nothing_behind bytes); in_place = inl refl }

-- a snapshot stands for the records that lead to its desk
pub snapshot_stands : (bytes records : List ℕ) → AreSnapshotFor bytes records → StandForJournal bytes records
snapshot_stands bytes records is = record { base = bytes; replaced = records; more = []; are = sym (nothing_behind bytes); were = sym (nothing_behind records); in_place = inr is }

pub stands_with_more : (bytes whole more : List ℕ) → StandForJournal bytes whole → StandForJournal (bytes ++ more) (whole ++ more)
stands_with_more bytes whole more stands =
    record {
      base = stands.base;
      replaced = stands.replaced;
      more = stands.more ++ more;
      are = ap (λ (l : List ℕ). l ++ more) stands.are ∙ append_assoc stands.base stands.more more;
      were = ap (λ (l : List ℕ). l ++ more) stands.were ∙ append_assoc stands.replaced stands.more more;
      in_place = stands.in_place;
    }

-- the same where both have become these
pub stands_with_taken : (bytes whole later taken new : List ℕ) → StandForJournal bytes whole → later ≡ bytes ++ taken → new ≡ whole ++ taken → StandForJournal later new
stands_with_taken bytes whole later taken new stands is was =
    let on = stands_with_more bytes whole taken stands in
    record { base = on.base; replaced = on.replaced; more = on.more; are = is ∙ on.are; were = was ∙ on.were; in_place = on.in_place }
