-- Connections that are served at once at one desk, from its first request on.
use Rattle.std.specs.Prelude.{◌≡◌, ℕ, ◌+◌, ◌<◌, ◌≤◌, List, [], ◌∷◌, length, slice_index_or, Bool, false, Result, IfOk, Vec}
use Rattle.std.specs.declared.alloc.Global.{Global}
use Rattle.refusal.specs.declared.NoMemory.{NoMemory}
use Rattle.shared_desk.specs.declared.serving.ServedEnds.{ServedEnds}
use Rattle.shared_desk.specs.Histories.{HistoryEntry, Query, Replays, part_of}
use Rattle.shared_desk.specs.ClientViews.{ClientView}
use Rattle.shared_desk.specs.Grants.{by_port}
use Rattle.shared_desk.specs.Parts.{IsServedPart}

-- none of these ends has failed
abbrev pub NoneHasFailed : {R W : Type 0} → (R → Bool) → (W → Bool) → List (R × W) → Type 0
NoneHasFailed read_failed write_failed [] = Unit {0}
NoneHasFailed read_failed write_failed (e ∷ es) =
    (read_failed e.0 ≡ false) × (write_failed e.1 ≡ false)
    × NoneHasFailed read_failed write_failed es

-- connections with these ends, numbered from here on, which have no part yet
abbrev pub AreOpened : {E : Type 0} → ℕ → List E → List (E × ClientView) → Type 0
AreOpened n [] [] = Unit {0}
AreOpened n [] (c ∷ cs) = ⊥
AreOpened n (e ∷ es) [] = ⊥
AreOpened n (e ∷ es) (c ∷ cs) =
    (c.0 ≡ e) × (c.1.number ≡ n) × (c.1.part ≡ []) × AreOpened (n + 1) es cs

module _ {R W : Type 0} (read : R → List ℕ) (over read_failed : R → Bool) (written : W → List ℕ)
    (write_failed : W → Bool) where
  -- each connection, by its number, is served by its part of the history
  abbrev pub AreServedParts : List HistoryEntry → List (R × W) → List (ServedEnds R W) → Type 0
  AreServedParts history ends served =
      (length served ≡ length ends) × ((i : ℕ) (d : R × W) (e : ServedEnds R W) → i < length ends
      → IsServedPart by_port read over read_failed written write_failed (slice_index_or ends i d)
      (part_of i history) ((slice_index_or served i e).reader, (slice_index_or served i e).writer)
      (slice_index_or served i e).outcome)

  -- One legal history leads to the end. It is the parts of these connections and nothing else, and
  -- each part is served between the ends of its connection.
  pub record AreServedTogether {S : Type 0} (answers : S → Query → List ℕ → S → Type 0)
      (begins : S → Type 0) (ends : List (R × W)) (end : S)
      (result : Result (Vec (ServedEnds R W) Global) NoMemory) : Type 0 where
    pub history : List HistoryEntry
    pub legal : Replays answers begins history end
    pub others : (n : ℕ) → length ends ≤ n → part_of n history ≡ []
    pub parts : IfOk result (λ served. AreServedParts history ends served.items)
