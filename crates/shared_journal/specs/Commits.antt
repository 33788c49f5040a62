-- Commits of several journals.
use Rattle.std.specs.Prelude.{◌⊎◌, List, [], ◌∷◌}

-- all that each of these journals had taken was made durable
abbrev pub AreCommitted : {J : Type 0} → (J → Type 0) → List J → Type 0
AreCommitted committed [] = Unit {0}
AreCommitted committed (journal ∷ journals) = committed journal × AreCommitted committed journals

-- one of these journals told that it has failed
abbrev pub HasFailedOne : {J : Type 0} → (J → Type 0) → List J → Type 0
HasFailedOne failed [] = ⊥
HasFailedOne failed (journal ∷ journals) = failed journal ⊎ HasFailedOne failed journals
