-- What is left of a payload whose reply isn't given.
use Rattle.std.specs.Prelude.{◌≡◌, ◌⊎◌, List, ℕ}

-- nothing has changed; or what the payload asks was carried out, and its reply is lost
abbrev pub IsUnanswered : {S : Type 0} → (S → List ℕ → List ℕ → S → Type 0) → S → List ℕ → S
    → Type 0
IsUnanswered answers s payload t = (t ≡ s) ⊎ ((reply : List ℕ) × answers s payload reply t)
