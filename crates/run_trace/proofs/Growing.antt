-- A list with one element more, each told by a function.
use Rattle.std.proofs.Common.{◌≡◌, ◌∙◌, List, [], ◌∷◌, ◌++◌, ap, map}
use Rattle.std.proofs.lemmas.List.{map-append}

pub mapped_more : {X Y : Type 0} (f : X → Y) (old kept new : List X) (x : X) → kept ≡ old → new ≡ kept ++ x ∷ [] →
    map f new ≡ map f old ++ f x ∷ []
mapped_more {X = X} f old kept new x same more =
    ap (map f) (more ∙ ap (λ (xs : List X). xs ++ x ∷ []) same) ∙ map-append f old (x ∷ [])
