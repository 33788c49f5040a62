-- A line more.
use Rattle.std.specs.Prelude.{◌≡◌, ℕ, suc, ◌+◌, List, [], ◌∷◌, ◌++◌}
use Rattle.std.proofs.Common.{arith, subst}
use Rattle.telgovan_c.specs.Traces.{AreLines}

pub line_more : (n : ℕ) (front line text : List ℕ) → AreLines n front → text ≡ (front ++ line) ++ 10 ∷ [] → AreLines (n + 1) text
line_more n front line text are is =
    let next : suc n ≡ n + 1 = omega arith in
    subst (λ (m : ℕ). AreLines m text) next (front, line, are, is)
