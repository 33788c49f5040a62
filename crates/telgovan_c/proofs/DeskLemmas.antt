-- What is handed over, and whether there was a connection.
use Rattle.std.proofs.Common.{◌≡◌, ℕ, ◌<◌, ◌≤◌, ◌+◌, List, [], ◌∷◌, ◌++◌, length, drop, slice_get, Option, Some, None, IfSome, IfNone, is_some, Vec, Global, false, refl, sym, ap, ◌∙◌, arith, length-append}
use Rattle.telgovan_c.specs.Explains.{FillsRoom, fits, too_long}
use Rattle.telgovan_c.specs.declared.desks.HandedJob.{HandedJob}

abbrev pub told : ℕ → List ℕ → HandedJob
told job text = record { job = job; length = length text }

-- bytes that don't fit the room leave it
pub placed_short : (bytes old new : List ℕ) → FillsRoom bytes old new → length new < length bytes → (length old < length bytes) × (new ≡ old)
placed_short bytes old new (fits within is) less =
    let long : length new ≡ length bytes + length (drop (length bytes) old) = ap length is ∙ length-append bytes (drop (length bytes) old) in
    absurd (omega (arith, long, less))
placed_short bytes old new (too_long more same) less = (more, same)

-- and bytes that fit stand at its beginning
pub placed_whole : (bytes old new : List ℕ) → FillsRoom bytes old new → length bytes ≤ length new → (length bytes ≤ length old) × (new ≡ bytes ++ drop (length bytes) old)
placed_whole bytes old new (fits within is) enough = (within, is)
placed_whole bytes old new (too_long more same) enough =
    let as_long : length new ≡ length old = ap length same in
    absurd (omega (arith, as_long, more, enough))

-- what is fetched is the first that waits
pub fetched_first : (r : Option (ℕ × Vec ℕ Global)) (old new : List (ℕ × Vec ℕ Global)) (number : ℕ) (object : Vec ℕ Global) → slice_get old 0 ≡ Some (number, object) →
    IfSome r (λ job. old ≡ job ∷ new) → IfNone r ((old ≡ []) × (new ≡ [])) → old ≡ (number, object) ∷ new
fetched_first (Some job) old new number object first some none =
    let at : Some job ≡ Some (number, object) = sym (ap (λ (l : List (ℕ × Vec ℕ Global)). slice_get l 0) some) ∙ first in
    let same : job ≡ (number, object) = cc in
    some ∙ ap (λ (j : ℕ × Vec ℕ Global). j ∷ new) same
fetched_first None old new number object first some none =
    let at : None ≡ Some (number, object) = sym (ap (λ (l : List (ℕ × Vec ℕ Global)). slice_get l 0) none.0) ∙ first in
    absurd cc

pub none_of : {X : Type 0} (o : Option X) → false ≡ is_some o → o ≡ None
none_of (Some x) is = absurd cc
none_of None is = refl

-- what is told of an object
pub told_as : (job : ℕ) (text other : List ℕ) → text ≡ other → told job text ≡ told job other
told_as job text other is = ap (told job) is
