-- The parts of a text at its delimiters.
use Rattle.std.proofs.Common.{◌≡◌, suc, ◌≤◌, ◌<◌, ◌+◌, ◌-◌, ◌∙◌, drop, ℕ, Bool, cond, true, false, List, [], ◌∷◌, length, take, refl, sym, ap, arith}
use Rattle.std.specs.List.{onto_first, slice_split}
use Rattle.std.proofs.lemmas.List.{length-drop}
use Rattle.bpfjobs_cli.specs.TenantLines.{before_delimiter, from_delimiter, is_delimiter}
use Rattle.bpfjobs_cli.specs.declared.tenant_text.Delimiter.{Delimiter}

pub within : (delimiter : Delimiter) (text : List ℕ) → length (from_delimiter delimiter text) ≤ length text
within delimiter [] = omega arith
within delimiter (c ∷ cs) = go (is_delimiter delimiter c) (within delimiter cs)
  where
    go : (b : Bool) → length (from_delimiter delimiter cs) ≤ length cs → length (cond b (c ∷ cs) (from_delimiter delimiter cs)) ≤ length (c ∷ cs)
    go true e = omega arith
    go false e = omega (arith, e)

-- the part before the delimiter is as many bytes as the rest leaves
pub front_is : (delimiter : Delimiter) (text : List ℕ) → before_delimiter delimiter text ≡ take (length text - length (from_delimiter delimiter text)) text
front_is delimiter [] = refl
front_is delimiter (c ∷ cs) = go (is_delimiter delimiter c) (front_is delimiter cs)
  where
    go : (b : Bool) → before_delimiter delimiter cs ≡ take (length cs - length (from_delimiter delimiter cs)) cs
        → cond b [] (c ∷ before_delimiter delimiter cs) ≡ take (length (c ∷ cs) - length (cond b (c ∷ cs) (from_delimiter delimiter cs))) (c ∷ cs)
    go true e =
        let none : length (c ∷ cs) - length (c ∷ cs) ≡ 0 = omega arith in
        sym (ap (λ n. take n (c ∷ cs)) none)
    go false e =
        let one : length (c ∷ cs) - length (from_delimiter delimiter cs) ≡ suc (length cs - length (from_delimiter delimiter cs)) = omega (arith, within delimiter cs) in
        ap (λ (l : List ℕ). c ∷ l) e ∙ sym (ap (λ n. take n (c ∷ cs)) one)

-- ---- parts

-- the parts behind the end of one
abbrev pub behind : Delimiter → List ℕ → List (List ℕ)
behind delimiter [] = []
behind delimiter (c ∷ cs) = slice_split (is_delimiter delimiter) cs

pub parts_at : (delimiter : Delimiter) (text : List ℕ)
    → slice_split (is_delimiter delimiter) text ≡ before_delimiter delimiter text ∷ behind delimiter (from_delimiter delimiter text)
parts_at delimiter [] = refl
parts_at delimiter (c ∷ cs) = go (is_delimiter delimiter c) (parts_at delimiter cs)
  where
    go : (b : Bool) → slice_split (is_delimiter delimiter) cs ≡ before_delimiter delimiter cs ∷ behind delimiter (from_delimiter delimiter cs)
        → cond b ([] ∷ slice_split (is_delimiter delimiter) cs) (onto_first c (slice_split (is_delimiter delimiter) cs))
        ≡ cond b [] (c ∷ before_delimiter delimiter cs) ∷ behind delimiter (cond b (c ∷ cs) (from_delimiter delimiter cs))
    go true e = refl
    go false e = ap (onto_first c) e

-- what is behind a part is shorter
pub shorter : (delimiter : Delimiter) (rest tail next : List ℕ) → tail ≡ from_delimiter delimiter rest → 0 < length tail → next ≡ drop 1 tail → length next + 1 ≤ length rest
shorter delimiter rest tail next tail_is some is =
    omega (arith, within delimiter rest, ap length tail_is, some, ap length is, length-drop 1 tail)

pub none_behind : (delimiter : Delimiter) (tail : List ℕ) → length tail ≡ 0 → behind delimiter tail ≡ []
none_behind delimiter [] e = refl
none_behind delimiter (c ∷ cs) e = absurd (omega (arith, e))

pub some_behind : (delimiter : Delimiter) (tail : List ℕ) → 0 < length tail → behind delimiter tail ≡ slice_split (is_delimiter delimiter) (drop 1 tail)
some_behind delimiter [] lt = absurd (omega (arith, lt))
some_behind delimiter (c ∷ cs) lt = refl
