-- Lines by their place.
use Rattle.std.proofs.Common.{◌≡◌, ℕ, List, map, Option, Some, None, option_map, slice_get, ap, refl, sym, ◌∙◌}
use Rattle.std.proofs.lemmas.Option.{slice_get-map}
use Rattle.explain.specs.declared.lines.SourceLine.{SourceLine}
use Rattle.explain.specs.Lines.{numbered_text}

pub line_there : (lines : List SourceLine) (source : List (ℕ × List ℕ)) (k : ℕ) (o : Option SourceLine) → map numbered_text lines ≡ source → o ≡ slice_get lines k → option_map numbered_text o ≡ slice_get source k
line_there lines source k o same e = ap (option_map numbered_text) e ∙ (sym (slice_get-map numbered_text lines k) ∙ ap (λ (l : List (ℕ × List ℕ)). slice_get l k) same)

number_of : (o : Option SourceLine) → option_map (λ line. line.number) o ≡ option_map (λ line. line.0) (option_map numbered_text o)
number_of None = refl
number_of (Some line) = refl

pub number_there : (lines : List SourceLine) (k : ℕ) (o : Option SourceLine) → o ≡ slice_get lines k →
    option_map (λ line. line.number) o ≡ option_map (λ line. line.0) (slice_get (map numbered_text lines) k)
number_there lines k o e = number_of o ∙ ap (option_map (λ line. line.0)) (line_there lines (map numbered_text lines) k o refl e)
