-- The lines of a source text that say something.
use Rattle.std.proofs.Common.{◌≡◌, ℕ, ◌+◌, Bool, true, false, List, [], ◌∷◌, ◌++◌, length, refl, ap, sym, ◌∙◌, append_assoc}
use Rattle.std.specs.Prelude.{◌==◌, if◌then◌else◌}
use Rattle.std.specs.List.{slice_split}
use Rattle.std.proofs.lemmas.List.{append-nil}
use Rattle.disassembler.specs.Cut.{IsFree, StopsAtOnce}
use Rattle.assembler.specs.Source.{is_line_feed, numbered, stripped}
use Rattle.assembler.proofs.SourceLines.{cut_at, left_of}
use Rattle.explain.specs.Lines.{said}

by_test : (b : Bool) (x : ℕ × List ℕ) (more : List (ℕ × List ℕ)) → if◌then◌else◌ {A = List (ℕ × List ℕ)} b more (x ∷ more) ≡ if◌then◌else◌ {A = List (ℕ × List ℕ)} b [] (x ∷ []) ++ more
by_test true x more = refl
by_test false x more = refl

-- one line more
pub more : (lines done found : List (ℕ × List ℕ)) (n : ℕ) (rest line tail : List ℕ) → rest ≡ line ++ tail → IsFree 10 10 line → StopsAtOnce 10 10 tail → lines ≡ done ++ numbered n (slice_split is_line_feed rest) → found ≡ done ++ said n (stripped line) → lines ≡ found ++ numbered (n + 1) (left_of tail)
more lines done found n rest line tail e f b h is =
    let parts : slice_split is_line_feed rest ≡ line ∷ left_of tail = ap (slice_split is_line_feed) e ∙ cut_at line tail f b in
    h ∙ (ap (λ (l : List (List ℕ)). done ++ numbered n l) parts
    ∙ (ap (λ (l : List (ℕ × List ℕ)). done ++ l) (by_test (length (stripped line) == 0) (n, stripped line) (numbered (n + 1) (left_of tail)))
    ∙ (sym (append_assoc done (said n (stripped line)) (numbered (n + 1) (left_of tail)))
    ∙ ap (λ (l : List (ℕ × List ℕ)). l ++ numbered (n + 1) (left_of tail)) (sym is))))

-- no line more
pub finish : (lines found : List (ℕ × List ℕ)) (n : ℕ) (left : List (List ℕ)) → lines ≡ found ++ numbered n left → left ≡ [] → found ≡ lines
finish lines found n left h none = sym (h ∙ ap (λ (l : List (List ℕ)). found ++ numbered n l) none ∙ append-nil found)
