use Rattle.std.proofs.Common.{◌≡◌, ℕ, ◌∷◌, [], ◌++◌, ◌-◌, length, List, take, drop, ap, sym, refl, ◌∙◌}
use Rattle.assembler.proofs.Pairs.{bracketed}
use Rattle.assembler.proofs.FormLemmas.{memory_in, memory_made, never}
use Rattle.assembler.proofs.form.is_memory.Goals as goal

pub returns-else-is_marked : goal.returns-else-is_marked
returns-else-is_marked c =
    let ts = c.args.text.now in
    let whole : ts ≡ 91 ∷ (take (length (drop 1 ts) - 1) (drop 1 ts) ++ 93 ∷ []) = bracketed ts c.if-text-lt2.false c.if-text-ne91.false c.if-text-ne93.false in
    let inner : c.split_at-2.result.0.now ≡ take (length (drop 1 ts) - 1) (drop 1 ts) = c.split_at-2.ensures.front ∙ ap (λ (l : List ℕ). take (length l - 1) l) c.split_at.ensures.back in
    rw c.if-is_marked.false (never, λ h. c.if-is_marked.ensures.1 (memory_in ts c.split_at-2.result.0.now _ _ (whole ∙ ap (λ (x : List ℕ). 91 ∷ (x ++ 93 ∷ [])) (sym inner)) c.split_before.ensures.whole c.split_before.ensures.front c.split_before.ensures.back h).0)

pub returns-then-is_marked : goal.returns-then-is_marked
returns-then-is_marked c =
    let ts = c.args.text.now in
    let whole : ts ≡ 91 ∷ (take (length (drop 1 ts) - 1) (drop 1 ts) ++ 93 ∷ []) = bracketed ts c.if-text-lt2.false c.if-text-ne91.false c.if-text-ne93.false in
    let inner : c.split_at-2.result.0.now ≡ take (length (drop 1 ts) - 1) (drop 1 ts) = c.split_at-2.ensures.front ∙ ap (λ (l : List ℕ). take (length l - 1) l) c.split_at.ensures.back in
    let all = whole ∙ ap (λ (x : List ℕ). 91 ∷ (x ++ 93 ∷ [])) (sym inner) in (
      (λ h. memory_made ts c.split_at-2.result.0.now _ _ all c.split_before.ensures.whole c.split_before.ensures.front c.split_before.ensures.back (c.if-is_marked.ensures.0 refl) (c.is_offset.ensures.0 h)),
      (λ h. c.is_offset.ensures.1 (memory_in ts c.split_at-2.result.0.now _ _ all c.split_before.ensures.whole c.split_before.ensures.front c.split_before.ensures.back h).1),
    )
