use Rattle.std.proofs.Common.{◌≡◌, ℕ, ◌∷◌, [], ◌++◌, ◌-◌, length, List, take, drop, ap, sym, ◌∙◌}
use Rattle.assembler.proofs.Pairs.{place_by, bracketed}
use Rattle.assembler.proofs.reading.memory_from.Goals as goal

pub returns : goal.returns
returns c =
    let ts = c.args.text.now in
    let whole : ts ≡ 91 ∷ (take (length (drop 1 ts) - 1) (drop 1 ts) ++ 93 ∷ []) = bracketed ts c.if-text-lt2.false c.if-text-ne91.false c.if-text-ne93.false in
    let inner : c.split_at-2.result.0.now ≡ take (length (drop 1 ts) - 1) (drop 1 ts) = c.split_at-2.ensures.front ∙ ap (λ (l : List ℕ). take (length l - 1) l) c.split_at.ensures.back in
    place_by ts c.split_at-2.result.0.now _ _ (whole ∙ ap (λ (x : List ℕ). 91 ∷ (x ++ 93 ∷ [])) (sym inner)) c.split_before.ensures.whole c.split_before.ensures.front c.split_before.ensures.back _ _ _ c.zip.ensures c.register_from.ensures c.offset_from.ensures
