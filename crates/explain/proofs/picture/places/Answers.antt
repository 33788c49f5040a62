use Rattle.std.proofs.Common.{◌≡◌, ℕ, [], ◌∷◌, arith, inl, inr, map, subst, sym, ◌∙◌}
use Rattle.std.proofs.lemmas.List.{length-append}
use Rattle.explain.specs.declared.explanation.InstructionPlace.{InstructionPlace}
use Rattle.explain.specs.Blocks.{IsNumbered}
use Rattle.explain.specs.Lines.{numbered_text}
use Rattle.explain.proofs.BlockLemmas.{got_of_more}
use Rattle.explain.proofs.picture.places.Goals as goal

pub loop-index-preserved : goal.loop-index-preserved
loop-index-preserved c =
    rw c.in_ok-push.ensures.items (record {
      long = omega (arith, c.loop-index.invariant.long, length-append c.loop-index.places.items (c.in_ok-place.place ∷ []));
      each = λ k place e. elim (got_of_more c.loop-index.places.items c.in_ok-place.place place k e) [
        | inl there ↦ c.loop-index.invariant.each k place there
        | inr last ↦
            let here : k ≡ c.loop-index.index = last.0 ∙ c.loop-index.invariant.long in
            subst (λ (p : InstructionPlace). IsNumbered c.args.placed.now (map numbered_text c.args.lines.now) k p) (sym last.1)
            (subst (λ (n : ℕ). IsNumbered c.args.placed.now (map numbered_text c.args.lines.now) n c.in_ok-place.place) (sym here) c.in_ok-place.ensures)
      ];
    })
