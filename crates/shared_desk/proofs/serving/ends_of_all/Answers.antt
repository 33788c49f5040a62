use Rattle.std.proofs.Common.{◌≡◌, ◌∷◌, [], length, refl, ap, ◌∙◌, append_assoc, arith}
use Rattle.std.specs.Vec.Iter.{into_iter_items}
use Rattle.shared_desk.proofs.Opening.{zip_more}
use Rattle.shared_desk.proofs.serving.ends_of_all.Goals as goal

pub ending-preserved : goal.ending-preserved
ending-preserved g c =
    let at = c.ending in
    let x = c.in-Some.connection in
    let steps : into_iter_items at.connection-iterator ≡ x ∷ into_iter_items c.next.new.self = c.in-Some.ensures.steps.0 in
    record {
      left = append_assoc at.yielded (x ∷ []) _ ∙ rw (← steps) at.invariant.left;
      len = let was = at.invariant.len in let gone = c.in-Some.ensures.steps.1 in let short = ap length steps in omega arith;
      ended = rw c.in_ok-push.ensures.items (zip_more _ at.yielded at.ends.items x _ at.invariant.ended (refl, refl, refl));
    }
