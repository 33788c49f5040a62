use Rattle.std.proofs.Common.{◌≡◌, ◌∷◌, [], length, ap, ◌∙◌, append_assoc, arith}
use Rattle.std.specs.Vec.Iter.{into_iter_items}
use Rattle.shared_desk.proofs.Opening.{zip_more}
use Rattle.tenant_recorder.specs.Recorders.{IsNewRecorder}
use Rattle.tenant_recorder.proofs.recorders.recorders_of.Goals as goal

pub queues-preserved : goal.queues-preserved
queues-preserved g c =
    let at = c.queues in
    let x = c.in-Some.queue in
    let steps : into_iter_items at.queue-iterator ≡ x ∷ into_iter_items c.next.new.self = c.in-Some.ensures.steps.0 in
    record {
      left = append_assoc at.yielded (x ∷ []) _ ∙ rw (← steps) at.invariant.left;
      len = let was = at.invariant.len in let gone = c.in-Some.ensures.steps.1 in let short = ap length steps in omega arith;
      made = rw c.in_ok-push.ensures.items (zip_more IsNewRecorder at.yielded at.recorders.items x c.new.result at.invariant.made (record { same = c.new.ensures.0; goes_on = c.new.ensures.1; noted = c.new.ensures.2 }));
    }
