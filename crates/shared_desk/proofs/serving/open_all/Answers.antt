use Rattle.std.proofs.Common.{◌≡◌, ◌+◌, ◌∷◌, [], ◌++◌, length, length-append, ap, ◌∙◌, append_assoc, arith}
use Rattle.std.specs.Vec.Iter.{into_iter_items}
use Rattle.shared_desk.proofs.Opening.{well_of, opened_more, opened_length}
use Rattle.shared_desk.proofs.serving.open_all.Goals as goal

pub opening-preserved : goal.opening-preserved
opening-preserved g c =
    let at = c.opening in
    let x = c.in-Some.pair in
    let steps : into_iter_items at.pair-iterator ≡ x ∷ into_iter_items c.next.new.self = c.in-Some.ensures.steps.0 in
    let opened = c.open-connection.ensures in
    let was = at.invariant.count in
    record {
      left = append_assoc at.yielded (x ∷ []) _ ∙ rw (← steps) at.invariant.left;
      len = let before = at.invariant.len in let gone = c.in-Some.ensures.steps.1 in let short = ap length steps in omega arith;
      same = opened.same.0 ∙ at.invariant.same;
      count = let grown : length (at.yielded ++ x ∷ []) ≡ length at.yielded + 1 = length-append at.yielded (x ∷ []) in let one = opened.same.1 in omega arith;
      well = (well_of g.S.Source.has_failed g.W.Sink.has_failed _ _ steps at.invariant.well).2;
      opened = rw c.in_ok-push.ensures.items (opened_more 0 at.yielded at.connections.items x c.open-connection.result at.invariant.opened opened.ends (let is = opened.seat.0 in omega arith) opened.seat.2);
    }

pub returns-clause-count : goal.returns-clause-count
returns-clause-count g c =
    let at = c.opening in
    let o = at.connections.ok in
    let was = at.invariant.count in
    let same = opened_length 0 at.yielded at.connections.items at.invariant.opened in
    omega (arith, o)
