use Rattle.std.proofs.Common.{◌<◌, ◌∙◌, sym, arith, length, None}
use Rattle.std.proofs.lemmas.List.{get_or_default}
use Rattle.std.proofs.lemmas.Result.{on_ok_weaker}
use Rattle.verifier.proofs.states.propagate_in_turn.Goals as goal

pub returns-in-Some-states-clause-propagated : goal.returns-in-Some-states-clause-propagated
returns-in-Some-states-clause-propagated c =
    on_ok_weaker c.propagate_to.result (λ propagated need helpers n h among none insn. propagated need helpers n c.in-Some-states.field-0 h among none insn
    (let room : c.args.visited.now.from < length c.args.states.now = omega (arith, c.if-prove.false, c.slots-slots.ensures.slots, c.requires.slots) in
    sym (get_or_default c.args.states.now c.args.visited.now.from c.index-states-first.result None room)
    ∙ rw c.if-first-visited.true at c.in-Some-states.is)) c.propagate_to.ensures.propagated
