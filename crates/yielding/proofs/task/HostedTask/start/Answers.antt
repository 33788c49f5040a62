use Rattle.std.proofs.Common.{◌≡◌, ◌≤◌, ap, arith, length, subst, sym, ◌∙◌}
use Rattle.verifier.specs.Checked.{Checked, cost_at}
use Rattle.interpreter.specs.declared.frame.Frame.{Frame}
use Rattle.interpreter.specs.declared.credit.Credit.{Credit}
use Rattle.interpreter.specs.Representation.{IsCovered, at_slot, entry_frame, lent}
use Rattle.interpreter.proofs.Enters.{covered_entry}
use Rattle.yielding.proofs.task.HostedTask.start.Goals as goal

pub invariant_of-result : goal.invariant_of-result
invariant_of-result c = λ goes bytes size.
    let p : Checked = c.deref-code.result.now in
    let given : Credit = record { held = c.args.credit; used = 0 } in
    let frame_is : at_slot c.entered.result 0 ≡ entry_frame (length bytes) c.args.argument =
    ap (λ (f : Frame). at_slot f 0) c.entered.ensures ∙ ap (λ n. entry_frame n c.args.argument) (sym size) in
    let need : p.need ≤ length bytes = omega (arith, c.if-len-need.false, c.need-need.ensures.need, size) in
    let small : length bytes ≤ 65536 = omega (arith, c.requires.small, size) in
    let affords : cost_at p 0 ≤ c.args.credit = omega (arith, c.if-credit-cost.false, c.cost-cost.ensures) in
    let whole : IsCovered p (entry_frame (length bytes) c.args.argument) (lent bytes) given =
    covered_entry p (lent bytes) c.args.credit c.args.argument c.need-need.ensures.verified need small affords c.requires.limit
    (omega (arith, c.ranges.argument)) in
    subst (λ (q : Checked). IsCovered q (at_slot c.entered.result 0) (lent bytes) given) c.deref-code.ensures
    (subst (λ (f : Frame). IsCovered p f (lent bytes) given) (sym frame_is) whole)
