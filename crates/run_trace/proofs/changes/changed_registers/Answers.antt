use Rattle.std.proofs.Common.{ap, refl, sym}
use Rattle.flow_graph.proofs.CodeLemmas.{so, not_so}
use Rattle.reference.specs.Records.{registers_of, value_of}
use Rattle.run_trace.proofs.ChangeLemmas.{alike, told_all, told_more, told_same}
use Rattle.run_trace.proofs.changes.changed_registers.Goals as goal
use Rattle.run_trace.proofs.changes.changed_registers.Goals.{then-not-is_same+in_ok-push, else-not-is_same}

pub loop-register-preserved : goal.loop-register-preserved
loop-register-preserved c = elim c.if-not-is_same.branch [
  | then-not-is_same+in_ok-push w ↦
      let other = not_so _ c.is_same.ensures w.if-not-is_same.true in
      rw (w.changes-is, w.in_ok-push.ensures.items)
      (told_more (registers_of c.args.before.now) (registers_of c.args.after.now) c.loop-register.changes.items c.loop-register.register _ refl refl (λ e. other (alike _ _ e))
      c.loop-register.invariant)
  | else-not-is_same w ↦
      rw w.changes-is
      (told_same (registers_of c.args.before.now) (registers_of c.args.after.now) c.loop-register.changes.items c.loop-register.register
      (ap value_of (sym (so _ c.is_same.ensures w.if-not-is_same.false))) c.loop-register.invariant)
]

pub returns : goal.returns
returns c =
    told_all c.args.before.now c.args.after.now c.loop-register.changes.items c.loop-register.register c.told-before c.told-after c.loop-register-test.false c.loop-register.invariant
