use Rattle.std.proofs.Common.{◌≡◌, ◌<◌, sym, arith, inl, inr, ap, ◌∙◌}
use Rattle.std.proofs.lemmas.Bool.{cases_lt}
use Rattle.flow_graph.specs.Faults.{fault_at}
use Rattle.flow_graph.proofs.FaultLemmas.{refuses_of, faultless_of}
use Rattle.flow_graph.proofs.checks.first_fault.Goals as goal

pub returns-in-Some : goal.returns-in-Some
returns-in-Some c = refuses_of c.args.code.now c.loop-slot.slot c.in-Some.fault (sym c.in-Some.ensures) c.loop-slot.invariant

pub loop-slot-preserved : goal.loop-slot-preserved
loop-slot-preserved c = λ s lt. elim (cases_lt s c.loop-slot.slot) [
  | inl low ↦ c.loop-slot.invariant s low
  | inr high ↦ let same : s ≡ c.loop-slot.slot = omega arith in ap (fault_at c.args.code.now) same ∙ sym c.in_default.ensures
]

pub returns : goal.returns
returns c = faultless_of c.args.code.now (λ s lt. let low : s < c.loop-slot.slot = omega arith in c.loop-slot.invariant s low)
