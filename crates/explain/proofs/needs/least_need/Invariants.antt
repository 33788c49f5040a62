use Rattle.std.proofs.Common.{◌≤◌, ◌<◌, ◌-◌}
use Rattle.explain.specs.Needs.{LeavesPart}
use Rattle.explain.proofs.needs.least_need.Given as goal

abbrev pub invariant-loop-low : goal.invariant-loop-low
invariant-loop-low l = record {
  apart : l.low < l.high;
  most : l.high ≤ 65536;
  leaves : LeavesPart l.helpers l.insn l.state l.low;
  stays : LeavesPart l.helpers l.insn l.state l.high → ⊥;
}

abbrev pub decreases-loop-low : goal.decreases-loop-low
decreases-loop-low l = l.high - l.low
