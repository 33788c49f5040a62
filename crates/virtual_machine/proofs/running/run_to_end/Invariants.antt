use Rattle.std.proofs.Common.{◌≡◌, ◌≤◌, ◌-◌}
use Rattle.machine_model.specs.Value.{Registers}
use Rattle.interpreter.specs.Representation.{RepresentsTask, IsCovered, at_slot, state_of}
use Rattle.virtual_machine.specs.Through.{GoesThrough}
use Rattle.virtual_machine.proofs.SoloRunning.{IsUnderWay}
use Rattle.virtual_machine.proofs.running.run_to_end.Given as goal

abbrev pub invariant-loop-next : goal.invariant-loop-next
invariant-loop-next g l = record {
  covered : IsCovered l.code (at_slot l.frame l.slot) l.part l.credit;
  base : l.part.base ≡ l.fn.part.base;
  holds : l.credit.held ≤ l.fn.credit.held;
  entries : g.S.Spawner.entries l.spawner ≡ g.S.Spawner.entries l.fn.spawner;
  way : (registers : Registers) → RepresentsTask l.code (at_slot l.fn.frame 0) registers →
      IsUnderWay l.code (g.S.Spawner.entries l.fn.spawner) (state_of (at_slot l.fn.frame 0) l.fn.part l.fn.credit registers)
      (λ asked. GoesThrough g.S.Spawner.spawns l.fn.part.base l.fn.spawner asked l.spawner)
      (at_slot l.frame l.slot) l.part l.credit l.whole;
}

abbrev pub decreases-loop-next : goal.decreases-loop-next
decreases-loop-next g l = l.credit.held - l.credit.used
