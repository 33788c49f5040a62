use Rattle.std.proofs.Common.{ap, arith, length, ◌<◌, ◌+◌}
use std.Path.{fun_ext}
use Rattle.machine_model.specs.Value.{Registers}
use Rattle.reference.proofs.EffectLemmas.{set_called}
use Rattle.reference.proofs.calls.put_answer.Goals as goal

pub returns : goal.returns
returns c =
    let long : 6 < length c.args.state.registers = omega arith in
    ap (λ (registers : Registers). record {
      slot = c.args.state.slot + 1;
      registers = registers;
      stack = c.args.state.stack;
      part = c.args.state.part.items;
      held = c.args.state.held;
      used = c.args.state.used;
    })
    (fun_ext (λ r. set_called c.args.state.registers c.args.answer r long))
