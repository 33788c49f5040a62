use Rattle.telgovan_c.specs.Worlds.{written}
use Rattle.telgovan_c.proofs.worlds.write_buffer.Goals as goal

pub returns-in-Ok : goal.returns-in-Ok
returns-in-Ok c = written c.in-Ok.buffer.items c.in-Ok.ensures (rw c.deref.ensures.value at c.write_into.ensures)
