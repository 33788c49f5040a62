use Rattle.std.proofs.Common.{refl, bit_and, arith}
use Rattle.std.proofs.lemmas.Grind.{and_numeral}
use Rattle.machine_model.proofs.MemoryLemmas.{set_byte}
use Rattle.machine_model.proofs.memory.store.Goals as goal

pub returns-in-Byte : goal.returns-in-Byte
returns-in-Byte c =
    rw c.in-Byte.is (set_byte c.args.memory.now c.args.at c.args.number (bit_and c.args.number 255) (omega (arith, rw c.in-Byte.is at c.requires))
    (and_numeral c.args.number 254 refl))
