-- Jobs whose numbers have 32 bits, and whose bytes are bytes, as those of every request.
use Rattle.std.specs.Prelude.{◌≤◌}
use Rattle.std.specs.List.{AllByRecursion}
use Rattle.hex.specs.Hex.{IsBytes}
use Rattle.sessions.specs.Grammar.{JobText, ProgramText}

abbrev pub IsWritableProgram : ProgramText → Type 0
IsWritableProgram p = (p.need ≤ 4294967295) × IsBytes p.code

pub record IsWritable (order : JobText) : Type 0 where
  pub credit : order.credit ≤ 4294967295
  pub buffer : IsBytes order.buffer
  pub programs : AllByRecursion IsWritableProgram order.programs
