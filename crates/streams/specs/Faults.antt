-- The numbers of the faults of a stream.
use Rattle.std.specs.Prelude.{ℕ}
use Rattle.streams.specs.declared.fault.StreamFault.{StreamFault}
use Rattle.streams.specs.declared.fault.StreamFault.TheVariants.{ReadFailed, WriteFailed, NoMemory}

abbrev pub code_of_stream_fault : StreamFault → ℕ
code_of_stream_fault ReadFailed = 83
code_of_stream_fault WriteFailed = 84
code_of_stream_fault NoMemory = 99
