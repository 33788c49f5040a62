-- The log that a log in memory is.
use Rattle.journal.specs.declared.memory_log.MemoryLog.{MemoryLog}
use Rattle.journal.specs.Logs.{LogState}

abbrev pub memory_state : MemoryLog → LogState
memory_state log = record { durable = log.durable.items; pending = log.pending.items }
