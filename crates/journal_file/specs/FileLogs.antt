-- The log that a log over a file is.
use Rattle.journal_file.specs.declared.file_log.FileLog.{FileLog}
use Rattle.journal.specs.Logs.{LogState}

abbrev pub file_state : FileLog → LogState
file_state log = record { durable = log.durable.bytes; pending = log.pending.items }
