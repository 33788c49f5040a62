-- The changes of a desk, and their bytes.
use Rattle.std.specs.Prelude.{ℕ, List, ◌++◌}
use Rattle.std.specs.Int.{w16, w32, w64, to_le_bytes}
use Rattle.credit_book.specs.declared.book.Report.{Report}
use Rattle.credit_book.specs.declared.event.TaskEnd.{TaskEnd}
use Rattle.job_core.specs.declared.admission.ProgramBytes.{ProgramBytes}
use Rattle.desk_journal.specs.Encodings.{bool_bytes, counted_bytes, list_bytes}

-- a program: its need, and its code
abbrev pub program_bytes : ProgramBytes → List ℕ
program_bytes p = to_le_bytes w32 p.need ++ counted_bytes p.code.items

-- a task of a report
abbrev pub task_bytes : TaskEnd → List ℕ
task_bytes t =
    to_le_bytes w32 t.number ++ (to_le_bytes w16 t.program ++ (to_le_bytes w64 t.arg
    ++ (to_le_bytes w32 t.given ++ (to_le_bytes w32 t.spent ++ (to_le_bytes w32 t.rest
    ++ (to_le_bytes w64 t.r0 ++ bool_bytes t.ran))))))

-- a report: its sums, its buffer and its tasks
abbrev pub report_bytes : Report → List ℕ
report_bytes r =
    to_le_bytes w32 r.spent ++ (to_le_bytes w32 r.returned ++ (counted_bytes r.buffer.items
    ++ list_bytes task_bytes r.tasks.items))
