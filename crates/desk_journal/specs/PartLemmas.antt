-- What stands behind the parts of a change.
use Rattle.std.proofs.Common.{◌≤◌, ℕ, List, ◌++◌, drop, length, ap, arith, append_assoc}
use Rattle.std.proofs.lemmas.List.{length-append}
use Rattle.std.specs.Int.{w32, to_le_bytes}
use Rattle.credit_book.specs.declared.book.Report.{Report}
use Rattle.credit_book.specs.declared.event.TaskEnd.{TaskEnd}
use Rattle.job_core.specs.declared.admission.ProgramBytes.{ProgramBytes}
use Rattle.desk_journal.specs.Changes.{program_bytes, task_bytes, report_bytes}
use Rattle.desk_journal.specs.CodecLemmas.{OneRest, counted_rest, list_rest, pair_rest}
use Rattle.desk_journal.specs.Encodings.{counted_bytes, list_bytes}
use Rattle.desk_journal.specs.NumberLemmas.{rest_behind_bool}

there_in_front : (n : ℕ) (more : List ℕ) → 1 ≤ length (to_le_bytes w32 n ++ more)
there_in_front n more = omega (arith, length-append (to_le_bytes w32 n) more)

pub program_there : (p : ProgramBytes) → 1 ≤ length (program_bytes p)
program_there p = there_in_front p.need (counted_bytes p.code.items)

pub program_rest : OneRest program_bytes
program_rest p q r s small same =
    counted_rest p.code.items q.code.items r s (omega (arith, small, ap length (append_assoc (to_le_bytes w32 p.need) (counted_bytes p.code.items) r))) (ap (drop 4) same)

pub task_there : (t : TaskEnd) → 1 ≤ length (task_bytes t)
task_there t = there_in_front t.number (drop 4 (task_bytes t))

pub task_rest : OneRest task_bytes
task_rest t u r s small same = rest_behind_bool t.ran u.ran r s (ap (drop 34) same)

pub report_is_there : (r : Report) → 1 ≤ length (report_bytes r)
report_is_there r = omega (arith, length-append (to_le_bytes w32 r.spent) (to_le_bytes w32 r.returned ++ (counted_bytes r.buffer.items ++ list_bytes task_bytes r.tasks.items)))

pub report_rest : OneRest report_bytes
report_rest a b r s small same =
    pair_rest (λ (l : List ℕ). counted_bytes l) (λ (l : List TaskEnd). list_bytes task_bytes l) counted_rest (list_rest task_bytes task_there task_rest) a.buffer.items a.tasks.items b.buffer.items b.tasks.items r s
    (omega (
      arith,
      small,
      length-append (report_bytes a) r,
      length-append (to_le_bytes w32 a.spent) (to_le_bytes w32 a.returned ++ (counted_bytes a.buffer.items ++ list_bytes task_bytes a.tasks.items)),
      length-append (to_le_bytes w32 a.returned) (counted_bytes a.buffer.items ++ list_bytes task_bytes a.tasks.items),
      length-append (counted_bytes a.buffer.items ++ list_bytes task_bytes a.tasks.items) r,
    ))
    (ap (drop 8) same)
