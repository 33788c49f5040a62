use Rattle.std.proofs.Common.{ℕ, List, ◌++◌, ap, ◌∙◌}
use Rattle.std.specs.Int.{w32, to_le_bytes}
use Rattle.credit_book.specs.declared.event.TaskEnd.{TaskEnd}
use Rattle.desk_journal.specs.Changes.{task_bytes}
use Rattle.desk_journal.specs.Encodings.{counted_bytes, list_bytes}
use Rattle.desk_journal.proofs.ListLemmas.{joined_four}
use Rattle.desk_journal.proofs.parts.ReportEncoded.write.Goals as goal

pub returns : goal.returns
returns c =
    let out = c.args.out.now.items in
    let report = c.args.self.now in
    let spent = to_le_bytes w32 report.spent in
    let returned = to_le_bytes w32 report.returned in
    let buffer = counted_bytes c.deref.result.now in
    let tasks = list_bytes task_bytes c.deref-2.result.now in
    let two = c.in_ok-write-2.ensures ∙ ap (λ (l : List ℕ). l ++ returned) c.in_ok-write.ensures in
    let three = c.in_ok-write_bytes.ensures ∙ ap (λ (l : List ℕ). l ++ buffer) two in
    let four = c.in_ok-write_list.ensures ∙ ap (λ (l : List ℕ). l ++ tasks) three in
    four ∙ (joined_four out spent returned buffer tasks
    ∙ (ap (λ (b : List ℕ). out ++ (spent ++ (returned ++ (counted_bytes b ++ tasks)))) c.deref.ensures.value
    ∙ ap (λ (ts : List TaskEnd). out ++ (spent ++ (returned ++ (counted_bytes report.buffer.items ++ list_bytes task_bytes ts)))) c.deref-2.ensures.value))
