use Rattle.std.proofs.Common.{sym, ap, ◌∙◌, ◌++◌}
use Rattle.shared_journal.proofs.JournalCalls.{none_written, keeps_same, written_ok, written_err, copies_more}
use Rattle.shared_journal.proofs.journal_calls.write_waiting.Goals as goal

pub returns-then-has_failed-clause-err : goal.returns-then-has_failed-clause-err
returns-then-has_failed-clause-err g c = (none_written _ c.requires.log.1, c.requires.keeps)

pub returns-in-Ok-clause-ok : goal.returns-in-Ok-clause-ok
returns-in-Ok-clause-ok g c =
    let same = c.empty_buffer-buffer.ensures.same in
    written_ok c.args.seat.now.me c.take_bytes-bytes.new.seat.me _ c.empty_buffer-buffer.new.self _ c.take_bytes-bytes.ensures.taken
    (keeps_same _ _ _ _ _ same.0 same.1 c.requires.keeps) (same.1 ∙ (sym c.has_failed.ensures ∙ c.if-has_failed.false)) c.in-Ok.ensures.durable

pub returns-in-Err-clause-err : goal.returns-in-Err-clause-err
returns-in-Err-clause-err g c =
    let same = c.empty_buffer-buffer.ensures.same in
    written_err c.args.seat.now.me c.take_bytes-bytes.new.seat.me _ c.empty_buffer-buffer.new.self _ c.take_bytes-bytes.ensures.taken
    (keeps_same _ _ _ _ _ same.0 same.1 c.requires.keeps) c.in-Err.ensures.stops c.in-Err.ensures.kept

pub returns-in-Ok-clause-copied : goal.returns-in-Ok-clause-copied
returns-in-Ok-clause-copied g c =
    let same = c.empty_buffer-buffer.ensures.same in
    copies_more c.args.seat.now.me c.take_bytes-bytes.new.seat.me _ _ _ _ _ c.empty_buffer-buffer.new.self c.take_bytes-bytes.ensures.taken
    (keeps_same _ _ _ _ _ same.0 same.1 c.requires.keeps) (same.1 ∙ (sym c.has_failed.ensures ∙ c.if-has_failed.false)) c.requires.copies
    (λ e. let put = c.copy_behind.ensures e in (put.0, put.1 ∙ ap (λ l. c.args.copies.now.items ++ l) c.deref.ensures.value))
