use Rattle.std.proofs.Common.{ap, length}
use Rattle.accounts.specs.Ledgers.{Ledger}
use Rattle.server_handler.proofs.Recorded.{records_nothing}
use Rattle.server_handler.proofs.Starts.{start_count}
use Rattle.server_handler.proofs.recorded_submit.start_recorded.Goals as goal

pub answer_taken-refusal-requires-clause-last : goal.answer_taken-refusal-requires-clause-last
answer_taken-refusal-requires-clause-last g c = rw c.in-Ok.is at c.requires.last

pub returns-in-Ok-clause-done : goal.returns-in-Ok-clause-done
returns-in-Ok-clause-done g c = rw c.in-Ok.is c.answer_taken-refusal.ensures.done

pub returns-in-Ok-clause-records : goal.returns-in-Ok-clause-records
returns-in-Ok-clause-records g c = c.note_start.ensures c.args.desk.now c.answer_taken-refusal.new.desk c.in-Ok.job.0 c.answer_taken-refusal.ensures.start

pub returns-in-Ok-clause-count : goal.returns-in-Ok-clause-count
returns-in-Ok-clause-count g c = start_count c.args.desk.now c.answer_taken-refusal.new.desk c.in-Ok.job.0 _ c.answer_taken-refusal.ensures.start

pub returns-in-Err-clause-count : goal.returns-in-Err-clause-count
returns-in-Err-clause-count g c = ap (λ (l : Ledger). length l.jobs) c.answer_taken.ensures.done.was.0

pub returns-in-Err-clause-done : goal.returns-in-Err-clause-done
returns-in-Err-clause-done g c = rw c.in-Err.is c.answer_taken.ensures.done

pub returns-in-Err-clause-records : goal.returns-in-Err-clause-records
returns-in-Err-clause-records g c =
    records_nothing g.C.ChangeSink c.args.place c.args.changes.now c.args.desk.now c.answer_taken.new.desk c.answer_taken.ensures.done.was.0
