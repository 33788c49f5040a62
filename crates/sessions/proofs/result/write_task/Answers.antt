use Rattle.sessions.proofs.ResultLemmas.{task_written}
use Rattle.sessions.proofs.result.write_task.Goals as goal

pub returns : goal.returns
returns c =
    task_written c.args.out.now.items _ _ _ _ _ _ _ _ _ _ _ c.args.task.now c.from.ensures c.from-2.ensures c.from-3.ensures c.from-4.ensures c.in_ok-put_number.ensures
    c.in_ok-put_number-2.ensures c.in_ok-put_number-3.ensures c.in_ok-put_word.ensures c.in_ok-put_number-4.ensures c.in_ok-put_number-5.ensures c.in_ok-extend_from_slice.ensures.items
