use Rattle.sessions.proofs.ResultLemmas.{result_written}
use Rattle.sessions.proofs.result.write_quoted.Goals as goal

pub returns : goal.returns
returns c =
    result_written c.args.out.now.items _ _ _ _ _ _ _ c.args.buffer.now _ _ c.args.returned c.args.spent c.args.tasks.now c.from.ensures c.from-2.ensures c.in_ok-extend_from_slice.ensures.items
    c.in_ok-extend_from_slice-2.ensures.items c.in_ok-put_number.ensures c.in_ok-put_number-2.ensures c.in_ok-extend_from_slice-3.ensures.items c.in_ok-write_tasks.ensures
    c.in_ok-extend_from_slice-4.ensures.items
