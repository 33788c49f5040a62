use Rattle.sessions.proofs.ListLemmas.{failed_written}
use Rattle.sessions.proofs.job_list.write_failed.Goals as goal

pub returns : goal.returns
returns c =
    failed_written c.args.out.now.items _ _ _ _ c.args.job c.args.code _ _ c.from.ensures c.in_ok-put_number.ensures c.in_ok-put_number-2.ensures c.in_ok-put_key.ensures c.in_ok-extend_from_slice.ensures.items
