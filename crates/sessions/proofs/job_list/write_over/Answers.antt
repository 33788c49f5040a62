use Rattle.sessions.proofs.ListLemmas.{over_written}
use Rattle.sessions.proofs.job_list.write_over.Goals as goal

pub returns : goal.returns
returns c = over_written c.args.out.now.items _ _ _ c.args.job _ c.in_ok-put_number.ensures c.in_ok-put_key.ensures c.in_ok-extend_from_slice.ensures.items
