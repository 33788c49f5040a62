use Rattle.sessions.proofs.ListLemmas.{open_written}
use Rattle.sessions.proofs.job_list.write_open.Goals as goal

pub returns : goal.returns
returns c = open_written c.args.out.now.items _ _ _ c.args.job _ c.in_ok-put_number.ensures c.in_ok-put_key.ensures c.in_ok-extend_from_slice.ensures.items
