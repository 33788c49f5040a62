use Rattle.std.proofs.Common.{◌++◌, codes, decimal}
use Rattle.serde_json.proofs.OnLiterals.{serde_json_on_literals}
use Rattle.sessions.specs.Replies.{submit_data}
use Rattle.sessions.proofs.Writing.{two}
use Rattle.sessions.proofs.reply.write_submit.Goals as goal

pub returns : goal.returns
unfolding serde_json_on_literals submit_data
returns c =
    two c.args.out.now.items (codes "{\"job\":" ++ decimal c.args.job) (codes ",\"ok\":true}") _ _ c.in_ok-put_number.ensures c.in_ok-extend_from_slice.ensures.items
