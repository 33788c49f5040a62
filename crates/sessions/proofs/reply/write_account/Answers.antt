use Rattle.std.proofs.Common.{◌++◌, codes, decimal}
use Rattle.serde_json.proofs.OnLiterals.{serde_json_on_literals}
use Rattle.sessions.specs.Replies.{account_data}
use Rattle.sessions.proofs.Writing.{five}
use Rattle.sessions.proofs.reply.write_account.Goals as goal

pub returns : goal.returns
unfolding serde_json_on_literals account_data
returns c =
    five c.args.out.now.items (codes "{\"balance\":" ++ decimal c.args.balance) (codes ",\"granted\":" ++ decimal c.args.granted) (codes ",\"ok\":true,\"open\":" ++ decimal c.args.opened) (codes ",\"spent\":" ++ decimal c.args.spent) (codes "}") _ _ _ _ _ c.in_ok-put_number.ensures c.in_ok-put_number-2.ensures c.in_ok-put_number-3.ensures c.in_ok-put_number-4.ensures c.in_ok-extend_from_slice.ensures.items
