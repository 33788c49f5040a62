use Rattle.std.proofs.Common.{◌≡◌, length}
use Rattle.sessions.specs.Replies.{key_among}
use Rattle.sessions.proofs.job_list.key_among.Given as goal

abbrev pub invariant-keys : goal.invariant-keys
invariant-keys l = key_among l.rest l.job ≡ key_among l.fn.keys l.job

abbrev pub decreases-keys : goal.decreases-keys
decreases-keys l = length l.rest
