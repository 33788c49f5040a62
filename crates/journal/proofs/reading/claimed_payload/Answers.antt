use Rattle.std.proofs.Common.{◌≤◌, length, arith, ◌∙◌}
use Rattle.journal.proofs.RecordLemmas.{torn_short, claimed_head, claimed_is, claimed_fits}
use Rattle.journal.proofs.reading.claimed_payload.Goals as goal

pub returns-then-bytes-lt-HEADER_LEN-clause-none : goal.returns-then-bytes-lt-HEADER_LEN-clause-none
returns-then-bytes-lt-HEADER_LEN-clause-none c = torn_short _ (omega arith)

pub returns-then-rest-len-clause-none : goal.returns-then-rest-len-clause-none
returns-then-rest-len-clause-none c payload more fits e =
    let claimed = c.from_le_bytes-len.ensures ∙ claimed_head c.args.bytes.now payload more c.split_at.result.0.now fits e c.split_at.ensures.front in
    let whole : length payload ≤ length c.split_at.result.1.now = rw c.split_at.ensures.back (claimed_fits c.args.bytes.now payload more e) in
    absurd (omega arith)

pub returns-clause-only : goal.returns-clause-only
returns-clause-only c q more fits e =
    let claimed = c.from_le_bytes-len.ensures ∙ claimed_head c.args.bytes.now q more c.split_at.result.0.now fits e c.split_at.ensures.front in
    rw (c.split_at-2.ensures.front, c.split_at.ensures.back) (claimed_is c.args.bytes.now q more c.from_le_bytes-len.result claimed e)
