use Rattle.std.proofs.Common.{◌≡◌, take, drop, sym, ap, ◌∙◌}
use Rattle.journal.specs.Records.{length_bytes, checksum_bytes}
use Rattle.journal.proofs.RecordLemmas.{front_4, checksum_front, put_together}
use Rattle.journal.proofs.reading.first_record.Goals as goal

pub returns-then-not-bytes_equal-clause-none : goal.returns-then-not-bytes_equal-clause-none
returns-then-not-bytes_equal-clause-none c q more fits e =
    let same = c.in_ok-payload.ensures.only q more fits e in
    let len : c.split_at.result.0.now ≡ length_bytes q = rw (c.split_at.ensures.front, e) (front_4 q more) in
    let is : c.split_at.result.0.now ≡ c.header.result.0 = len ∙ (ap length_bytes (sym same) ∙ sym c.header.ensures.length) in
    let yes = c.bytes_equal.ensures.1 is in
    absurd cc

pub returns-then-not-bytes_equal-2-clause-none : goal.returns-then-not-bytes_equal-2-clause-none
returns-then-not-bytes_equal-2-clause-none c q more fits e =
    let same = c.in_ok-payload.ensures.only q more fits e in
    let sum : c.split_at-2.result.0.now ≡ checksum_bytes q = rw (c.split_at-2.ensures.front, c.split_at.ensures.back, e) (checksum_front q more) in
    let is : c.split_at-2.result.0.now ≡ c.header.result.1 = sum ∙ (ap checksum_bytes (sym same) ∙ sym c.header.ensures.checksum) in
    let yes = c.bytes_equal-2.ensures.1 is in
    absurd cc

pub returns-clause-some : goal.returns-clause-some
returns-clause-some c =
    let p = c.in_ok-payload.payload.now in
    let len = c.bytes_equal.ensures.0 c.if-not-bytes_equal.false in
    let sum = c.bytes_equal-2.ensures.0 c.if-not-bytes_equal-2.false in
    let len_there : take 4 c.args.bytes.now ≡ length_bytes p = sym c.split_at.ensures.front ∙ (len ∙ c.header.ensures.length) in
    let sum_there : take 4 (drop 4 c.args.bytes.now) ≡ checksum_bytes p = ap (take 4) (sym c.split_at.ensures.back) ∙ (sym c.split_at-2.ensures.front ∙ (sum ∙ c.header.ensures.checksum)) in
    (c.in_ok-payload.ensures.some.1, put_together c.args.bytes.now p len_there sum_there c.in_ok-payload.ensures.some.2)
