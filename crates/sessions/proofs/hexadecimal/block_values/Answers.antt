use Rattle.std.proofs.Common.{rules, arith, ◌<◌, ◌≡◌, length, slice_set}
use Rattle.sessions.proofs.Blocks.{one_more}
use Rattle.sessions.proofs.hexadecimal.block_values.Goals as goal

pub digits-preserved : goal.digits-preserved
digits-preserved c =
    let inside : c.digits.i < length c.digits.values = omega (arith, c.digits-test.true, c.digits.invariant.0) in
    let same : length (slice_set c.digits.values c.digits.i c.digit_value-value.result) ≡ 64 = search rules in
    (same, one_more c.digits.values c.args.text.now c.digits.i c.digit_value-value.result c.digits.most c.max-most.result inside c.digit_value-value.ensures (search rules) (search rules) c.digits.invariant.1)
