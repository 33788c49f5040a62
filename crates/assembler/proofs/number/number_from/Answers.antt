use Rattle.std.proofs.Common.{◌≡◌, ◌+◌, ◌*◌, ◌<◌, length, take, ap, ◌∙◌, arith}
use Rattle.std.proofs.lemmas.Int.Digits.{digits_more, digits_value_more}
use Rattle.std.specs.Str.Parse.{digits_value}
use Rattle.assembler.specs.Numbers.{capped}
use Rattle.assembler.proofs.Digits.{digit_in}
use Rattle.assembler.proofs.number.number_from.Goals as goal

pub returns-in_err-digit-clause-none : goal.returns-in_err-digit-clause-none
returns-in_err-digit-clause-none c = rw c.from_residual.ensures (λ n h. c.in_err-digit.ensures (digit_in c.args.digits.now c.loop-byte.byte-index h.digits (omega arith)))

pub loop-byte-preserved : goal.loop-byte-preserved
loop-byte-preserved c =
    let ds = c.args.digits.now in
    let i = c.loop-byte.byte-index in
    let lt : i < length ds = omega arith in
    let inv = c.loop-byte.invariant in
    let same : digits_value 10 (take i ds) * 10 + c.in_ok-digit.field-0 ≡ digits_value 10 (take (i + 1) ds) = omega (arith, c.in_ok-digit.ensures.1, digits_value_more 10 ds i lt) in
    record {
      digits = digits_more 10 ds i lt inv.digits c.in_ok-digit.ensures.0;
      value = c.append_digit-value.ensures (digits_value 10 (take i ds)) inv.value ∙ ap capped same;
    }
