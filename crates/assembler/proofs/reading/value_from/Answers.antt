use Rattle.std.proofs.Common.{subst}
use Rattle.assembler.specs.declared.number.Number.{Number}
use Rattle.assembler.specs.Numbers.{IsNumberOf}
use Rattle.assembler.proofs.Values.{is_decimal, large, none_number}
use Rattle.assembler.proofs.reading.value_from.Goals as goal

pub returns-in-Small : goal.returns-in-Small
returns-in-Small c =
    let h = subst (λ (x : Number). IsNumberOf x c.args.digits.now) c.in-Small.is c.in_ok-value.ensures.found in
    (is_decimal _ _ h.0 h.1, h.1)

pub returns-in-Large : goal.returns-in-Large
returns-in-Large c = λ n lt e. let h = subst (λ (x : Number). IsNumberOf x c.args.digits.now) c.in-Large.is c.in_ok-value.ensures.found in large _ h.0 n h.1 h.2 lt e

pub returns-in_err-value : goal.returns-in_err-value
returns-in_err-value c = rw c.from_residual.ensures (λ n lt e. none_number _ n c.in_err-value.ensures.none lt e)
