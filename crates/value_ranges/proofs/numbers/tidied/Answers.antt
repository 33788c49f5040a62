use Rattle.std.proofs.Common.{sym, ◌∙◌, rules}
use Rattle.value_ranges.proofs.SignedLemmas.{tidied_is}
use Rattle.value_ranges.proofs.numbers.tidied.Goals as goal

pub returns-in-Some-cut_unsigned : goal.returns-in-Some-cut_unsigned
returns-in-Some-cut_unsigned c =
    tidied_is c.args.n c.in-Some.first c.in-Some-cut_unsigned.second _ (search rules)
    (sym c.in-Some-cut_unsigned.is ∙ c.cut_unsigned.ensures) (sym c.in-Some.is ∙ c.cut_signed.ensures)
