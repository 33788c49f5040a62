use Rattle.std.proofs.Common.{true≢false, ◌∙◌, sym, eq-eqb}
use Rattle.bpfjobs_cli.proofs.ResultLemmas.{one_byte_more, shorter_differs}
use Rattle.bpfjobs_cli.proofs.result_check.first_difference.Goals as goal

pub bytes-preserved : goal.bytes-preserved
bytes-preserved c =
    one_byte_more c.args.given.now c.args.expected.now c.bytes.left.now c.bytes.right.now _ _ c.in-Some.byte.now c.in-Some-split_first.wanted.now c.bytes.at c.bytes.invariant
    c.in-Some.ensures.cases.0 c.in-Some-split_first.ensures.cases.0 c.if-byte-wanted.false

pub returns-else-is_empty : goal.returns-else-is_empty
returns-else-is_empty c =
    shorter_differs c.args.given.now c.args.expected.now c.bytes.left.now c.bytes.right.now c.bytes.at c.bytes.invariant c.in_default.ensures.cases
    (λ none. true≢false (sym (eq-eqb _ _ none) ∙ sym c.is_empty.ensures ∙ c.if-is_empty.false))
