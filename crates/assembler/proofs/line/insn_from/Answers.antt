use Rattle.assembler.proofs.Splits.{no_line, tail_is, line_found, line_none}
use Rattle.assembler.proofs.line.insn_from.Goals as goal

pub returns-in_err-word-clause-none : goal.returns-in_err-word-clause-none
returns-in_err-word-clause-none c = rw c.from_residual.ensures (λ insn f e. no_line _ _ _ c.split_before.ensures.whole c.split_before.ensures.front c.split_before.ensures.back c.in_err-word.ensures.none insn e)

pub returns-in_default-word : goal.returns-in_default-word
returns-in_default-word c =
    let behind = tail_is _ _ c.split_before.ensures.back c.if-is_empty.ensures c.split_at.ensures.back in
    record {
      found = line_found _ _ _ _ _ c.split_before.ensures.whole c.split_before.ensures.front c.split_before.ensures.back c.in_ok-word.ensures.found c.in_default-word.not-Exit behind _ c.insn_with.ensures;
      none = line_none _ _ _ _ _ c.split_before.ensures.whole c.split_before.ensures.front c.split_before.ensures.back c.in_ok-word.ensures.found c.in_default-word.not-Exit behind _ c.insn_with.ensures;
    }
