use Rattle.std.proofs.Common.{◌∷◌, ap, sym, ◌∙◌, arith}
use Rattle.assembler.proofs.Values.{imm_negative, cons_drop}
use Rattle.assembler.proofs.reading.imm_from.Goals as goal

pub returns-then-text-eq45 : goal.returns-then-text-eq45
returns-then-text-eq45 c = imm_negative _ _ _ (cons_drop _ 45 (omega arith) c.if-text-eq45.true ∙ ap (λ x. 45 ∷ x) (sym c.split_at.ensures.back)) c.negative_from.ensures
