use Rattle.std.proofs.Common.{◌<◌, ℕ, get_or, ◌∙◌, arith}
use Rattle.std.proofs.lemmas.Result.{err_from_is_err_and}
use Rattle.insn_codec.proofs.Bytes.{narrow_begins, wide_found, no_high, half_fault}
use Rattle.insn_codec.proofs.decoder.first_insn.Goals as goal
use Rattle.insn_codec.proofs.decoder.first_insn.Goals.{in-LoadWide+in_ok-high-in-LoadWide, in_default}

pub returns-in_err-high-in-LoadWide-clause-fault : goal.returns-in_err-high-in-LoadWide-clause-fault
returns-in_err-high-in-LoadWide-clause-fault c =
    let p = err_from_is_err_and c.from_residual-in_err-high-in-LoadWide.result c.from_residual-in_err-high-in-LoadWide.ensures.1 in
    rw (p.1, p.2) (half_fault _ c.args.rest.now _ c.in_ok-operation.operation _ c.read_slot-slot.ensures c.split_at.ensures.back c.in-LoadWide.is c.in_ok-operation.ensures c.in_err-high-in-LoadWide.ensures)

pub returns-clause-found : goal.returns-clause-found
returns-clause-found c =
    let first = c.insn_from.ensures.first ∙ c.read_slot-slot.ensures in
    let fits : (i : ℕ) → get_or c.args.rest.now i 0 < 256 = λ i. omega (arith, c.type_inv.rest i) in
    elim c.match-operation.branch [
      | in-LoadWide+in_ok-high-in-LoadWide w ↦ wide_found _ _ _ _ _ _ c.insn_from.ensures.fits first c.insn_from.ensures.others w.in-LoadWide.is w.high-is w.split_at.ensures.back fits (omega arith) w.in_ok-high-in-LoadWide.ensures
      | in_default w ↦ narrow_begins _ _ c.insn_from.ensures.fits first (c.insn_from.ensures.others ∙ no_high _ _ w.in_default.not-LoadWide) fits (omega arith)
    ]
