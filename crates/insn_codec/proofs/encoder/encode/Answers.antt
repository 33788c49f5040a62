use Rattle.std.proofs.Common.{◌≡◌, take, ap, ◌∙◌, arith}
use Rattle.std.proofs.lemmas.Bool.Decides.{nat_tests}
use Rattle.std.proofs.lemmas.List.{take_all}
use Rattle.std.proofs.lemmas.Result.{err_from_is_err_and}
use Rattle.insn_codec.specs.Spelling.{spellings, IsWhole}
use Rattle.insn_codec.proofs.Bytes.{whole_of}
use Rattle.insn_codec.proofs.encoder.encode.Goals as goal

pub returns-in_err-push_insn-clause-refused : goal.returns-in_err-push_insn-clause-refused
returns-in_err-push_insn-clause-refused c =
    let p = err_from_is_err_and c.from_residual.result c.from_residual.ensures.1 in
    let whole : IsWhole (spellings c.args.insns.now) = whole_of c.args.insns.now (omega arith) (λ h. let e = c.if-is_too_long.ensures.1 h in absurd cc) in
    rw (p.1, p.2) whole

pub returns-clause-found : goal.returns-clause-found
returns-clause-found c =
    let insns = c.args.insns.now in
    let whole : take c.loop-insn.insn-index insns ≡ insns = take_all _ _ (omega arith) in
    let e : c.loop-insn.bytes.items ≡ spellings insns = c.loop-insn.invariant.written ∙ ap spellings whole in
    let w : IsWhole (spellings insns) = whole_of insns (grind (arith, nat_tests)) (λ h. let e = c.if-is_too_long.ensures.1 h in absurd cc) in
    (e, rw e w)
