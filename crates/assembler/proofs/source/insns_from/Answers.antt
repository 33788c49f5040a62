use Rattle.std.proofs.Common.{◌+◌, ℕ, List, length, subst, ap, arith}
use Rattle.std.proofs.lemmas.List.{length-append}
use Rattle.std.proofs.lemmas.Result.{err_from_is_err_and}
use Rattle.assembler.specs.declared.fault.TextFault.TheVariants as fault
use Rattle.assembler.specs.Source.{source_lines}
use Rattle.assembler.proofs.SourceLines.{IsPartly, partly_at, left_none, left_some, said, more, finish, stop}
use Rattle.assembler.proofs.source.insns_from.Goals as goal

pub returns-in_err-insn_of-clause-refused : goal.returns-in_err-insn_of-clause-refused
returns-in_err-insn_of-clause-refused c =
    let here = partly_at _ _ _ _ _ _ c.split_before.ensures.whole c.split_before.ensures.front c.split_before.ensures.back c.loop-insns.invariant.partly in
    let p = err_from_is_err_and c.from_residual.result c.from_residual.ensures.1 in
    rw p.1 (rw p.2 (stop _ _ _ _ _ here _ c.in_err-insn_of.ensures.refused))

pub returns-in_err-insns-clause-refused : goal.returns-in_err-insns-clause-refused
returns-in_err-insns-clause-refused c =
    let here = partly_at _ _ _ _ _ _ c.split_before.ensures.whole c.split_before.ensures.front c.split_before.ensures.back c.loop-insns.invariant.partly in
    let p = err_from_is_err_and c.from_residual-in_err-insns.result c.from_residual-in_err-insns.ensures.1 in
    let some = said c.split_before.result.0.now _ c.in_ok-insn_of.ensures.said c.in_err-insns.ensures.refused in
    rw p.1 (rw p.2 (stop _ _ _ _ _ here fault.NoMemory (record { some = some; told = tt })))

pub returns-then-is_empty-clause-found : goal.returns-then-is_empty-clause-found
returns-then-is_empty-clause-found c =
    let here = partly_at _ _ _ _ _ _ c.split_before.ensures.whole c.split_before.ensures.front c.split_before.ensures.back c.loop-insns.invariant.partly in
    let next = more _ _ _ _ _ _ _ here c.in_ok-insn_of.ensures.said c.in_ok-insns.ensures.more in
    finish _ _ _ (subst (λ (l : List (List ℕ)). IsPartly (source_lines c.args.source.now) (c.loop-insns.number + 1) l c.in_ok-insns.insns.items) (left_none c.split_before.result.1.now c.if-is_empty.ensures) next)

pub loop-insns-preserved : goal.loop-insns-preserved
loop-insns-preserved c =
    let here = partly_at _ _ _ _ _ _ c.split_before.ensures.whole c.split_before.ensures.front c.split_before.ensures.back c.loop-insns.invariant.partly in
    let next = more _ _ _ _ _ _ _ here c.in_ok-insn_of.ensures.said c.in_ok-insns.ensures.more in
    let left = left_some c.split_before.result.1.now c.split_at.result.1.now c.if-is_empty.ensures c.split_at.ensures.back in
    record {
      partly = subst (λ (l : List (List ℕ)). IsPartly (source_lines c.args.source.now) (c.loop-insns.number + 1) l c.in_ok-insns.insns.items) left.0 next;
      count = omega (arith, c.loop-insns.invariant.count, left.1, ap length c.split_before.ensures.whole, length-append c.split_before.result.0.now c.split_before.result.1.now);
    }
