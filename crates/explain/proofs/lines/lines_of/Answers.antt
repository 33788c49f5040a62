use Rattle.std.proofs.Common.{◌≡◌, ◌+◌, ◌++◌, ℕ, List, length, map, subst, ap, arith}
use Rattle.std.proofs.lemmas.List.{length-append}
use Rattle.assembler.specs.Source.{numbered, source_lines}
use Rattle.assembler.proofs.SourceLines.{left_none, left_some}
use Rattle.explain.specs.Lines.{numbered_text}
use Rattle.explain.proofs.LineLemmas.{finish, more}
use Rattle.explain.proofs.lines.lines_of.Goals as goal

pub returns-then-is_empty : goal.returns-then-is_empty
returns-then-is_empty c =
    let found = rw c.stripped_line.ensures at c.in_ok-lines.ensures in
    let next = more _ _ _ _ _ _ _ c.split_before.ensures.whole c.split_before.ensures.front c.split_before.ensures.back c.loop-lines.invariant.parts found in
    finish _ _ _ _ next (left_none c.split_before.result.1.now c.if-is_empty.ensures)

pub loop-lines-preserved : goal.loop-lines-preserved
loop-lines-preserved c =
    let found = rw c.stripped_line.ensures at c.in_ok-lines.ensures in
    let next = more _ _ _ _ _ _ _ c.split_before.ensures.whole c.split_before.ensures.front c.split_before.ensures.back c.loop-lines.invariant.parts found in
    let left = left_some c.split_before.result.1.now c.split_at.result.1.now c.if-is_empty.ensures c.split_at.ensures.back in
    record {
      parts = subst (λ (l : List (List ℕ)). source_lines c.args.source.now ≡ map numbered_text c.in_ok-lines.lines.items ++ numbered (c.loop-lines.number + 1) l) left.0 next;
      count = omega (arith, c.loop-lines.invariant.count, left.1, ap length c.split_before.ensures.whole, length-append c.split_before.result.0.now c.split_before.result.1.now);
    }
