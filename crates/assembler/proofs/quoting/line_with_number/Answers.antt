use Rattle.std.proofs.Common.{◌+◌, ◌∙◌, List, ℕ, length, ap, sym, arith}
use Rattle.std.proofs.lemmas.List.{length-append}
use Rattle.assembler.specs.Source.{numbered}
use Rattle.assembler.specs.Quoted.{line_numbered}
use Rattle.assembler.proofs.SourceLines.{left_none, left_some}
use Rattle.assembler.proofs.QuoteLemmas.{here_none, here_some, elsewhere, cut_texts, stripped_text}
use Rattle.assembler.proofs.quoting.line_with_number.Goals as goal

pub returns-then-is_empty-clause-said : goal.returns-then-is_empty-clause-said
returns-then-is_empty-clause-said c =
    let blank = rw c.stripped_line-said.ensures at c.if-is_empty.ensures in
    sym (c.loop-at.invariant.found ∙ here_none _ _ _ c.split_before.ensures.whole c.split_before.ensures.front c.split_before.ensures.back c.args.number c.loop-at.at c.if-at-number.true blank)

pub returns-else-is_empty-clause-said : goal.returns-else-is_empty-clause-said
returns-else-is_empty-clause-said c =
    let says = rw c.stripped_line-said.ensures at c.if-is_empty.ensures in
    rw c.stripped_line-said.ensures (sym (c.loop-at.invariant.found ∙ here_some _ _ _ c.split_before.ensures.whole c.split_before.ensures.front c.split_before.ensures.back c.args.number c.loop-at.at c.if-at-number.true says))

pub returns-else-is_empty-clause-text : goal.returns-else-is_empty-clause-text
returns-else-is_empty-clause-text c = λ u. rw c.stripped_line-said.ensures (stripped_text _ (cut_texts 10 _ _ _ (omega arith) c.split_before.ensures.whole c.split_before.ensures.back (c.loop-at.invariant.text u)).0)

pub returns-then-is_empty-2-clause-said : goal.returns-then-is_empty-2-clause-said
returns-then-is_empty-2-clause-said c =
    let last = elsewhere _ _ _ c.split_before.ensures.whole c.split_before.ensures.front c.split_before.ensures.back c.args.number c.loop-at.at c.if-at-number.false in
    sym (c.loop-at.invariant.found ∙ (last ∙ ap (λ (l : List (List ℕ)). line_numbered c.args.number (numbered (c.loop-at.at + 1) l)) (left_none c.split_before.result.1.now c.if-is_empty-2.ensures)))

pub loop-at-preserved : goal.loop-at-preserved
loop-at-preserved c =
    let next = elsewhere _ _ _ c.split_before.ensures.whole c.split_before.ensures.front c.split_before.ensures.back c.args.number c.loop-at.at c.if-at-number.false in
    let left = left_some c.split_before.result.1.now c.split_at.result.1.now c.if-is_empty-2.ensures c.split_at.ensures.back in
    record {
      found = c.loop-at.invariant.found ∙ (next ∙ ap (λ (l : List (List ℕ)). line_numbered c.args.number (numbered (c.loop-at.at + 1) l)) left.0);
      count = omega (arith, c.loop-at.invariant.count, left.1, ap length c.split_before.ensures.whole, length-append c.split_before.result.0.now c.split_before.result.1.now);
      text = λ u. rw c.split_at.ensures.back (cut_texts 10 _ _ _ (omega arith) c.split_before.ensures.whole c.split_before.ensures.back (c.loop-at.invariant.text u)).1;
    }
