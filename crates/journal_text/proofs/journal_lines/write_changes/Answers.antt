use Rattle.std.proofs.Common.{arith, ap, length, ◌+◌, Err}
use Rattle.std.proofs.lemmas.List.{length-drop}
use Rattle.journal_text.proofs.ToldLemmas.{none_told, told_in_part, told_more, told_so_far, told_to_other, told_to_tail}
use Rattle.journal_text.proofs.journal_lines.write_changes.Goals as goal

pub loop-payload-init : goal.loop-payload-init
loop-payload-init g c = record {
  within = omega arith;
  well = c.requires;
  told = none_told c.args.bytes.now (g.W.Sink.transcript c.args.writer.now);
}

pub returns-in-Err-NoMemory-clause-stopped : goal.returns-in-Err-NoMemory-clause-stopped
returns-in-Err-NoMemory-clause-stopped g c = told_so_far c.args.bytes.now c.loop-payload.rest.now c.loop-payload.number _ _ c.loop-payload.invariant.told

pub returns-in-Err-NotAChange-clause-told : goal.returns-in-Err-NotAChange-clause-told
returns-in-Err-NotAChange-clause-told g c =
    told_to_other c.args.bytes.now c.loop-payload.rest.now c.loop-payload.number c.args.budget _ _ c.in-Some.payload.now c.loop-payload.invariant.told c.in-Some.ensures.some.0 c.in-Some.ensures.some.1
    (c.in-Err-NotAChange.ensures.refused (ap (λ f. Err f) c.in-Err-NotAChange.field-0-is))

pub returns-in-Err-clause-stopped : goal.returns-in-Err-clause-stopped
returns-in-Err-clause-stopped g c =
    told_in_part c.args.bytes.now c.loop-payload.rest.now c.loop-payload.number c.in-Some.payload.now c.in-Ok.change c.loop-payload.invariant.within c.in-Some.ensures.some.0 c.in-Some.ensures.some.1 c.in-Some.ensures.within
    c.in-Ok.ensures.found _ _ _ c.in-Err.ensures.err.0 c.loop-payload.invariant.told c.in-Err.ensures.err.1

pub loop-payload-preserved : goal.loop-payload-preserved
loop-payload-preserved g c =
    let rest = c.loop-payload.rest.now in
    let payload = c.in-Some.payload.now in
    let within = c.loop-payload.invariant.within in
    let there = c.in-Some.ensures.within in
    let next = c.in-Ok-write_change.ensures.next in
    record {
      within = omega (arith, ap length c.split_at.ensures.back, length-drop (8 + length payload) rest, within);
      well = c.in-Ok-write_change.ensures.well;
      told = told_more c.args.bytes.now rest c.loop-payload.number payload c.in-Ok.change within c.in-Some.ensures.some.0 c.in-Some.ensures.some.1 there c.in-Ok.ensures.found
          c.split_at.result.1.now _ _ _ _ c.loop-payload.invariant.told c.split_at.ensures.back next c.in-Ok-write_change.ensures.ok;
    }

pub returns-clause-told : goal.returns-clause-told
returns-clause-told g c =
    told_to_tail c.args.bytes.now c.loop-payload.rest.now c.loop-payload.number c.args.budget _ _ _ c.loop-payload.invariant.told c.in_default.ensures.none c.inspect_tail-kind.ensures
