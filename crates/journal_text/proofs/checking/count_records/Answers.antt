use Rattle.std.proofs.Common.{◌∷◌, ◌++◌, ◌+◌, [], length, arith, ap, refl}
use Rattle.std.proofs.lemmas.List.{length-append, length-drop}
use Rattle.journal.proofs.RecordLemmas.{reads_on}
use Rattle.journal_text.proofs.checking.count_records.Goals as goal

pub loop-payload-preserved : goal.loop-payload-preserved
loop-payload-preserved c =
    let p = c.in-Some.payload.now in
    let rest = c.loop-payload.rest.now in
    let i = c.loop-payload.invariant in
    let within = i.0 in
    let few = i.1 in
    let count = i.5 in
    let some = c.in-Some.ensures.some in
    let there = c.in-Some.ensures.within in
    let more = reads_on c.args.bytes.now rest c.split_at.result.1.now p i.2 (i.2 ++ p ∷ []) i.3 i.4 some.0 some.1 c.split_at.ensures.back refl in (
      omega (arith, ap length c.split_at.ensures.back, length-drop (8 + length p) rest, within),
      omega (arith, ap length c.split_at.ensures.back, length-drop (8 + length p) rest, few, there),
      i.2 ++ p ∷ [],
      more.0,
      more.1,
      omega (arith, count, length-append i.2 (p ∷ [])),
    )
