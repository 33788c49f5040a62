use Rattle.std.proofs.Common.{◌∷◌, ◌++◌, ◌+◌, [], length, arith, ap, refl}
use Rattle.std.proofs.lemmas.List.{length-drop}
use Rattle.journal.proofs.RecordLemmas.{reads_on}
use Rattle.journal.proofs.inspection.whole_len.Goals as goal

pub loop-payload-preserved : goal.loop-payload-preserved
loop-payload-preserved c =
    let p = c.in-Some.payload.now in
    let rest = c.loop-payload.rest.now in
    let i = c.loop-payload.invariant in
    let within = i.0 in
    let some = c.in-Some.ensures.some in
    let more = reads_on c.args.bytes.now rest c.split_at.result.1.now p i.1 (i.1 ++ p ∷ []) i.2 i.3 some.0 some.1 c.split_at.ensures.back refl in (
      omega (arith, ap length c.split_at.ensures.back, length-drop (8 + length p) rest),
      i.1 ++ p ∷ [],
      more.0,
      more.1,
    )
