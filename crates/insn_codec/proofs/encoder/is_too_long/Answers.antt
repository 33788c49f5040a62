use Rattle.std.proofs.Common.{◌≡◌, ◌<◌, ◌+◌, ◌++◌, ◌∷◌, [], length, take, ap, refl, sym, ◌∙◌, arith}
use Rattle.std.proofs.lemmas.List.{take_more}
use Rattle.insn_codec.specs.Spelling.{spellings}
use Rattle.insn_codec.proofs.Bytes.{spelled_front, counted_more}
use Rattle.insn_codec.proofs.encoder.is_too_long.Goals as goal

pub returns-then-slots-gt-MAX_SLOTS : goal.returns-then-slots-gt-MAX_SLOTS
returns-then-slots-gt-MAX_SLOTS c =
    let insns = c.args.insns.now in
    let i = c.loop-insn.insn-index in
    let insn = c.insn-item.result in
    let more : take (i + 1) insns ≡ take i insns ++ insn ∷ [] = take_more insns i insn (omega arith) ∙ ap (λ x. take i insns ++ x ∷ []) (sym c.insn-item.is) in
    let counted = counted_more (take i insns) (take (i + 1) insns) insn more in
    let long : 32768 < length (spellings insns) = omega (arith, counted, c.loop-insn.invariant.counted, c.slots-slots.ensures.value, spelled_front insns (i + 1), c.if-slots-gt-MAX_SLOTS.true) in
    (λ _. long, λ _. refl)
