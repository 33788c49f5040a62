use Rattle.std.proofs.Common.{◌≡◌, ◌∷◌, ◌++◌, [], rules, arith}
use Rattle.insn_codec.proofs.Bytes.{turn}
use Rattle.insn_codec.proofs.decoder.decode.Goals as goal

pub loop-rest-preserved : goal.loop-rest-preserved
loop-rest-preserved c =
    let i = c.loop-rest.invariant in
    let items : c.push_reserved.new.self.items ≡ c.loop-rest.placed.items ++ record { slot = c.loop-rest.slot; insn = c.in-Ok.insn } ∷ [] = search rules in
    let t = turn _ _ _ _ _ _ _ c.in-Ok.insn i.parts i.place i.slots i.even i.fit (c.in-Ok.ensures.found) c.slots-slots.ensures.value items c.split_at.ensures.back in
    record { parts = t.0; place = t.1; slots = t.2; even = t.3; fit = t.4; room = omega (arith, i.room, c.push_reserved.ensures.len, c.push_reserved.ensures.capacity, c.slots-slots.ensures.value, c.split_at.ensures.back_len, c.in-Ok.ensures.found) }
