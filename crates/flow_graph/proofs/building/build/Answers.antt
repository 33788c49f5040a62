use Rattle.std.proofs.Common.{◌∙◌, arith}
use Rattle.std.proofs.lemmas.List.{length-reverse}
use Rattle.flow_graph.proofs.CodeLemmas.{laid_of}
use Rattle.flow_graph.proofs.Joining.{joined_of}
use Rattle.flow_graph.proofs.OrderLemmas.{no_cycle}
use Rattle.flow_graph.proofs.building.build.Goals as goal

pub slots_in_turn-requires : goal.slots_in_turn-requires
slots_in_turn-requires c = rw (c.deref-2.ensures.value, c.in_ok-code.ensures)
    (joined_of _ (laid_of _ c.requires) (rw (c.deref.ensures.value, c.in_ok-code.ensures) at c.in_default.ensures))

pub of-requires : goal.of-requires
of-requires c =
    let found = rw (c.in-Some-2.is, c.deref-2.ensures.value, c.in_ok-code.ensures) at c.in_ok-order.ensures in
    rw c.in_ok-code.ensures (record {
      joined = joined_of _ (laid_of _ c.requires) (rw (c.deref.ensures.value, c.in_ok-code.ensures) at c.in_default.ensures);
      order = found.order;
      short = found.short;
      reached = found.reached;
    })

pub returns-in-Some-2 : goal.returns-in-Some-2
returns-in-Some-2 c =
    let found = rw (c.in-Some-2.is, c.deref-2.ensures.value, c.in_ok-code.ensures) at c.in_ok-order.ensures in
    record {
      same = c.of.ensures.code ∙ c.in_ok-code.ensures;
      faultless = rw (c.deref.ensures.value, c.in_ok-code.ensures) at c.in_default.ensures;
      order = rw c.of.ensures.order found.order;
      reached = found.reached;
    }

pub walk_all-requires : goal.walk_all-requires
walk_all-requires c = rw (c.deref-3.ensures.value, c.in_ok-code.ensures)
    (joined_of _ (laid_of _ c.requires) (rw (c.deref.ensures.value, c.in_ok-code.ensures) at c.in_default.ensures))

pub first_on_cycle-requires-clause-joined : goal.first_on_cycle-requires-clause-joined
first_on_cycle-requires-clause-joined c = rw (c.deref-in-Cycle.ensures.value, c.in_ok-code.ensures)
    (joined_of _ (laid_of _ c.requires) (rw (c.deref.ensures.value, c.in_ok-code.ensures) at c.in_default.ensures))

pub first_unreached-requires : goal.first_unreached-requires
first_unreached-requires c = rw (c.deref-in-All.ensures.value, c.in_ok-code.ensures)
    (joined_of _ (laid_of _ c.requires) (rw (c.deref.ensures.value, c.in_ok-code.ensures) at c.in_default.ensures))

pub of-requires-in-None : goal.of-requires-in-None
of-requires-in-None c = rw (c.in_ok-code.ensures, c.order_of.ensures) (record {
  joined = joined_of _ (laid_of _ c.requires) (rw (c.deref.ensures.value, c.in_ok-code.ensures) at c.in_default.ensures);
  order = (rw (c.in-All.is, c.deref-3.ensures.value, c.in_ok-code.ensures) at c.in_ok-known.ensures).0;
  short = omega (arith, length-reverse c.in-All.walk.done.items, (rw (c.in-All.is, c.deref-3.ensures.value, c.in_ok-code.ensures) at c.in_ok-known.ensures).1);
  reached = rw (c.in-None.is, c.deref-in-All.ensures.value, c.in_ok-code.ensures) at c.in_ok-slot-in-All.ensures;
})

pub returns-in-Some-3 : goal.returns-in-Some-3
returns-in-Some-3 c = (
  rw (c.deref.ensures.value, c.in_ok-code.ensures) at c.in_default.ensures,
  λ s cycle. no_cycle _ _ s (rw (c.in-All.is, c.deref-3.ensures.value, c.in_ok-code.ensures) at c.in_ok-known.ensures).0 cycle,
  rw (c.in-Some-3.is, c.deref-in-All.ensures.value, c.in_ok-code.ensures) at c.in_ok-slot-in-All.ensures,
)

pub returns-in-None : goal.returns-in-None
returns-in-None c = record {
  same = c.of-in-None.ensures.code ∙ c.in_ok-code.ensures;
  faultless = rw (c.deref.ensures.value, c.in_ok-code.ensures) at c.in_default.ensures;
  order = rw (c.of-in-None.ensures.order, c.order_of.ensures) (rw (c.in-All.is, c.deref-3.ensures.value, c.in_ok-code.ensures) at c.in_ok-known.ensures).0;
  reached = rw (c.in-None.is, c.deref-in-All.ensures.value, c.in_ok-code.ensures) at c.in_ok-slot-in-All.ensures;
}
