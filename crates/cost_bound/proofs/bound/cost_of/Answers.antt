use Rattle.std.proofs.Common.{◌+◌, ◌*◌, ◌≤◌, ◌<◌, length, refl, sym, arith, slice_index}
use Rattle.machine_model.specs.Edges.{Always, NotTaken, Taken}
use Rattle.cost_bound.proofs.Steps.{cost_zero, cost_one, cost_two, cost_over, few_over, at_begins, at_within, is_there}
use Rattle.cost_bound.proofs.bound.cost_of.Goals as goal
use Rattle.cost_bound.proofs.bound.cost_of.Goals.{in-Zero, in-One, in-Two}

pub prove-unreachable-requires : goal.prove-unreachable-requires
prove-unreachable-requires c =
    let lt : slice_index c.args.graph.now.order c.args.place < length c.args.graph.now.code = at_within c.args.graph.now c.args.place c.slots-slots.ensures.flow c.requires.place in
    let past = rw c.order.ensures.order at c.if-prove.true in
    omega (arith, past, c.slots-slots.ensures.slots)

pub unwrap-insn-requires : goal.unwrap-insn-requires
unwrap-insn-requires c =
    let begins = at_begins c.args.graph.now c.args.place c.slots-slots.ensures.flow c.requires.place in
    is_there _ _ begins.0 (rw c.order.ensures.order at c.insn.ensures) begins.1

pub overflow_add-result : goal.overflow_add-result
overflow_add-result c =
    let few : c.match-successors.onward + 32 * c.args.place + 32 ≤ 32 * length c.args.graph.now.order = elim c.match-successors.branch [
      | in-Zero w ↦ rw w.onward-is (omega (arith, c.requires.place))
      | in-One w ↦
          let next = rw c.order.ensures.order at w.in-One.ensures in
          rw w.onward-is (few_over c.args.graph.now c.args.table.now c.args.place (slice_index c.args.graph.now.order c.args.place) w.in-One.to Always c.slots-slots.ensures.flow c.requires.later c.requires.place refl next.0)
      | in-Two w ↦
          let next = rw c.order.ensures.order at w.in-Two.ensures in
          let left : slice_index c.args.table.now w.in-Two.following + 32 * c.args.place + 32 ≤ 32 * length c.args.graph.now.order =
          (few_over c.args.graph.now c.args.table.now c.args.place (slice_index c.args.graph.now.order c.args.place) w.in-Two.following NotTaken c.slots-slots.ensures.flow c.requires.later c.requires.place refl next.1) in
          let right : slice_index c.args.table.now w.in-Two.to + 32 * c.args.place + 32 ≤ 32 * length c.args.graph.now.order =
          (few_over c.args.graph.now c.args.table.now c.args.place (slice_index c.args.graph.now.order c.args.place) w.in-Two.to Taken c.slots-slots.ensures.flow c.requires.later c.requires.place refl next.2) in
          rw (w.onward-is, w.max-onward.ensures) (omega (arith, left, right))
    ] in
    omega (arith, few, c.price.ensures.most, c.slots-slots.ensures.flow.short, c.slots-slots.ensures.flow.joined.few)

pub returns-clause-few : goal.returns-clause-few
returns-clause-few c =
    let few : c.match-successors.onward + 32 * c.args.place + 32 ≤ 32 * length c.args.graph.now.order = elim c.match-successors.branch [
      | in-Zero w ↦ rw w.onward-is (omega (arith, c.requires.place))
      | in-One w ↦
          let next = rw c.order.ensures.order at w.in-One.ensures in
          rw w.onward-is (few_over c.args.graph.now c.args.table.now c.args.place (slice_index c.args.graph.now.order c.args.place) w.in-One.to Always c.slots-slots.ensures.flow c.requires.later c.requires.place refl next.0)
      | in-Two w ↦
          let next = rw c.order.ensures.order at w.in-Two.ensures in
          let left : slice_index c.args.table.now w.in-Two.following + 32 * c.args.place + 32 ≤ 32 * length c.args.graph.now.order =
          (few_over c.args.graph.now c.args.table.now c.args.place (slice_index c.args.graph.now.order c.args.place) w.in-Two.following NotTaken c.slots-slots.ensures.flow c.requires.later c.requires.place refl next.1) in
          let right : slice_index c.args.table.now w.in-Two.to + 32 * c.args.place + 32 ≤ 32 * length c.args.graph.now.order =
          (few_over c.args.graph.now c.args.table.now c.args.place (slice_index c.args.graph.now.order c.args.place) w.in-Two.to Taken c.slots-slots.ensures.flow c.requires.later c.requires.place refl next.2) in
          rw (w.onward-is, w.max-onward.ensures) (omega (arith, left, right))
    ] in
    omega (arith, few, c.price.ensures.most)

pub returns-clause-cost : goal.returns-clause-cost
returns-clause-cost c =
    let insn = sym (rw (c.unwrap-insn.ensures, c.order.ensures.order) at c.insn.ensures) in
    elim c.match-successors.branch [
      | in-Zero w ↦
          let next = rw c.order.ensures.order at w.in-Zero.ensures in
          rw (c.price.ensures.price, w.onward-is)
          (cost_zero c.args.graph.now.code (slice_index c.args.graph.now.order c.args.place) c.unwrap-insn.result.now insn next)
      | in-One w ↦
          let next = rw c.order.ensures.order at w.in-One.ensures in
          rw (c.price.ensures.price, w.onward-is)
          (cost_one c.args.graph.now.code (slice_index c.args.graph.now.order c.args.place) c.unwrap-insn.result.now w.in-One.to (slice_index c.args.table.now w.in-One.to) insn next
          (cost_over c.args.graph.now c.args.table.now c.args.place (slice_index c.args.graph.now.order c.args.place) w.in-One.to Always c.slots-slots.ensures.flow c.requires.later c.requires.place refl next.0))
      | in-Two w ↦
          let next = rw c.order.ensures.order at w.in-Two.ensures in
          rw (c.price.ensures.price, w.onward-is, w.max-onward.ensures)
          (cost_two c.args.graph.now.code (slice_index c.args.graph.now.order c.args.place) c.unwrap-insn.result.now w.in-Two.following w.in-Two.to
          (slice_index c.args.table.now w.in-Two.following) (slice_index c.args.table.now w.in-Two.to) insn next
          (cost_over c.args.graph.now c.args.table.now c.args.place (slice_index c.args.graph.now.order c.args.place) w.in-Two.following NotTaken c.slots-slots.ensures.flow c.requires.later c.requires.place refl next.1)
          (cost_over c.args.graph.now c.args.table.now c.args.place (slice_index c.args.graph.now.order c.args.place) w.in-Two.to Taken c.slots-slots.ensures.flow c.requires.later c.requires.place refl next.2))
    ]
