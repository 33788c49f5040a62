use Rattle.std.proofs.Common.{◌≡◌, ◌<◌, ◌-◌, ℕ, ap, arith, length, slice_index, subst, sym, ◌∙◌}
use Rattle.machine_model.specs.Edges.{Begins}
use Rattle.machine_model.specs.Paths.{IsCost}
use Rattle.machine_model.proofs.Codes.{begins_within}
use Rattle.flow_graph.specs.Flow.{AreNext}
use Rattle.verifier.specs.InStates.{InState, in_state}
use Rattle.explain.specs.declared.arriving.Arrival.TheVariants as arrival
use Rattle.explain.specs.Arriving.{arriving, subject_of_program}
use Rattle.explain.specs.Blocks.{IsToldOf, slots_in}
use Rattle.explain.proofs.BlockLemmas.{slots_long}
use Rattle.explain.proofs.FaultLemmas.{item_there}
use Rattle.explain.proofs.blocks.block_from.Goals as goal

pub at-requires : goal.at-requires
at-requires c =
    let first : c.args.first < length (slots_in c.args.placed.now) = omega (arith, slots_long c.args.placed.now, c.requires.first) in
    let within = begins_within c.args.analyzed.now.graph.now.code _ (c.requires.begun c.args.first first) in
    rw c.slot_at-head.ensures (omega (arith, within, c.requires.costs.slots))

pub bounds-table-head : goal.bounds-table-head
bounds-table-head c =
    let first : c.args.first < length (slots_in c.args.placed.now) = omega (arith, slots_long c.args.placed.now, c.requires.first) in
    let within = begins_within c.args.analyzed.now.graph.now.code _ (c.requires.begun c.args.first first) in
    rw c.slot_at-head.ensures (omega (arith, within, c.requires.table.slots))

pub successors-requires : goal.successors-requires
successors-requires c =
    let last : c.end_of-end.result - 1 < length (slots_in c.args.placed.now) = omega (arith, slots_long c.args.placed.now, c.end_of-end.ensures.some, c.end_of-end.ensures.within) in
    subst (Begins c.args.analyzed.now.graph.now.code) (sym c.slot_at-last.ensures) (c.requires.begun (c.end_of-end.result - 1) last)

pub returns-clause-block : goal.returns-clause-block
returns-clause-block c =
    let first : c.args.first < length (slots_in c.args.placed.now) = omega (arith, slots_long c.args.placed.now, c.requires.first) in
    let begins = c.requires.begun c.args.first first in
    let within = begins_within c.args.analyzed.now.graph.now.code _ begins in
    let cost : c.at.result ≡ slice_index c.args.costs.now (slice_index (slots_in c.args.placed.now) c.args.first) = rw c.slot_at-head.ensures at c.at.ensures in
    let read : arriving c.index-table-head.result ≡ in_state (subject_of_program c.args.analyzed.now) c.slot_at-head.result =
    ap arriving (c.index-table-head.is
    ∙ sym (item_there c.args.table.now c.slot_at-head.result arrival.Unreached c.index-table-head.result (rw c.slot_at-head.ensures (omega (arith, within, c.requires.table.slots)))))
    ∙ c.requires.table.each c.slot_at-head.result (rw c.slot_at-head.ensures within) in record {
      some = c.end_of-end.ensures.some;
      within = omega (arith, slots_long c.args.placed.now, c.end_of-end.ensures.within);
      straight = c.end_of-end.ensures.straight;
      ceases = rw (slots_long c.args.placed.now) c.end_of-end.ensures.ceases;
      cost = subst (IsCost c.args.analyzed.now.graph.now.code (slice_index (slots_in c.args.placed.now) c.args.first)) (sym cost) (c.requires.costs.each _ begins);
      known = subst (λ (s : ℕ). IsToldOf (in_state (subject_of_program c.args.analyzed.now) s) c.known_of.result) c.slot_at-head.ensures
          (subst (λ (a : InState). IsToldOf a c.known_of.result) read c.known_of.ensures);
      next = subst (λ (s : ℕ). AreNext c.args.analyzed.now.graph.now.code s c.successors.result) c.slot_at-last.ensures c.successors.ensures;
    }
