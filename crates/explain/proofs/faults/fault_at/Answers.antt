use Rattle.std.proofs.Common.{◌≡◌, Some, None, slice_index_or, ap, refl, sym, arith, rules, ◌∙◌}
use Rattle.machine_model.specs.Edges.{insn_at}
use Rattle.instruction_rules.specs.Judged.{destination_left}
use Rattle.instruction_rules.proofs.StateLemmas.{refused_is, allowed_is}
use Rattle.verifier.specs.InStates.{Reached, in_state}
use Rattle.explain.specs.Arriving.{arriving, subject_of_program}
use Rattle.explain.specs.declared.arriving.Arrival.TheVariants as arrival
use Rattle.explain.proofs.FaultLemmas.{broken_is, item_there, refusal_is}
use Rattle.explain.proofs.faults.fault_at.Goals as goal

pub returns-in-Ok : goal.returns-in-Ok
returns-in-Ok c =
    let there : insn_at c.args.analyzed.now.graph.now.code c.args.slot ≡ Some c.in-Some.insn.now = search rules in
    let item : slice_index_or c.args.table.now c.args.slot arrival.Unreached ≡ arrival.Reached c.in-Reached.state =
    item_there c.args.table.now c.args.slot arrival.Unreached c.index-table-slot.result (omega (arith, c.requires.slot, c.requires.table.slots)) ∙ (sym c.index-table-slot.is ∙ c.in-Reached.is) in
    let arrives : in_state (subject_of_program c.args.analyzed.now) c.args.slot ≡ Reached c.in-Reached.state = sym (c.requires.table.each c.args.slot c.requires.slot) ∙ ap arriving item in
    let allowed = allowed_is _ (destination_left c.in-Some.insn.now c.in-Reached.state) c.in-Ok.field-0 c.in-Ok.ensures in
    broken_is (subject_of_program c.args.analyzed.now) c.args.slot c.in-Some.insn.now c.in-Reached.state there arrives None allowed.0

pub returns-in_ok-known-in-Err : goal.returns-in_ok-known-in-Err
returns-in_ok-known-in-Err c =
    let there : insn_at c.args.analyzed.now.graph.now.code c.args.slot ≡ Some c.in-Some.insn.now = search rules in
    let item : slice_index_or c.args.table.now c.args.slot arrival.Unreached ≡ arrival.Reached c.in-Reached.state =
    item_there c.args.table.now c.args.slot arrival.Unreached c.index-table-slot.result (omega (arith, c.requires.slot, c.requires.table.slots)) ∙ (sym c.index-table-slot.is ∙ c.in-Reached.is) in
    let arrives : in_state (subject_of_program c.args.analyzed.now) c.args.slot ≡ Reached c.in-Reached.state = sym (c.requires.table.each c.args.slot c.requires.slot) ∙ ap arriving item in
    let broken = refused_is _ (destination_left c.in-Some.insn.now c.in-Reached.state) c.in-Err.rule c.in-Err.ensures in (
      record {
        slot = c.args.slot;
        rule = c.in-Err.rule;
        faulty = record { insn = c.in-Some.insn.now; state = c.in-Reached.state; there = there; arrives = arrives; applies = broken };
        refusal = c.refusal_at.ensures;
        place = c.in_ok-place-in-Err.ensures;
        known = (c.in_ok-known-in-Err.known, refl, c.in_ok-known-in-Err.ensures);
      },
      refusal_is (subject_of_program c.args.analyzed.now) c.args.slot c.in-Err.rule c.refusal_at.result
          (broken_is (subject_of_program c.args.analyzed.now) c.args.slot c.in-Some.insn.now c.in-Reached.state there arrives (Some c.in-Err.rule) broken) c.refusal_at.ensures,
    )
