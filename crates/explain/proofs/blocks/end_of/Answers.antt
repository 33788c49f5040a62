use Rattle.std.proofs.Common.{◌≡◌, ◌<◌, ◌+◌, ◌-◌, ℕ, inl, inr, rules, arith, length, slice_index, subst, sym}
use Rattle.machine_model.specs.Edges.{Begins}
use Rattle.explain.specs.Blocks.{IsStraight, slots_in}
use Rattle.std.proofs.lemmas.Bool.{cases_lt}
use Rattle.explain.proofs.BlockLemmas.{slots_long}
use Rattle.explain.proofs.blocks.end_of.Goals as goal

pub is_straight-requires-clause-begins : goal.is_straight-requires-clause-begins
is_straight-requires-clause-begins c =
    let within : c.loop-end.end - 1 < length (slots_in c.args.placed.now) = omega (arith, slots_long c.args.placed.now, c.loop-end-test.true, c.loop-end.invariant.some) in
    subst (Begins c.args.graph.now.code) (sym c.slot_at.ensures) (c.requires.begun (c.loop-end.end - 1) within)

pub loop-end-preserved : goal.loop-end-preserved
loop-end-preserved c =
    let found : IsStraight c.args.graph.now.code c.slot_at.result c.slot_at-in-loop-end.result = search rules in
    let here : IsStraight c.args.graph.now.code (slice_index (slots_in c.args.placed.now) (c.loop-end.end - 1)) (slice_index (slots_in c.args.placed.now) c.loop-end.end) =
    rw (c.slot_at.ensures, c.slot_at-in-loop-end.ensures) at found in record {
      some = omega (arith, c.loop-end.invariant.some);
      within = omega (arith, c.loop-end-test.true);
      straight = λ k ge lt. elim (cases_lt (k + 1) c.loop-end.end) [
        | inl low ↦ c.loop-end.invariant.straight k ge low
        | inr last ↦
            let first : c.loop-end.end - 1 ≡ k = omega (arith, last, lt, c.loop-end.invariant.some) in
            let second : c.loop-end.end ≡ k + 1 = omega (arith, last, lt) in
            subst (λ (n : ℕ). IsStraight c.args.graph.now.code (slice_index (slots_in c.args.placed.now) k) (slice_index (slots_in c.args.placed.now) n)) second
            (subst (λ (n : ℕ). IsStraight c.args.graph.now.code (slice_index (slots_in c.args.placed.now) n) (slice_index (slots_in c.args.placed.now) c.loop-end.end)) first here)
      ];
    }
