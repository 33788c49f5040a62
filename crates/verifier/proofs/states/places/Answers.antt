use Rattle.std.proofs.Common.{◌≡◌, ◌+◌, ◌-◌, ◌++◌, ◌∷◌, [], ◌∙◌, ℕ, List, Option, ap, arith, replicate, Some, None}
use Rattle.std.proofs.lemmas.List.{replicate_more}
use Rattle.instruction_rules.specs.declared.state.AbsState.{AbsState}
use Rattle.instruction_rules.specs.States.{entry_state}
use Rattle.verifier.proofs.states.places.Goals as goal

pub loop-slot-preserved : goal.loop-slot-preserved
loop-slot-preserved c =
    let same : c.loop-slot.slot - 1 + 1 ≡ c.loop-slot.slot + 1 - 1 = omega (arith, c.if-prove.false) in
    record {
      items =
          c.push_reserved-in-loop-slot.ensures.items
          ∙ (ap (λ (xs : List (Option AbsState)). xs ++ None ∷ []) c.loop-slot.invariant.items
          ∙ ap (λ (xs : List (Option AbsState)). Some (entry_state c.args.need) ∷ xs)
          (replicate_more {X = Option AbsState} (c.loop-slot.slot - 1) None ∙ ap (λ (k : ℕ). replicate {A = Option AbsState} k None) same));
      room = omega (arith, c.loop-slot.invariant.room, c.push_reserved-in-loop-slot.ensures.capacity);
    }
