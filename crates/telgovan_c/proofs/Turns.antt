-- One turn more of a burst.
use Rattle.std.specs.Prelude.{◌≡◌, ℕ, zero, suc, ◌+◌, ◌<◌, List, length, set, slice_get, Some}
use Rattle.std.proofs.Common.{arith, subst, ◌∙◌}
use Rattle.machine_model.proofs.Places.{set_same, set_other}
use Rattle.verifier.specs.Checked.{Checked}
use Rattle.telgovan_c.specs.declared.runs.RunOutcome.{RunOutcome}
use Rattle.telgovan_c.specs.declared.runs.Run.{Run}
use Rattle.telgovan_c.specs.Runs.{RunsInPlace, RunInTurn, with_outcome}

-- what is told further on doesn't matter to the turns before
turns_kept : (p : Checked) (credit : ℕ) (old : List ℕ) (asked told later : List Run) (n : ℕ) (new : List ℕ) → ((k : ℕ) → k < n → slice_get later k ≡ slice_get told k) → RunInTurn p credit old asked told n new → RunInTurn p credit old asked later n new
turns_kept p credit old asked told later zero new same turns = turns
turns_kept p credit old asked told later (suc n) new same (before, turns, turn) = (
  before,
  turns_kept p credit old asked told later n before (λ k lt. same k (omega (arith, lt))) turns,
  record {
    run = turn.run;
    outcome = turn.outcome;
    there = turn.there;
    set = same n (omega arith) ∙ turn.set;
    comes = turn.comes;
  },
)

-- the turn of this number is told at its place
pub turn_more : (p : Checked) (credit : ℕ) (old : List ℕ) (asked told : List Run) (n : ℕ) (before new : List ℕ) (run : Run) (outcome : RunOutcome) → n < length told → slice_get asked n ≡ Some run → RunInTurn p credit old asked told n before → RunsInPlace p credit before new run outcome → RunInTurn p credit old asked (set told n (with_outcome run outcome)) (n + 1) new
turn_more p credit old asked told n before new run outcome within there turns comes =
    let later : List Run = set told n (with_outcome run outcome) in
    let next : suc n ≡ n + 1 = omega arith in
    subst (λ (m : ℕ). RunInTurn p credit old asked later m new) next (
      before,
      turns_kept p credit old asked told later n before (λ k lt. set_other told n k (with_outcome run outcome) (λ is. omega (arith, is, lt))) turns,
      record {
        run = run;
        outcome = outcome;
        there = there;
        set = set_same told n (with_outcome run outcome) within;
        comes = comes;
      },
    )
