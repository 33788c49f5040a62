use Rattle.std.proofs.lemmas.Result.{err_from_is_err_and}
use Rattle.reference.specs.Records.{state_of}
use Rattle.reference.proofs.RunLemmas.{same_error}
use Rattle.reference.proofs.runs.change.Goals as goal

pub returns-in_ok-end_task-in-Ends-clause-value : goal.returns-in_ok-end_task-in-Ends-clause-value
returns-in_ok-end_task-in-Ends-clause-value c = λ j n same. rw c.in-Ends.is (c.in_ok-end_task-in-Ends.ensures.value j n same c.args.refuses)

pub returns-in_ok-bear_child-in-Spawns-clause-value : goal.returns-in_ok-bear_child-in-Spawns-clause-value
returns-in_ok-bear_child-in-Spawns-clause-value c = λ j n same.
    rw (c.in-Spawns.is, c.if-refuses.false) (c.in_ok-bear_child-in-Spawns.ensures.value j n same (state_of c.in-Spawns.refused))

pub returns-in_err-bear_child-in-Spawns-clause-far : goal.returns-in_err-bear_child-in-Spawns-clause-far
returns-in_err-bear_child-in-Spawns-clause-far c = λ is.
    let p = err_from_is_err_and c.from_residual-in_err-bear_child-in-Spawns.result c.from_residual-in_err-bear_child-in-Spawns.ensures.1 in
    rw (c.in-Spawns.is, c.if-refuses.false) (c.in_err-bear_child-in-Spawns.ensures.far (same_error _ _ _ _ p.1 p.2 is))
