use Rattle.std.proofs.Common.{Ok, ap, arith}
use Rattle.run_trace.proofs.tree.tree_of.Goals as goal

pub returns-in-Traps-clause-tree : goal.returns-in-Traps-clause-tree
returns-in-Traps-clause-tree c = λ tasks comes.
    let never = rw c.deref.ensures.value at (c.in_ok-tasks.ensures.traps (ap Ok c.in-Traps.is)) in
    absurd (never tasks comes)

pub returns-in-GoesOn-clause-tree : goal.returns-in-GoesOn-clause-tree
returns-in-GoesOn-clause-tree c = λ tasks comes.
    let more = rw c.deref.ensures.value at (c.in_ok-tasks.ensures.goes_on (ap Ok c.in-GoesOn.is)) in
    let spent = more tasks comes in
    omega (arith, spent)
