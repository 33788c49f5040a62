use Rattle.std.proofs.Common.{◌↔◌, ◌≤◌, List, Contains, map}
use Rattle.task_trees.specs.Answer.{RootComes}
use Rattle.task_trees.specs.Eval.{Finished, root}
use Rattle.reference.specs.Records.{program_of, task_of}
use Rattle.reference.specs.declared.evaluating.Pending.{Pending}
use Rattle.reference.specs.Evaluating.{ComesFar, PathComes, used_so_far}
use Rattle.reference.proofs.evaluating.evaluate.Given as goal

-- what the root comes to is what those are that are done, and what the tasks on the path come to, and each instruction has spent something
abbrev pub invariant-loop : goal.invariant-loop
invariant-loop l = record {
  comes : (fs : List Finished) → RootComes (map program_of l.programs) l.fn.credit l.fn.buffer.items fs
      ↔ PathComes (map program_of l.programs) l.path.items l.done.items fs;
  spent : l.counter ≤ used_so_far l.path.items l.done.items;
  far : (p : Pending) → Contains l.path.items p → ComesFar (map program_of l.programs) (task_of p.task) p.bytes.items →
      ComesFar (map program_of l.programs) (root l.fn.credit l.fn.buffer.items) l.fn.buffer.items;
}
