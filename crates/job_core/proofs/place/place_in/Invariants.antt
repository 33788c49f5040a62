use Rattle.std.proofs.Common.{◌≡◌, ◌≤◌, List, ◌++◌, length, reverse, slice_get, Some}
use Rattle.machine_model.specs.JobState.{Member}
use Rattle.task_trees.specs.Families.{AreParents, place_of}
use Rattle.job_core.proofs.place.place_in.Given as goal

-- the place is that of the task where the way up has come to, followed by what was noted, turned round
abbrev pub invariant-loop-at : goal.invariant-loop-at
invariant-loop-at l = record {
  within : l.at ≤ length l.parents;
  way : (tasks : List Member) (m a : Member) → AreParents l.parents tasks → slice_get tasks l.number ≡ Some m → slice_get tasks l.at ≡ Some a →
      place_of m ≡ place_of a ++ reverse l.place.items;
}

abbrev pub decreases-loop-at : goal.decreases-loop-at
decreases-loop-at l = l.at
