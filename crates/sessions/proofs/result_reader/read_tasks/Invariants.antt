use Rattle.std.proofs.Common.{◌≡◌, map, take, Some}
use Rattle.serde_json.specs.View.{view}
use Rattle.sessions.specs.Grammar.{all_of}
use Rattle.sessions.specs.ResultObjects.{task_from}
use Rattle.sessions.proofs.result_reader.read_tasks.Given as goal

abbrev pub invariant-loop-item : goal.invariant-loop-item
invariant-loop-item l = all_of task_from (map view (take l.item-index l.item-items)) ≡ Some l.tasks.items
