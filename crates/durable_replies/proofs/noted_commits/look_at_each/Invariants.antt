use Rattle.std.proofs.Common.{length, ◌-◌, ◌≡◌, ◌≤◌}
use Rattle.durable_replies.specs.Durable.{IsFoundSound}
use Rattle.durable_replies.proofs.Commits.{AreSameFrom, EachNoteTo}
use Rattle.durable_replies.proofs.noted_commits.look_at_each.Given as goal

-- the first journals were looked at, and the notes of the others are as they were
abbrev pub invariant-looks : goal.invariant-looks
invariant-looks g l = record {
  count : length l.notes.items ≡ length l.fn.notes.items;
  within : l.place ≤ length l.journals;
  sound : EachNoteTo (IsFoundSound g.K.NoteMaker.name g.N.GroupNote.known g.N.GroupNote.sound) l.place l.journals l.notes.items;
  rest : AreSameFrom l.place l.notes.items l.fn.notes.items;
}

abbrev pub decreases-looks : goal.decreases-looks
decreases-looks g l = length l.journals - l.place
