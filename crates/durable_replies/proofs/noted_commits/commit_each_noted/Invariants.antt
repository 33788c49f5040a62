use Rattle.std.proofs.Common.{length, ◌-◌, ◌≡◌, ◌≤◌}
use Rattle.durable_replies.proofs.Commits.{AreSameFrom, EachNoteTo}
use Rattle.durable_replies.specs.Durable.{IsDurableAt}
use Rattle.durable_replies.proofs.noted_commits.commit_each_noted.Given as goal

-- the first journals are committed, and the notes of the others are as they were
abbrev pub invariant-notes : goal.invariant-notes
invariant-notes g l = record {
  same : l.client ≡ l.fn.client;
  count : length l.notes.items ≡ length l.fn.notes.items;
  within : l.place ≤ length l.journals;
  durable : EachNoteTo (λ journal note. IsDurableAt g.H.SharedHandler.answers g.J.Origin.begins g.H.Noted.covers g.K.NoteMaker.desk g.N.GroupNote.known (g.K.NoteMaker.desk journal) note l.fn.client) l.place l.journals l.notes.items;
  rest : AreSameFrom l.place l.notes.items l.fn.notes.items;
}

abbrev pub decreases-notes : goal.decreases-notes
decreases-notes g l = length l.journals - l.place
