use Rattle.std.proofs.Common.{◌≡◌, length}
use Rattle.shared_journal.specs.Places.{AreAtTheirPlaces, AreFollowed}
use Rattle.bpfjobs.proofs.journal_opening.open_each.Given as goal

-- those of the first paths are open, each at its place
abbrev pub invariant-loop-path : goal.invariant-loop-path
invariant-loop-path g l = record {
  journals : length l.journals.items ≡ l.path-index;
  desks : length l.desks.items ≡ l.path-index;
  placed : AreAtTheirPlaces l.journals.items;
  followed : AreFollowed l.followers.items l.journals.items;
}
