use Rattle.std.proofs.Common.{List, ℕ, subst}
use Rattle.std.proofs.lemmas.Result.{on_ok_weaker}
use Rattle.journal.specs.Records.{journal_of}
use Rattle.compaction.specs.Files.{HasNewJournal}
use Rattle.compaction.proofs.OpenedLemmas.{keeps_opened, ahead_opened, behind_opened, either_opened}
use Rattle.compaction.proofs.SnapshotLemmas.{either_leads}
use Rattle.compaction.proofs.snapshot.put_snapshot.Goals as goal

pub returns-clause-compacted : goal.returns-clause-compacted
returns-clause-compacted g c journal opened =
    let at = g.F.JournalFiles.moments c.args.files.now in
    let after = g.F.JournalFiles.moments c.replace_journal.new.files in
    let snapshot = c.args.snapshot.now in
    on_ok_weaker c.replace_journal.result
    (λ replaced. record { snapshot = c.requires; replaced = subst (λ (b : List ℕ). HasNewJournal b after) (behind_opened journal snapshot at opened) replaced })
    (c.replace_journal.ensures.replaced journal (keeps_opened journal at opened))

pub returns-clause-any_moment : goal.returns-clause-any_moment
returns-clause-any_moment g c history left fit after opened may =
    let at = g.F.JournalFiles.moments c.args.files.now in
    let journal = journal_of history in
    let snapshot = c.args.snapshot.now in
    either_leads g.M.StateMachine.starts g.M.StateMachine.steps g.M.Snapshot.alike g.met.M.Snapshot.alike_self c.round_trip.ensures left snapshot history c.args.machine.now fit c.requires after
    (either_opened journal snapshot left at opened (c.replace_journal.ensures.any_moment journal left (keeps_opened journal at opened) (ahead_opened journal at opened) may))
