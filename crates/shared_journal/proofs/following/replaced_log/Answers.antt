use Rattle.std.proofs.Common.{◌∙◌, ap, sym}
use Rattle.journal_file.specs.FileLogs.{file_state}
use Rattle.shared_journal.proofs.JournalCalls.{keeps_new}
use Rattle.shared_journal.proofs.Standings.{stands_with_more}
use Rattle.shared_journal.proofs.following.replaced_log.Goals as goal

pub returns-in-Ok-clause-keeps : goal.returns-in-Ok-clause-keeps
returns-in-Ok-clause-keeps g c first copied taken written stands keeps copies =
    keeps_new first taken written _ _ c.new.result (stands_with_more _ _ c.args.last.now stands) (copies c.if-not-is_followed.false)
    (ap file_state c.new.ensures.0 ∙ c.in-Ok.ensures) (keeps.all (sym c.has_failed.ensures ∙ c.if-has_failed.false))
