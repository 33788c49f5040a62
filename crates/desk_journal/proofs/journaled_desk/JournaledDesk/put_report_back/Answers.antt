use Rattle.std.proofs.Common.{sym, subst}
use Rattle.credit_book.specs.declared.book.Report.{Report}
use Rattle.desk_journal.specs.DeskSteps.{IsCopyOf}
use Rattle.desk_journal.proofs.DeskLemmas.{on_ok}
use Rattle.desk_journal.proofs.journaled_desk.JournaledDesk.put_report_back.Goals as goal

pub returns-clause-ok : goal.returns-clause-ok
returns-clause-ok c =
    on_ok c.put_back.result (λ p. (c.new.result, subst (λ (r : Report). IsCopyOf c.args.report.now r) (sym c.new.ensures) c.in-Ok.ensures, p)) c.put_back.ensures.ok

pub returns-clause-refused : goal.returns-clause-refused
returns-clause-refused c is =
    (c.new.result, subst (λ (r : Report). IsCopyOf c.args.report.now r) (sym c.new.ensures) c.in-Ok.ensures, c.put_back.ensures.refused is)
