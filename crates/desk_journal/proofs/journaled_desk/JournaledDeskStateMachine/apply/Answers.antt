use Rattle.desk_journal.proofs.DeskLemmas.{copied_so, copy_refused_so, finished_so, on_ok, source_so}
use Rattle.desk_journal.proofs.journaled_desk.JournaledDeskStateMachine.apply.Goals as goal

pub submit-requires : goal.submit-requires
submit-requires c =
    source_so c.args.change.now c.in-Submitted.tenant c.in-Submitted.programs c.in-Submitted.credit c.in-Submitted.buffer c.in-Ok.source.items c.deref-in-Submitted.result.now c.deref-in-Submitted-2.result.now c.deref-in-Submitted-3.result.now c.in-Submitted.is
    c.in-Ok.ensures c.deref-in-Submitted.ensures.value c.deref-in-Submitted-2.ensures.value c.deref-in-Submitted-3.ensures.value

pub returns-in-Finished-clause-ok : goal.returns-in-Finished-clause-ok
returns-in-Finished-clause-ok c =
    on_ok c.report.result
    (λ made. finished_so c.args.change.now c.in-Finished.job c.in-Finished.report made.0 c.args.self.now c.report.new.self c.in-Finished.is made.1 made.2) c.report.ensures.ok

pub returns-in-ReportKept-clause-ok : goal.returns-in-ReportKept-clause-ok
returns-in-ReportKept-clause-ok c =
    on_ok c.put_report_back.result
    (copied_so c.args.change.now c.in-ReportKept.tenant c.in-ReportKept.credit c.in-ReportKept.report c.deref-in-ReportKept.result.now c.args.self.now c.put_report_back.new.self c.in-ReportKept.is c.deref-in-ReportKept.ensures.value)
    c.put_report_back.ensures.ok

pub returns-in-ReportKept-clause-refused : goal.returns-in-ReportKept-clause-refused
returns-in-ReportKept-clause-refused c is =
    copy_refused_so c.args.change.now c.in-ReportKept.tenant c.in-ReportKept.credit c.in-ReportKept.report c.deref-in-ReportKept.result.now c.args.self.now c.in-ReportKept.is c.deref-in-ReportKept.ensures.value (c.put_report_back.ensures.refused is)
