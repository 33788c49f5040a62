use Rattle.std.proofs.Common.{Result, List, ap, sym, ◌∙◌}
use Rattle.std.proofs.lemmas.Result.{IfOk-weaker}
use Rattle.credit_book.specs.declared.book.Report.{Report}
use Rattle.accounts.specs.declared.fault.DeskFault.{DeskFault}
use Rattle.accounts.specs.declared.jobs.JobEntry.{JobEntry}
use Rattle.accounts.specs.Jobs.{job_at}
use Rattle.accounts.specs.Ledgers.{report_in}
use Rattle.accounts.proofs.Sharing.{reported_there}
use Rattle.accounts.proofs.job_list.Jobs.share.Goals as goal

pub share_report-requires : goal.share_report-requires
share_report-requires c =
    let P : List JobEntry → Result Report DeskFault = λ js. report_in (job_at js c.args.job) in
    let r = c.requires in
    let t = reported_there c.self.inside.inner c.args.job r.0 c.self.invariant (ap P c.self.view_is ∙ r.1) in
    (t.0, t.1, (r.0, t.2))

pub returns-clause-shared : goal.returns-clause-shared
returns-clause-shared c =
    let P : List JobEntry → Result Report DeskFault = λ js. report_in (job_at js c.args.job) in
    let r = c.requires in
    let t = reported_there c.self.inside.inner c.args.job r.0 c.self.invariant (ap P c.self.view_is ∙ r.1) in
    IfOk-weaker c.share_report.result _ _ (λ report is. r.1 ∙ sym t.2 ∙ is t.0 t.1) c.share_report.ensures.shared
