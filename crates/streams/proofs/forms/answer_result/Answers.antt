use Rattle.std.proofs.Common.{Ok, ap, sym, ◌∙◌}
use Rattle.std.proofs.lemmas.Result.{err_from_is_err_and}
use Rattle.accounts.specs.Ledgers.{report_at}
use Rattle.sessions.specs.Replies.{frame_or_refusal}
use Rattle.streams.specs.Answering.{report_told}
use Rattle.streams.proofs.Answered.{is_frame}
use Rattle.streams.proofs.Written.{tells_report}
use Rattle.streams.proofs.forms.answer_result.Goals as goal

pub returns-in_err-report-clause-told : goal.returns-in_err-report-clause-told
returns-in_err-report-clause-told c =
    let tells = tells_report (report_at c.args.desk.now c.args.job) in
    let p = err_from_is_err_and c.from_residual.result c.from_residual.ensures.1 in
    rw (p.1) (record { told = tells.0; was = tells.1; frame = tt })

pub returns-in-Ok-clause-told : goal.returns-in-Ok-clause-told
returns-in-Ok-clause-told c =
    let tells = tells_report (Ok c.in-Ok.report) in
    record {
      told = tells.0;
      was = tells.1 ∙ ap report_told (sym (c.in_ok-report.ensures.told ∙ c.in-Ok.is));
      frame = c.of_report.ensures ∙ ap frame_or_refusal (sym tells.1) ∙ sym (is_frame tells.0);
    }
