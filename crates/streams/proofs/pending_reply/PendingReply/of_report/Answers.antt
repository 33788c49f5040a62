use Rattle.std.proofs.Common.{Ok, refl, sym}
use Rattle.streams.proofs.Answered.{is_frame}
use Rattle.streams.proofs.Written.{report_reply}
use Rattle.streams.proofs.pending_reply.PendingReply.of_report.Goals as goal

pub invariant_of-result : goal.invariant_of-result
invariant_of-result c =
    let told = report_reply (Ok c.args.report) in
    (told, sym (is_frame told), refl)
