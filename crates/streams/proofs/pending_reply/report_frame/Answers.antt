use Rattle.std.proofs.Common.{◌≡◌, Ok, refl, ap, ◌∙◌}
use Rattle.std.proofs.lemmas.Result.{IfOk-weaker}
use Rattle.sessions.specs.Replies.{reply_data, frame_or_refusal}
use Rattle.sessions.specs.declared.reply.Reply.{Reply}
use Rattle.sessions.specs.declared.reply.Reply.TheVariants.{Result}
use Rattle.streams.specs.Answering.{report_told}
use Rattle.streams.proofs.Answered.{is_frame}
use Rattle.streams.proofs.pending_reply.report_frame.Goals as goal

pub returns : goal.returns
returns c =
    let told : Reply = Result c.deref.result c.args.report.now.returned c.args.report.now.spent c.deref-2.result in
    let same : reply_data told ≡ report_told (Ok c.args.report.now) = rw (c.deref.ensures.value, c.deref-2.ensures.value) refl in
    IfOk-weaker c.reply_frame.result _ _ (λ frame is. is ∙ is_frame told ∙ ap frame_or_refusal same) c.reply_frame.ensures
