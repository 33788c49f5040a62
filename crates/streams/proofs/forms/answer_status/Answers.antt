use Rattle.std.proofs.Common.{ℕ, ap, ◌∙◌}
use Rattle.sessions.specs.Replies.{reply_data}
use Rattle.sessions.specs.declared.reply.Reply.TheVariants.{Status}
use Rattle.streams.specs.Answering.{refused, progress_told}
use Rattle.streams.proofs.forms.answer_status.Goals as goal

pub returns-in-Ok-clause-done : goal.returns-in-Ok-clause-done
returns-in-Ok-clause-done g c = record {
  told = Status c.in-Ok.progress.complete c.in-Ok.progress.returned c.in-Ok.progress.spent;
  was = (c.look-seen.result, c.look-seen.ensures.looks, ap progress_told c.in-Ok.ensures);
  frame = c.of_reply.ensures;
}

pub returns-in-Err-clause-done : goal.returns-in-Err-clause-done
returns-in-Err-clause-done g c = record {
  told = c.refused.result;
  was = (c.look-seen.result, c.look-seen.ensures.looks, ap reply_data c.refused.ensures ∙ ap (λ (n : ℕ). refused n) c.code.ensures ∙ ap progress_told c.in-Err.ensures);
  frame = c.of_reply-in-Err.ensures;
}
