use Rattle.std.proofs.Common.{refl, ◌∙◌}
use Rattle.std.proofs.lemmas.Result.{IfOk-weaker}
use Rattle.sessions.specs.declared.reply.Reply.TheVariants.{Submit, Refused}
use Rattle.streams.proofs.Answered.{is_frame, open_taken, says_started}
use Rattle.streams.proofs.forms.answer_taken.Goals as goal

pub start_job-started-requires-clause-open : goal.start_job-started-requires-clause-open
start_job-started-requires-clause-open g c = open_taken c.args.desk.now c.in-Ok.number (rw c.in-Ok.is at c.requires.last)

pub returns-in-Ok-clause-done : goal.returns-in-Ok-clause-done
returns-in-Ok-clause-done g c =
    let started = c.start_job-started.ensures.started in
    record {
      told = Submit c.in-Ok.number;
      was = rw c.in-Ok.is (record {
        outcome = c.start_job-started.result;
        starts_job = started.0;
        settles = started.1;
        tells = refl;
      });
      frame = c.of_reply-reply.ensures;
    }

pub returns-in-Err-clause-done : goal.returns-in-Err-clause-done
returns-in-Err-clause-done g c = record {
  told = Refused c.code-code.result c.program.result c.slot.result;
  was = rw c.in-Err.is (refl, refl, rw (c.code-code.ensures, c.program.ensures, c.slot.ensures) refl);
  frame = c.of_reply-reply-in-Err.ensures;
}

pub returns-in-Ok-clause-refusal : goal.returns-in-Ok-clause-refusal
returns-in-Ok-clause-refusal g c =
    IfOk-weaker c.of_reply-reply.result _ _
    (λ frame is. rw c.refused_start.ensures (says_started c.args.desk.now c.start_job-started.new.desk c.in-Ok.number c.start_job-started.result _
    (rw c.in-Ok.is at c.requires.last) c.start_job-started.ensures.started.1 (is ∙ is_frame (Submit c.in-Ok.number))))
    c.of_reply-reply.ensures

pub returns-in-Err-clause-refusal : goal.returns-in-Err-clause-refusal
returns-in-Err-clause-refusal g c =
    IfOk-weaker c.of_reply-reply-in-Err.result _ _ (λ frame is. (c.program.result, c.slot.result, is ∙ is_frame (Refused c.code-code.result c.program.result c.slot.result)))
    c.of_reply-reply-in-Err.ensures

pub returns-in-Ok-clause-start : goal.returns-in-Ok-clause-start
returns-in-Ok-clause-start g c = rw c.in-Ok.is (record {
  outcome = c.start_job-started.result;
  tells = c.refused_start.ensures;
  settles = c.start_job-started.ensures.started.1;
})
