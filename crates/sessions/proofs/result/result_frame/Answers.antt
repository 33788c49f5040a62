use Rattle.std.proofs.Common.{◌<◌, ◌≤◌, ◌++◌, length, ap, subst, ◌∙◌}
use Rattle.sessions.specs.Replies.{longest_reply}
use Rattle.sessions.proofs.ResultLemmas.{frame_written, outcome_is}
use Rattle.sessions.proofs.result.result_frame.Goals as goal

pub returns-in_default : goal.returns-in_default
returns-in_default c =
    subst (λ t. longest_reply < length t) (outcome_is c.args.outcome.now c.deref.result.now (c.deref.ensures.value ∙ c.in_ok-buffer.ensures)) c.in_default.ensures.count

pub returns : goal.returns
returns c =
    let same = outcome_is c.args.outcome.now c.deref.result.now (c.deref.ensures.value ∙ c.in_ok-buffer.ensures) in
    let again = outcome_is c.args.outcome.now c.deref-2.result.now (c.deref-2.ensures.value ∙ c.in_ok-buffer.ensures) in
    let count = c.in-Some.ensures.count ∙ ap length same in (
      frame_written c.in_ok-frame.frame.items _ _ c.to_be_bytes.result _ c.in-Some.count c.in_ok-frame.ensures.items c.to_be_bytes.ensures c.in_ok-extend_from_slice.ensures.items count
          (c.in_ok-write_quoted.ensures ∙ ap (λ l. c.extend_from_slice.new.self.items ++ l) again),
      subst (λ n. n ≤ longest_reply) count c.in-Some.ensures.most,
    )
