use Rattle.std.proofs.Common.{◌<◌, length, decimal, ap, subst, ◌∙◌}
use Rattle.sessions.specs.Replies.{longest_reply}
use Rattle.sessions.proofs.ResultLemmas.{result_counted, result_long}
use Rattle.sessions.proofs.result.quoted_length.Goals as goal

pub returns-in_default-clause-count : goal.returns-in_default-clause-count
returns-in_default-clause-count c = result_long c.args.buffer.now c.args.returned c.args.spent c.args.tasks.now c.in_default.ensures.count

pub returns-then-count-gt-LONGEST-clause-count : goal.returns-then-count-gt-LONGEST-clause-count
returns-then-count-gt-LONGEST-clause-count c =
    subst (λ n. longest_reply < n)
    (result_counted c.args.buffer.now c.args.returned c.args.spent c.args.tasks.now _ _ _ c.in-Some.ensures.count (c.digits.ensures.count ∙ ap (λ n. length (decimal n)) c.from.ensures)
    (c.digits-2.ensures.count ∙ ap (λ n. length (decimal n)) c.from-2.ensures))
    (rw c.saturating_sub.ensures at c.if-count-gt-LONGEST.true)

pub returns-clause-count : goal.returns-clause-count
returns-clause-count c =
    rw c.saturating_sub.ensures
    (result_counted c.args.buffer.now c.args.returned c.args.spent c.args.tasks.now _ _ _ c.in-Some.ensures.count (c.digits.ensures.count ∙ ap (λ n. length (decimal n)) c.from.ensures)
    (c.digits-2.ensures.count ∙ ap (λ n. length (decimal n)) c.from-2.ensures))
