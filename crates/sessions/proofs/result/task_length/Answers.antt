use Rattle.std.proofs.Common.{length, decimal, ap, ◌∙◌}
use Rattle.sessions.proofs.ResultLemmas.{task_counted}
use Rattle.sessions.proofs.result.task_length.Goals as goal

pub returns-clause-count : goal.returns-clause-count
returns-clause-count c =
    task_counted c.args.task.now _ _ _ _ _ _ c.word_length-word.ensures.count (c.digits.ensures.count ∙ ap (λ n. length (decimal n)) c.from.ensures)
    (c.digits-2.ensures.count ∙ ap (λ n. length (decimal n)) c.from-2.ensures) c.digits-3.ensures.count (c.digits-4.ensures.count ∙ ap (λ n. length (decimal n)) c.from-3.ensures)
    (c.digits-5.ensures.count ∙ ap (λ n. length (decimal n)) c.from-4.ensures)
