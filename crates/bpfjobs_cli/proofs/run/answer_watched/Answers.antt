use Rattle.std.proofs.Common.{◌≡◌, ◌∙◌, ℕ, List, None, Option, Some, sym}
use Rattle.std.proofs.lemmas.Result.{IfOk-weaker}
use Rattle.bpfjobs_cli.specs.Runs.{IsWatched, ran, no_memory, no_job}
use Rattle.bpfjobs_cli.proofs.run.answer_watched.Goals as goal

some_is_none : (number : ℕ) → Some number ≡ None → ⊥
some_is_none number e = cc

-- a refusal has no report
refused : (opens : ℕ → Type 0) (input : List ℕ) (code : Option ℕ) (number : ℕ)
    → code ≡ Some number → IsWatched opens input code
refused opens input code number same is_report = absurd (some_is_none number (sym same ∙ is_report))

pub returns-in-Err-clause-printed : goal.returns-in-Err-clause-printed
returns-in-Err-clause-printed g c =
    IfOk-weaker c.answer.result _ _ (λ a p. no_job c.in-Err.why c.in-Err.ensures.err p) c.answer.ensures

pub returns-in-Err-clause-watched : goal.returns-in-Err-clause-watched
returns-in-Err-clause-watched g c =
    IfOk-weaker c.answer.result _ _ (λ a p. refused _ _ a.code _ p.2) c.answer.ensures

pub returns-in-Err-board-clause-printed : goal.returns-in-Err-board-clause-printed
returns-in-Err-board-clause-printed g c =
    IfOk-weaker c.answer_failure.result _ _ (λ a p. no_memory c.in-Ok.order.0 c.in-Ok.order.1.items c.in-Ok.ensures.ok p) c.answer_failure.ensures

pub returns-in-Err-board-clause-watched : goal.returns-in-Err-board-clause-watched
returns-in-Err-board-clause-watched g c =
    IfOk-weaker c.answer_failure.result _ _ (λ a p. refused _ _ a.code _ p.2) c.answer_failure.ensures

pub returns-in-Ok-run_whole-clause-printed : goal.returns-in-Ok-run_whole-clause-printed
returns-in-Ok-run_whole-clause-printed g c =
    let final = rw (c.in-Ok-board.ensures.post.0, c.in-Ok-board.ensures.board.0) at c.in-Ok-run_whole.ensures.report in
    IfOk-weaker c.answer_report.result _ _ (λ a p. ran c.in-Ok.order.0 c.in-Ok.order.1.items c.in-Ok-run_whole.report c.in-Ok.ensures.ok final c.in-Ok-run_whole.ensures.answer p) c.answer_report.ensures

pub returns-in-Ok-run_whole-clause-watched : goal.returns-in-Ok-run_whole-clause-watched
returns-in-Ok-run_whole-clause-watched g c =
    let opened = rw c.credit.ensures at c.opened.ensures in
    IfOk-weaker c.answer_report.result _ _ (λ a p is_report. (c.in-Ok.order.0, c.in-Ok.order.1.items, c.in-Ok.ensures.ok, opened)) c.answer_report.ensures

pub returns-in-Err-run_whole-clause-printed : goal.returns-in-Err-run_whole-clause-printed
returns-in-Err-run_whole-clause-printed g c =
    IfOk-weaker c.answer_failure-in-Err-run_whole.result _ _ (λ a p. no_memory c.in-Ok.order.0 c.in-Ok.order.1.items c.in-Ok.ensures.ok (rw c.code.ensures at p)) c.answer_failure-in-Err-run_whole.ensures

pub returns-in-Err-run_whole-clause-watched : goal.returns-in-Err-run_whole-clause-watched
returns-in-Err-run_whole-clause-watched g c =
    IfOk-weaker c.answer_failure-in-Err-run_whole.result _ _ (λ a p. refused _ _ a.code _ p.2) c.answer_failure-in-Err-run_whole.ensures
