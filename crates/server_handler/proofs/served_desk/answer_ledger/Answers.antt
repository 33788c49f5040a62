use Rattle.std.proofs.Common.{◌≡◌, ℕ, Err, Result, ap, refl, subst, sym, ◌∙◌}
use Rattle.sessions.specs.Grammar.{Asked, request_asked}
use Rattle.streams.specs.Prepared.{asked_of}
use Rattle.streams.specs.declared.prepared_request.PreparedRequest.TheVariants.{AsItCame}
use Rattle.server_state.specs.Desks.{refusal_frame}
use Rattle.server_state.specs.States.{steps_of}
use Rattle.server_handler.specs.DeskAnswers.{IsReply, RepliesFromLedger}
use Rattle.server_handler.proofs.Recorded.{keyed_none, records_nothing, records_unkeyed}
use Rattle.server_handler.proofs.Replied.{is_reply}
use Rattle.server_handler.proofs.served_desk.answer_ledger.Goals as goal

pub answer_asked-requires-clause-asked : goal.answer_asked-requires-clause-asked
answer_asked-requires-clause-asked g c = (request_asked c.in-AsItCame-Ok.request, refl)

pub returns-in-AsItCame-Err-clause-replies : goal.returns-in-AsItCame-Err-clause-replies
returns-in-AsItCame-Err-clause-replies g c =
    let asked : asked_of c.args.request ≡ Err c.in-AsItCame-Err.code = ap asked_of (c.in-AsItCame-Err.is ∙ ap AsItCame c.in-AsItCame-Err.field-0-is) in
    subst (λ (a : Result Asked ℕ). IsReply c.refuse.result.1 (λ frame. RepliesFromLedger (steps_of g.N.JobRunner) c.args.runner.now.desk c.args.keep c.args.ledger.now c.args.runner.now.jobs a frame c.args.ledger.now c.args.runner.now.jobs))
    (sym asked)
    (is_reply c.refuse.result.1 (λ frame. RepliesFromLedger (steps_of g.N.JobRunner) c.args.runner.now.desk c.args.keep c.args.ledger.now c.args.runner.now.jobs (Err c.in-AsItCame-Err.code) frame c.args.ledger.now c.args.runner.now.jobs)
    (refusal_frame c.in-AsItCame-Err.code) c.refuse.ensures (refl, refl, refl))

pub returns-in-AsItCame-Err-clause-records : goal.returns-in-AsItCame-Err-clause-records
returns-in-AsItCame-Err-clause-records g c =
    records_unkeyed g.C.ChangeSink c.args.runner.now.desk c.args.changes.now c.args.changes.now c.args.ledger.now c.args.ledger.now _ (keyed_none _ c.args.ledger.now c.args.ledger.now refl)
    (records_nothing g.C.ChangeSink c.args.runner.now.desk c.args.changes.now c.args.ledger.now c.args.ledger.now refl)
