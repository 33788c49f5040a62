use Rattle.std.proofs.Common.{ℕ, Err, sym, subst}
use Rattle.sessions.specs.OwnNames.{IsUnreadableBy, PayloadAnswerBy, not_json, not_request}
use Rattle.sessions.specs.declared.fault.SessionFault.{SessionFault}
use Rattle.streams.proofs.frame_handler.hear_payload.Goals as goal

pub returns-in-Err-NotJson : goal.returns-in-Err-NotJson
returns-in-Err-NotJson c =
    let P : SessionFault → Type 0 = λ f. PayloadAnswerBy c.args.key (Err f) c.args.payload.now in
    let none = subst P c.in-Err-NotJson.field-0-is c.in-Err-NotJson.ensures in
    let Q : ℕ → Type 0 = λ n. IsUnreadableBy c.args.key c.args.payload.now n in
    subst Q (sym c.code.ensures) (not_json none)

pub returns-in-Err-BadRequest : goal.returns-in-Err-BadRequest
returns-in-Err-BadRequest c =
    let P : SessionFault → Type 0 = λ f. PayloadAnswerBy c.args.key (Err f) c.args.payload.now in
    let none = subst P c.in-Err-BadRequest.field-0-is c.in-Err-BadRequest.ensures in
    let Q : ℕ → Type 0 = λ n. IsUnreadableBy c.args.key c.args.payload.now n in
    subst Q (sym c.code-in-Err-BadRequest.ensures) (not_request none.0 none.1 none.2)
