use Rattle.std.proofs.Common.{◌≡◌, ℕ, Err, sym, subst}
use Rattle.sessions.specs.Session.{unread, ended_by, RequestAnswer}
use Rattle.sessions.specs.Answers.{IsUnreadable, not_json, not_request}
use Rattle.sessions.specs.Faults.{lasting_of}
use Rattle.sessions.specs.declared.fault.SessionFault.{SessionFault}
use Rattle.conversation.proofs.frames.hear.Goals as goal

pub returns-in-Err-NotJson-clause-heard : goal.returns-in-Err-NotJson-clause-heard
returns-in-Err-NotJson-clause-heard c =
    let P : SessionFault → Type 0 = λ f. RequestAnswer (Err f) (unread c.args.session.now) (unread c.next_request.new.self) in
    let h = subst P c.in-Err-NotJson.field-0-is (c.in-Err-NotJson.ensures.answer c.requires) in
    let Q : ℕ → Type 0 = λ n. IsUnreadable h.0 n in
    (h.0, h.1, subst Q (sym c.code.ensures) (not_json h.2))

pub returns-in-Err-BadRequest-clause-heard : goal.returns-in-Err-BadRequest-clause-heard
returns-in-Err-BadRequest-clause-heard c =
    let P : SessionFault → Type 0 = λ f. RequestAnswer (Err f) (unread c.args.session.now) (unread c.next_request.new.self) in
    let h = subst P c.in-Err-BadRequest.field-0-is (c.in-Err-BadRequest.ensures.answer c.requires) in
    let Q : ℕ → Type 0 = λ n. IsUnreadable h.0 n in
    (h.0, h.1, subst Q (sym c.code-in-Err-BadRequest.ensures) (not_request h.2.0 h.2.1 h.2.2))

pub returns-in-Err-NotJson-clause-well : goal.returns-in-Err-NotJson-clause-well
returns-in-Err-NotJson-clause-well c other =
    let P : SessionFault → Type 0 = λ f. ended_by c.next_request.new.self ≡ lasting_of f in
    subst P c.in-Err-NotJson.field-0-is (c.in-Err-NotJson.ensures.lasts c.requires)

pub returns-in-Err-BadRequest-clause-well : goal.returns-in-Err-BadRequest-clause-well
returns-in-Err-BadRequest-clause-well c other =
    let P : SessionFault → Type 0 = λ f. ended_by c.next_request.new.self ≡ lasting_of f in
    subst P c.in-Err-BadRequest.field-0-is (c.in-Err-BadRequest.ensures.lasts c.requires)
