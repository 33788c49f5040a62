use Rattle.std.proofs.Common.{◌∙◌, ap, refl}
use Rattle.streams.specs.Hearing.{query_of}
use Rattle.shared_desk.specs.declared.passage.Passage.{Passage}
use Rattle.shared_desk.specs.Grants.{admitted}
use Rattle.shared_desk.specs.HeardAt.{forms_at}
use Rattle.shared_desk.proofs.HeardAnswer.{heard_err, heard_ok}
use Rattle.shared_desk.proofs.OneAnswer.{framed_ok, framed_err, passed}
use Rattle.shared_desk.proofs.client.ClientFrameHandlerUnit.answer_payload.Goals as goal

pub returns-clause-ok : goal.returns-clause-ok
returns-clause-ok g c =
    let heard = c.in_ok-heard.heard in
    let is = c.prepared-prepared.ensures ∙ c.admit-admitted.ensures ∙ ap (λ (p : Passage). admitted p.may_grant (query_of heard.plain)) c.self.invariant.2 in
    let forms = c.forms.ensures ∙ ap (λ (p : Passage). forms_at p.door) c.self.invariant.2 in
    heard_ok g.H.SharedHandler.answers g.J.Origin.begins g.G.PassageId.passage _ c.args.payload.now heard.plain heard.beyond _ _ _ forms c.in_ok-heard.ensures.plain c.in_ok-heard.ensures.beyond
    (framed_ok g.H.SharedHandler.answers g.J.Origin.begins _ _ _ _ _ _ (passed g.G.PassageId.passage _ _ _ _ refl is) c.written_frame.ensures c.answered-reply.ensures.ok)

pub returns-clause-err : goal.returns-clause-err
returns-clause-err g c =
    let heard = c.in_ok-heard.heard in
    let is = c.prepared-prepared.ensures ∙ c.admit-admitted.ensures ∙ ap (λ (p : Passage). admitted p.may_grant (query_of heard.plain)) c.self.invariant.2 in
    let forms = c.forms.ensures ∙ ap (λ (p : Passage). forms_at p.door) c.self.invariant.2 in
    heard_err g.H.SharedHandler.answers g.J.Origin.begins g.G.PassageId.passage _ c.args.payload.now heard.plain heard.beyond _ _ _ forms c.in_ok-heard.ensures.plain c.in_ok-heard.ensures.beyond
    (framed_err g.H.SharedHandler.answers g.J.Origin.begins _ _ _ _ _ _ (passed g.G.PassageId.passage _ _ _ _ refl is) c.answered-reply.ensures.ok c.answered-reply.ensures.err)
