use Rattle.std.proofs.Common.{◌≡◌, suc, subst, sym, ◌∙◌}
use Rattle.std.proofs.lemmas.Result.{err_from_is_err_and}
use Rattle.sessions.specs.Session.{unread}
use Rattle.sessions.proofs.Fronts.{front_shorter}
use Rattle.streams.specs.Serves.{none_yet}
use Rattle.streams.specs.Stops.{between}
use Rattle.streams.specs.Hearing.{by_reading, query_of}
use Rattle.streams.proofs.Serving.{serves_one}
use Rattle.conversation.specs.Hearing.{IsArrivedFrame}
use Rattle.conversation.specs.declared.frames.ArrivedFrame.{ArrivedFrame}
use Rattle.conversation.specs.declared.frames.ArrivedFrame.TheVariants.{TooLarge, Question}
use Rattle.conversation.proofs.Taking.{ends_at_length, starved_at_reply}
use Rattle.conversation.proofs.frames.answer_frames.Goals as goal

pub frames-init : goal.frames-init
frames-init g c = record { served = (0, none_yet); well = c.requires.well; ready = c.requires.ready }

pub returns-in_err-hear-clause-ended : goal.returns-in_err-hear-clause-ended
returns-in_err-hear-clause-ended g c =
    let served = c.frames.invariant.served in
    let p = err_from_is_err_and c.from_residual.result c.from_residual.ensures.1 in
    rw p.1 (rw p.2 (between served.0 _ (unread c.frames.session) _ served.1))

pub returns-in-TooLarge-clause-ended : goal.returns-in-TooLarge-clause-ended
returns-in-TooLarge-clause-ended g c =
    let served = c.frames.invariant.served in
    let P : ArrivedFrame → Type 0 = λ h. IsArrivedFrame h (unread c.frames.session) (unread c.hear.new.session) in
    let heard = subst P c.in-TooLarge.is c.in_ok-hear.ensures.heard in
    ends_at_length c.refuse_length.result (by_reading g.H.Handler.answers) _ _ _ served.0 _ (unread c.frames.session) c.frames.due.items c.refuse_length.new.due.items served.1 heard.0 c.refuse_length.ensures

pub returns-in_err-answer_one-clause-ended : goal.returns-in_err-answer_one-clause-ended
returns-in_err-answer_one-clause-ended g c =
    let served = c.frames.invariant.served in
    let P : ArrivedFrame → Type 0 = λ h. IsArrivedFrame h (unread c.frames.session) (unread c.hear.new.session) in
    let heard = subst P c.in-Question.is c.in_ok-hear.ensures.heard in
    let reply = c.in_err-answer_one.ensures.err in
    let p = err_from_is_err_and c.from_residual-in_err-answer_one.result c.from_residual-in_err-answer_one.ensures.1 in
    rw p.1 (rw p.2 (starved_at_reply (by_reading g.H.Handler.answers) _ _ _ served.0 _ (unread c.frames.session) c.frames.due.items heard.0 (unread c.hear.new.session) reply.0 _ c.answer_one.new.due.items served.1 heard.1 (query_of c.in-Question.request, heard.2, reply.1) reply.2))

pub frames-smaller : goal.frames-smaller
frames-smaller g c =
    let P : ArrivedFrame → Type 0 = λ h. IsArrivedFrame h (unread c.frames.session) (unread c.hear.new.session) in
    let heard = subst P c.in-Question.is c.in_ok-hear.ensures.heard in
    front_shorter (unread c.frames.session) heard.0 (unread c.hear.new.session) heard.1

pub frames-preserved : goal.frames-preserved
frames-preserved g c =
    let served = c.frames.invariant.served in
    let P : ArrivedFrame → Type 0 = λ h. IsArrivedFrame h (unread c.frames.session) (unread c.hear.new.session) in
    let heard = subst P c.in-Question.is c.in_ok-hear.ensures.heard in
    let reply = c.in_ok-answer_one.ensures.ok in
    record {
      served = (
        suc served.0,
        serves_one (by_reading g.H.Handler.answers) _ _ _ served.0 _ (unread c.frames.session) _ heard.0 (unread c.hear.new.session) reply.0 _ _ served.1 heard.1 (query_of c.in-Question.request, heard.2, reply.1) reply.2,
      );
      well = c.in_ok-hear.ensures.well (λ e. let no : Question c.in-Question.request ≡ TooLarge = sym c.in-Question.is ∙ e in cc);
      ready = c.in_ok-answer_one.ensures.ready;
    }
