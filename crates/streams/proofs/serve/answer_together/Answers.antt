use Rattle.std.proofs.Common.{rules, ◌≡◌, Err}
use Rattle.sessions.specs.Session.{unread}
use Rattle.streams.specs.declared.fault.StreamFault.TheVariants.{WriteFailed}
use Rattle.std.proofs.lemmas.Result.{IfErr-weaker, on_ok_weaker}
use Rattle.streams.proofs.LettingGo.{waits_then}
use Rattle.streams.proofs.Serving.{waiting_cut}
use Rattle.streams.proofs.serve.answer_together.Goals as goal

pub returns-in-Err-clause-stopped : goal.returns-in-Err-clause-stopped
returns-in-Err-clause-stopped g c =
    let not : c.answer_frames-answered.result ≡ Err WriteFailed → ⊥ = search rules in
    let same = c.in-Err.ensures.same in
    rw same (waiting_cut c.answer_frames-answered.result g.H.FrameHandler.answers (c.args.desk.now, c.args.handler.now) (unread c.args.session.now) (g.W.ReplySink.transcript c.args.writer.now)
    (c.answer_frames-answered.new.desk, c.answer_frames-answered.new.handler) (unread c.answer_frames-answered.new.session)
    (g.W.ReplySink.transcript c.answer_frames-answered.new.writer) c.answer_frames-answered.new.batch.items (g.W.ReplySink.transcript c.write_batch.new.writer) _
    c.answer_frames-answered.ensures.served c.answer_frames-answered.ensures.stopped not c.answer_frames-answered.ensures.grows c.in-Err.ensures.err)

pub returns-in-Err-clause-given_up : goal.returns-in-Err-clause-given_up
returns-in-Err-clause-given_up g c =
    let not : c.answer_frames-answered.result ≡ Err WriteFailed → ⊥ = search rules in
    λ first go.
    let waits = waits_then c.answer_frames-answered.result (g.W.ReplySink.lets_go first) (c.answer_frames-answered.new.writer, c.answer_frames-answered.new.handler) c.answer_frames-answered.new.batch.items not (on_ok_weaker c.answer_frames-answered.result (λ f. f first go) c.answer_frames-answered.ensures.let_go)
    (IfErr-weaker c.answer_frames-answered.result _ _ (λ _ f. f first go) c.answer_frames-answered.ensures.given_up) in
    c.in-Err.ensures.stopped first waits.0 waits.1
