use Rattle.std.proofs.Common.{◌≡◌, ◌∙◌, ◌++◌, List, ℕ, sym, subst}
use Rattle.std.proofs.lemmas.Result.{IfErr-weaker, on_ok_weaker}
use Rattle.shared_desk.specs.ClientViews.{ClientView}
use Rattle.durable_replies.specs.Durable.{LetGoAhead, MayGoOut}
use Rattle.durable_replies.proofs.LettingGo.{all_go_out, some_go_out, stays_out}
use Rattle.durable_replies.proofs.durable_sink.DurableSinkReplySinkUnitClient.write_replies.Goals as goal

pub returns-in-Err-clause-stopped : goal.returns-in-Err-clause-stopped
returns-in-Err-clause-stopped g c first rest ahead =
    let s = c.args.self.now in
    let notes = c.ask_each-asked.new.notes.items in
    let written = g.W.Sink.transcript s.sink in
    let waits = c.args.bytes.now ++ rest in
    let May : _ → _ → List _ → ClientView → Type 0 = MayGoOut g.H.SharedHandler.answers g.J.Origin.begins g.H.Noted.covers g.K.NoteMaker.name g.K.NoteMaker.desk g.N.GroupNote.known g.N.GroupNote.sound in (
      waits,
      (
        ahead.0,
        ahead.1,
        subst (λ (v : ClientView). LetGoAhead g.H.SharedHandler.answers g.J.Origin.begins g.H.Noted.covers g.K.NoteMaker.name g.K.NoteMaker.desk g.N.GroupNote.known g.N.GroupNote.sound first.sync first.journals.now notes written v waits) (sym c.in-Err.ensures.same)
            (stays_out g.H.SharedHandler.answers g.J.Origin.begins g.H.Noted.covers g.K.NoteMaker.name g.K.NoteMaker.desk g.N.GroupNote.known g.N.GroupNote.sound first.sync first.journals.now notes s.notes.items c.args.handler.now written waits
            (λ past later goes_on was.
            subst (λ (bs : List _). May first.sync bs notes past) ahead.1
            (subst (λ m. May m s.journals.now notes past) ahead.0
            (c.in-Err.ensures.err past later goes_on
            (subst (λ m. May m s.journals.now s.notes.items past) (sym ahead.0)
            (subst (λ (bs : List _). May first.sync bs s.notes.items past) (sym ahead.1) was)))))
            ahead.2),
      ),
    )

pub returns-clause-let_go : goal.returns-clause-let_go
returns-clause-let_go g c =
    let s = c.args.self.now in
    let notes = c.ask_each-asked.new.notes.items in
    let written = g.W.Sink.transcript s.sink in
    let after = g.W.Sink.transcript c.write_all.new.sink in
    let May : _ → _ → List _ → ClientView → Type 0 = MayGoOut g.H.SharedHandler.answers g.J.Origin.begins g.H.Noted.covers g.K.NoteMaker.name g.K.NoteMaker.desk g.N.GroupNote.known g.N.GroupNote.sound in
    on_ok_weaker c.write_all.result (λ is first rest ahead. (
      ahead.0,
      ahead.1,
      subst (λ (v : ClientView). LetGoAhead g.H.SharedHandler.answers g.J.Origin.begins g.H.Noted.covers g.K.NoteMaker.name g.K.NoteMaker.desk g.N.GroupNote.known g.N.GroupNote.sound first.sync first.journals.now notes after v rest) (sym c.in_default.ensures.same)
          (all_go_out g.H.SharedHandler.answers g.J.Origin.begins g.H.Noted.covers g.K.NoteMaker.name g.K.NoteMaker.desk g.N.GroupNote.known g.N.GroupNote.sound first.sync first.journals.now notes s.notes.items c.args.handler.now written c.args.bytes.now rest after
          (subst (λ (bs : List _). May first.sync bs notes c.args.handler.now) ahead.1 (subst (λ m. May m s.journals.now notes c.args.handler.now) ahead.0 c.in_default.ensures.ok))
          is ahead.2),
    )) c.write_all.ensures.ok

pub returns-clause-stopped : goal.returns-clause-stopped
returns-clause-stopped g c =
    let s = c.args.self.now in
    let notes = c.ask_each-asked.new.notes.items in
    let written = g.W.Sink.transcript s.sink in
    let after = g.W.Sink.transcript c.write_all.new.sink in
    let May : _ → _ → List _ → ClientView → Type 0 = MayGoOut g.H.SharedHandler.answers g.J.Origin.begins g.H.Noted.covers g.K.NoteMaker.name g.K.NoteMaker.desk g.N.GroupNote.known g.N.GroupNote.sound in
    IfErr-weaker c.write_all.result _ _ (λ _ cut first rest ahead.
    let left = some_go_out g.H.SharedHandler.answers g.J.Origin.begins g.H.Noted.covers g.K.NoteMaker.name g.K.NoteMaker.desk g.N.GroupNote.known g.N.GroupNote.sound first.sync first.journals.now notes s.notes.items c.args.handler.now written c.args.bytes.now rest after cut.0
    (subst (λ (bs : List _). May first.sync bs notes c.args.handler.now) ahead.1 (subst (λ m. May m s.journals.now notes c.args.handler.now) ahead.0 c.in_default.ensures.ok))
    cut.2 ahead.2 in (
      left.0,
      (
        ahead.0,
        ahead.1,
        subst (λ (v : ClientView). LetGoAhead g.H.SharedHandler.answers g.J.Origin.begins g.H.Noted.covers g.K.NoteMaker.name g.K.NoteMaker.desk g.N.GroupNote.known g.N.GroupNote.sound first.sync first.journals.now notes after v left.0) (sym c.in_default.ensures.same) left.1,
      ),
    )) c.write_all.ensures.err
