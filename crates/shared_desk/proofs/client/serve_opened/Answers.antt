use Rattle.std.proofs.Common.{sym, ◌∙◌, subst}
use Rattle.shared_desk.specs.ClientViews.{ClientView}
use Rattle.shared_desk.specs.Closed.{IsServedWhole, closed_of}
use Rattle.shared_desk.specs.declared.passage.Passage.{Passage}
use Rattle.shared_desk.proofs.Closing.{served_from_nothing}
use Rattle.shared_desk.proofs.client.serve_opened.Goals as goal

pub close_replies-requires : goal.close_replies-requires
close_replies-requires g c =
    let end = c.serve_client-outcome in
    let whole = served_from_nothing g.G.PassageId.passage g.S.Source.transcript g.S.Source.is_over g.S.Source.has_failed g.W.ReplySink.transcript g.W.ReplySink.has_failed
    ((c.args.reader.now, c.args.writer.now), c.new-client.result)
    ((end.new.reader, end.new.writer), end.new.client)
    end.result end.ensures.served (c.new-client.ensures.1 ∙ c.requires.fresh) c.requires.source.1 c.requires.sink.1 in
    record {
      comes = c.requires.comes;
      served = subst (λ (z : Passage × ClientView). IsServedWhole (closed_of z.0 g.S.Source.transcript g.S.Source.is_over g.S.Source.has_failed g.W.ReplySink.transcript g.W.ReplySink.has_failed z.1 end.new.reader end.new.writer end.result))
          (λ i. (sym c.requires.passage i, sym c.client.view_is i)) whole;
    }
