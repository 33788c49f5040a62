use Rattle.std.proofs.Common.{rules, ◌≡◌, ◌++◌, ◌+◌, ℕ, List, [], take, refl, sym, ap, ◌∙◌, subst, lit<, inl, inr, length, length-append, nat_eq, ◌≤◌, arith, append_assoc, append-nil}
use Rattle.std.proofs.lemmas.List.{length-take-le}
use Rattle.std.proofs.lemmas.Result.{err_from_is_err_and}
use Rattle.sessions.specs.Frames.{front}
use Rattle.sessions.specs.Session.{unread}
use Rattle.sessions.proofs.Cuts.{front_short}
use Rattle.streams.specs.Serves.{Serves, none_yet}
use Rattle.streams.proofs.Serving.{all_served, stops_too_large, serves_more, serves_on, stops_in_piece, stops_at_last, counted_on, ends_too_large}
use Rattle.streams.proofs.serve.serve_stream.Goals as goal

-- so many bytes of a piece are no more than it has
short_piece : (n : ℕ) (piece : List ℕ) → n ≤ length piece → length piece ≡ 4096 → length (take n piece) ≤ 4096
short_piece n piece within all = omega (arith, length-take-le n piece within, within, all)

pub reads-init : goal.reads-init
reads-init g c =
    let P : List ℕ → Type 0 = λ left. Serves g.H.FrameHandler.answers (c.args.desk.now, c.args.handler.now) [] (g.W.ReplySink.transcript c.args.writer.now) 0 (c.args.desk.now, c.args.handler.now) left (g.W.ReplySink.transcript c.args.writer.now) in
    let fresh = c.new-session.ensures.unread in
    record {
      served = ([], 0, sym (append-nil (g.R.Source.transcript c.args.reader.now)), subst P (sym fresh) none_yet, refl, omega arith);
      left = ap front fresh ∙ front_short [] (lit< tt);
      none = c.new-batch.ensures.items;
      well = c.new-session.ensures.goes_on;
      source = c.requires.source;
      sink = c.requires.sink;
      ready = c.requires.ready;
      let_go = λ first go. go;
    }

pub returns-in-Err-clause-stopped : goal.returns-in-Err-clause-stopped
returns-in-Err-clause-stopped g c =
    let before = c.reads.invariant.served in (
      before.0,
      c.in-Err.ensures.err ∙ before.2,
      record { count = before.1; left = unread c.reads.session; frames = before.3; waits = c.reads.invariant.left },
    )

pub returns-in_err-goes_on-clause-stopped : goal.returns-in_err-goes_on-clause-stopped
returns-in_err-goes_on-clause-stopped g c =
    let before = c.reads.invariant.served in
    let piece = take c.in-Ok.count c.read.new.piece in
    let p = err_from_is_err_and c.from_residual.result c.from_residual.ensures.1 in
    rw p.1 (rw p.2 (
      before.0 ++ piece,
      c.in-Ok.ensures.bytes ∙ ap (λ xs. xs ++ piece) before.2 ∙ append_assoc (g.R.Source.transcript c.args.reader.now) before.0 piece,
      stops_in_piece _ g.H.FrameHandler.answers _ before.0 _ piece before.1 _ _ _ _ _ before.3 c.reads.invariant.left (short_piece c.in-Ok.count c.read.new.piece (search rules) (search rules)) c.in_err-goes_on.ensures.stopped,
    ))

pub returns-in_err-refuse_length-clause-stopped : goal.returns-in_err-refuse_length-clause-stopped
returns-in_err-refuse_length-clause-stopped g c =
    let before = c.reads.invariant.served in
    let piece = take c.in-Ok.count c.read.new.piece in
    let next = c.in_ok-goes_on.ensures.served in
    let p = err_from_is_err_and c.from_residual-in_err-refuse_length.result c.from_residual-in_err-refuse_length.ensures.1 in
    rw p.1 (rw p.2 (
      before.0 ++ piece,
      c.in-Ok.ensures.bytes ∙ ap (λ xs. xs ++ piece) before.2 ∙ append_assoc (g.R.Source.transcript c.args.reader.now) before.0 piece,
      stops_at_last _ g.H.FrameHandler.answers _ before.0 _ piece before.1 _ _ _ next.0 _ (unread c.take_piece.new.session) _ _ before.3 c.reads.invariant.left (short_piece c.in-Ok.count c.read.new.piece (search rules) (search rules)) next.1 (search rules) c.in_err-refuse_length.ensures.err,
    ))

pub returns-then-not-goes_on-clause-served : goal.returns-then-not-goes_on-clause-served
returns-then-not-goes_on-clause-served g c =
    let before = c.reads.invariant.served in
    let piece = take c.in-Ok.count c.read.new.piece in
    let next = c.in_ok-goes_on.ensures.served in (
      before.0 ++ piece,
      c.in-Ok.ensures.bytes ∙ ap (λ xs. xs ++ piece) before.2 ∙ append_assoc (g.R.Source.transcript c.args.reader.now) before.0 piece,
      record {
        count = before.1 + next.0;
        left = unread c.take_piece.new.session;
        out = g.W.ReplySink.transcript c.take_piece.new.writer;
        frames = serves_on g.H.FrameHandler.answers _ _ _ _ _ _ _ _ _ _ _ (serves_more g.H.FrameHandler.answers _ _ _ piece _ _ _ _ before.3) next.1;
        counts = counted_on before.1 next.0 _ (let is = before.4 in rw (← is) next.2);
        last = ends_too_large _ _ _ (search rules) c.in_ok-refuse_length.ensures.ok;
        stops = stops_too_large _ _ _ (search rules);
      },
    )

pub reads-preserved : goal.reads-preserved
reads-preserved g c =
    let before = c.reads.invariant.served in
    let within : c.in-Ok.count ≤ length c.read.new.piece = search rules in
    let piece = take c.in-Ok.count c.read.new.piece in
    let next = c.in_ok-goes_on.ensures.served in
    record {
      served = (
        before.0 ++ piece,
        before.1 + next.0,
        c.in-Ok.ensures.bytes ∙ ap (λ xs. xs ++ piece) before.2 ∙ append_assoc (g.R.Source.transcript c.args.reader.now) before.0 piece,
        serves_on g.H.FrameHandler.answers _ _ _ _ _ _ _ _ _ _ _ (serves_more g.H.FrameHandler.answers _ _ _ piece _ _ _ _ before.3) next.1,
        counted_on before.1 next.0 _ (let is = before.4 in rw (← is) next.2),
        omega (arith, before.5, length-append before.0 piece, length-take-le c.in-Ok.count c.read.new.piece within, c.if-count-eq0.false),
      );
      left = search rules;
      none = c.in_ok-goes_on.ensures.none;
      well = search rules;
      source = c.in-Ok.ensures.failed;
      sink = c.in_ok-goes_on.ensures.well;
      ready = c.in_ok-goes_on.ensures.ready;
      let_go = λ first go. c.in_ok-goes_on.ensures.let_go first (c.reads.invariant.let_go first go);
    }

pub returns-then-count-eq0-clause-served : goal.returns-then-count-eq0-clause-served
returns-then-count-eq0-clause-served g c =
    let before = c.reads.invariant.served in
    let none : c.in-Ok.count ≡ 0 = c.if-count-eq0.true in
    let told = ap (λ n. g.R.Source.transcript c.reads.reader ++ take n c.read.new.piece) none ∙ append-nil (g.R.Source.transcript c.reads.reader) in
    let over = c.in-Ok.ensures.over ∙ ap (λ n. nat_eq n 0) none in (
      before.0,
      c.in-Ok.ensures.bytes ∙ told ∙ before.2,
      all_served g.H.FrameHandler.answers _ before.0 _ _ before.1 _ (unread c.reads.session) _ _ before.3 c.reads.invariant.left before.4 (inl over),
    )

pub returns-clause-served : goal.returns-clause-served
returns-clause-served g c =
    let before = c.reads.invariant.served in (
      before.0,
      before.2,
      all_served g.H.FrameHandler.answers _ before.0 _ _ before.1 _ (unread c.reads.session) _ _ before.3 c.reads.invariant.left before.4 (inr (omega (arith, c.reads-test.false, before.5))),
    )
