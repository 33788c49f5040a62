use Rattle.std.proofs.Common.{rules, ◌≡◌, ◌++◌, [], List, ℕ, ap, ◌∙◌, subst, sym, append-nil}
use Rattle.std.proofs.lemmas.Result.{IfErr-weaker}
use Rattle.streams.specs.Stops.{IsPartWritten}
use Rattle.streams.proofs.Serving.{part_of_write, part_on}
use Rattle.streams.proofs.batch.put_reply.Goals as goal

pub returns-clause-err : goal.returns-clause-err
returns-clause-err g c =
    let old = g.W.ReplySink.transcript c.args.writer.now in
    let mid = g.W.ReplySink.transcript c.write_batch.new.writer in
    let new = g.W.ReplySink.transcript c.write_replies.new.self in
    let reply = c.args.reply.now in
    let same : c.put_behind.new.batch.items ≡ c.args.batch.now.items = search rules in
    let written : mid ≡ old ++ c.args.batch.now.items = c.in_ok-write_batch.ensures.ok ∙ ap (λ xs. old ++ xs) same in
    let P : List ℕ → Type 0 = λ xs. IsPartWritten old (xs ++ reply) new in
    IfErr-weaker c.write_replies.result _ _
    (λ _ cut. subst P written (part_on old mid (mid ++ reply) new (c.args.batch.now.items, written) (part_of_write mid reply new cut.0 cut.1 cut.2)))
    c.write_replies.ensures.err

pub returns-clause-stopped : goal.returns-clause-stopped
returns-clause-stopped g c =
    let reply = c.args.reply.now in
    let same : c.put_behind.new.batch.items ≡ c.args.batch.now.items = search rules in
    IfErr-weaker c.write_replies.result _ _
    (λ _ stopped first go.
    let P : List ℕ → Type 0 = λ waits. g.W.ReplySink.lets_go first (c.args.writer.now, c.args.handler.now) (waits ++ reply) in
    let mid = c.in_ok-write_batch.ensures.let_go first reply (subst P (sym same) go) in
    let Q : List ℕ → Type 0 = λ waits. g.W.ReplySink.lets_go first (c.write_batch.new.writer, c.write_batch.new.handler) waits in
    stopped first [] (subst Q (sym (append-nil reply)) mid))
    c.write_replies.ensures.stopped
