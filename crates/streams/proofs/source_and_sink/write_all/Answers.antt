use Rattle.std.proofs.Common.{rules, ◌++◌, take, drop, sym, ap, ◌∙◌, arith, append_assoc}
use Rattle.std.proofs.lemmas.List.{length-drop}
use Rattle.std.proofs.Math.Seq.{take-add, take-length}
use Rattle.streams.proofs.source_and_sink.write_all.Goals as goal

pub loop-done-preserved : goal.loop-done-preserved
loop-done-preserved g c =
    let inv = c.loop-done.invariant in
    let d = c.loop-done.done in
    let n = c.in-Ok.count in
    let bytes = c.args.bytes.now in
    let rest = ap (λ k. take k (drop d bytes)) (sym (length-drop d bytes)) ∙ take-length (drop d bytes) in
    let taken = ap (take n) rest in (
      omega (arith, c.in-Ok.ensures.count, length-drop d bytes, inv.0),
      c.in-Ok.ensures.bytes ∙ ap (λ xs. g.W.Sink.transcript c.loop-done.sink ++ xs) taken ∙ ap (λ xs. xs ++ take n (drop d bytes)) inv.1 ∙ append_assoc (g.W.Sink.transcript c.args.sink.now) (take d bytes) (take n (drop d bytes)) ∙ ap (λ xs. g.W.Sink.transcript c.args.sink.now ++ xs) (sym (take-add d n bytes)),
      search rules,
    )
