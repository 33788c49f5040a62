use Rattle.std.proofs.lemmas.Result.{IfErr-weaker, IfOk-weaker}
use Rattle.streams.proofs.Plainly.{begins_replies, writes_replies}
use Rattle.streams.proofs.inline_serving.serve_inline.Goals as goal

pub returns : goal.returns
returns g c = record {
  replies = IfOk-weaker c.serve_stream.result _ _ (λ number served. (
    served.0,
    served.1,
    writes_replies (λ r. r.finished.entries) (c.args.desk.now, c.args.runner.now) served.0 _ _ (c.serve_stream.new.desk, c.serve_stream.new.handler) number _ served.2,
  )) c.serve_stream.ensures.served;
  begins = IfErr-weaker c.serve_stream.result _ _ (λ fault stopped. (
    stopped.0,
    stopped.1,
    begins_replies (λ r. r.finished.entries) fault (c.args.desk.now, c.args.runner.now) stopped.0 _ (c.serve_stream.new.desk, c.serve_stream.new.handler) _ stopped.2,
  )) c.serve_stream.ensures.stopped;
}
