use Rattle.serde_json.specs.View.{view}
use Rattle.bpfjobs_cli.proofs.AskLemmas.{request_plain}
use Rattle.bpfjobs_cli.proofs.asked_request.ask_request.Goals as goal

pub returns-in-Ok-to_vec-clause-ok : goal.returns-in-Ok-to_vec-clause-ok
returns-in-Ok-to_vec-clause-ok c =
    let plain = request_plain c.args.question.now c.args.input.now (view c.in-Ok.value) c.in-Ok.ensures.ok in
    (view c.in-Ok.value, c.in-Ok.ensures.ok, c.in-Ok-to_vec.ensures.text plain)
