use Rattle.std.proofs.Common.{sym, subst}
use Rattle.std.specs.Prelude.{IfOk}
use Rattle.serde_json.specs.View.{view}
use Rattle.bpfjobs_cli.specs.declared.ask.ServerQuestion.{ServerQuestion}
use Rattle.bpfjobs_cli.specs.AskRequests.{IsRequestData}
use Rattle.bpfjobs_cli.proofs.asked_request.request_value.Goals as goal

pub returns-in-Submit-clause-ok : goal.returns-in-Submit-clause-ok
returns-in-Submit-clause-ok c =
    subst (λ (q : ServerQuestion). IfOk c.submit_of_input.result (λ v. IsRequestData q c.args.input.now (view v))) (sym c.in-Submit.is) c.submit_of_input.ensures.ok
