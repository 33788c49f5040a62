use Rattle.job_server.proofs.OwnPayloads.{own_payloads}
use Rattle.job_server.proofs.tenant_laws.payloads_lead_to_own_payloads.Goals as goal

pub returns : goal.returns
returns c = λ doors bounds sessions may_stop outcome s few. own_payloads doors bounds sessions may_stop outcome s few
