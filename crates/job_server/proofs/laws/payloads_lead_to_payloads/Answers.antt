use Rattle.job_server.proofs.FromSubmit.{host_payloads}
use Rattle.job_server.proofs.laws.payloads_lead_to_payloads.Goals as goal

pub returns : goal.returns
returns c = host_payloads
