use Rattle.std.proofs.Common.{refl}
use Rattle.sessions.specs.declared.tenant_key.TenantKey.TheVariants.{Required}
use Rattle.sessions.proofs.Naming.{named_reading, same_reading}
use Rattle.sessions.proofs.law.named_requests.Goals as goal

pub returns-clause-named : goal.returns-clause-named
returns-clause-named c = named_reading

pub returns-clause-required : goal.returns-clause-required
returns-clause-required c = λ d. same_reading Required d refl
