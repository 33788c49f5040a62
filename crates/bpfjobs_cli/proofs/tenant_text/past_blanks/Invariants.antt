use Rattle.std.proofs.Common.{◌≡◌, length}
use Rattle.bpfjobs_cli.specs.TenantLines.{past_blanks}
use Rattle.bpfjobs_cli.proofs.tenant_text.past_blanks.Given as goal

abbrev pub invariant-loop-rest : goal.invariant-loop-rest
invariant-loop-rest l = past_blanks l.text ≡ past_blanks l.rest

abbrev pub decreases-loop-rest : goal.decreases-loop-rest
decreases-loop-rest l = length l.rest
