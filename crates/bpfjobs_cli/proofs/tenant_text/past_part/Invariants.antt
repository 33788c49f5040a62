use Rattle.std.proofs.Common.{◌≡◌, length}
use Rattle.bpfjobs_cli.specs.TenantLines.{from_delimiter}
use Rattle.bpfjobs_cli.proofs.tenant_text.past_part.Given as goal

abbrev pub invariant-loop-delimiter : goal.invariant-loop-delimiter
invariant-loop-delimiter l = from_delimiter l.delimiter l.text ≡ from_delimiter l.delimiter l.rest

abbrev pub decreases-loop-delimiter : goal.decreases-loop-delimiter
decreases-loop-delimiter l = length l.rest
