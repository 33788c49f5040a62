use Rattle.std.proofs.Common.{◌≡◌}
use Rattle.bpfjobs_cli.specs.JobWords.{repeated}
use Rattle.bpfjobs_cli.proofs.job_words.repeated.Given as goal

abbrev pub invariant-loop : goal.invariant-loop
invariant-loop l = l.all.items ≡ repeated l.counter l.bytes
