use Rattle.std.proofs.Common.{◌≡◌, length}
use Rattle.bpfjobs_cli.specs.JobWords.{schedule_said}
use Rattle.bpfjobs_cli.proofs.JobWordLemmas.{then_more}
use Rattle.bpfjobs_cli.proofs.job_words.schedule_of_word.Given as goal

abbrev pub invariant-loop-number : goal.invariant-loop-number
invariant-loop-number l = schedule_said l.word ≡ then_more l.numbers.items (schedule_said l.rest)

abbrev pub decreases-loop-number : goal.decreases-loop-number
decreases-loop-number l = length l.rest
