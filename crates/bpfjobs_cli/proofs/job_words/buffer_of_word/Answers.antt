use Rattle.std.proofs.Common.{rules}
use Rattle.bpfjobs_cli.proofs.JobWordLemmas.{times_most}
use Rattle.bpfjobs_cli.proofs.job_words.buffer_of_word.Goals as goal

pub are_short-requires : goal.are_short-requires
are_short-requires c = times_most c.cut_at.result.1.now c.in-Some.times (search rules)
