use Rattle.std.proofs.Common.{◌≡◌, ◌≤◌, length, map, take}
use Rattle.bpfjobs_cli.specs.JobWords.{said_source}
use Rattle.bpfjobs_cli.proofs.JobWordLemmas.{all_said}
use Rattle.bpfjobs_cli.proofs.job_words.sources_of_words.Given as goal

abbrev pub invariant-loop-n : goal.invariant-loop-n
invariant-loop-n l = record {
  within : l.n ≤ length l.words;
  same : all_said (take l.n l.words) ≡ map said_source l.sources.items;
}
