use Rattle.std.proofs.Common.{◌≡◌, Some, map, take}
use Rattle.serde_json.specs.View.{view}
use Rattle.sessions.specs.Grammar.{all_of, number_between}
use Rattle.sessions.specs.Replies.{whole}
use Rattle.bpfjobs_cli.proofs.job_texts.written_numbers.Given as goal

-- those of the first numbers
abbrev pub invariant-loop-number : goal.invariant-loop-number
invariant-loop-number l = record {
  same : map view l.values.items ≡ map whole (take l.number-index l.numbers);
  back : all_of (number_between 0 4294967295) (map view l.values.items) ≡ Some (map (λ n. n) (take l.number-index l.numbers));
}
