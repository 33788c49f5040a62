use Rattle.std.proofs.Common.{◌≡◌, ◌≤◌, [], drop, length, map}
use Rattle.bpfjobs_cli.specs.Tenants.{entered, tenants_in, words_said}
use Rattle.bpfjobs_cli.proofs.tenants.tenants_of_words.Given as goal

abbrev pub invariant-loop-n : goal.invariant-loop-n
invariant-loop-n l = record {
  within : l.n ≤ length l.words;
  same : entered [] 0 (words_said (map (λ w. w.now) l.words)) ≡ entered (tenants_in l.tenants.items) l.n (words_said (map (λ w. w.now) (drop l.n l.words)));
}
