use Rattle.std.proofs.Common.{◌≡◌, ◌++◌, false, take}
use Rattle.sessions.specs.ServerTexts.{behind_counted, refusal_count_texts}
use Rattle.sessions.proofs.server_reply.write_refusal_counts.Given as goal

abbrev pub invariant-loop-refusal : goal.invariant-loop-refusal
invariant-loop-refusal l = record {
  written : l.out.items ≡ l.fn.out.items ++ refusal_count_texts false (take l.refusal-index l.refusals);
  later : l.is_later ≡ behind_counted false (take l.refusal-index l.refusals);
}
