use Rattle.std.proofs.Common.{◌≡◌, ◌++◌, false, take}
use Rattle.sessions.specs.ListTexts.{behind_listed, listed_texts}
use Rattle.sessions.proofs.job_list.write_each.Given as goal

abbrev pub invariant-loop-job : goal.invariant-loop-job
invariant-loop-job l = record {
  written : l.out.items ≡ l.fn.out.items ++ listed_texts l.keys false (take l.job-index l.jobs);
  later : l.is_later ≡ behind_listed false (take l.job-index l.jobs);
}
