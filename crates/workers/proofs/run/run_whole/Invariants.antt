use Rattle.std.proofs.Common.{◌≡◌, true, map}
use Rattle.verifier.specs.Checked.{program_of}
use Rattle.job_answer.specs.Gathered.{root_start}
use Rattle.job_answer.specs.OneAnswer.{RunsOrNot}
use Rattle.workers.specs.Heard.{HasHeard}
use Rattle.workers.proofs.run.run_whole.Given as goal

abbrev pub ghosts-run_whole_as-J-JobId : goal.ghosts-run_whole_as-J-JobId
ghosts-run_whole_as-J-JobId g a = record {
  table = a.register;
  board = a.post.board;
  root = root_start a.post.board.issued a.buffer.items;
  runs = λ o. RunsOrNot (map program_of a.programs.items) o
      × (o.ran ≡ true → HasHeard g.G.Gate.begins g.G.Gate.ends a.gate.now o.own.number);
}

-- of the gate that was given
abbrev pub ghosts-run_whole_as-J-GatedJob : goal.ghosts-run_whole_as-J-GatedJob
ghosts-run_whole_as-J-GatedJob g a = record { heard = HasHeard g.G.Gate.begins g.G.Gate.ends a.gate.now }
