use Rattle.telgovan_c.proofs.worlds.run_task.Goals as goal

pub returns : goal.returns
returns c =
    let run = c.run-count.ensures in
    let told = c.told_of.ensures in
    record {
      came_to = c.run-count.result.1;
      runs = rw told.count run.runs;
      skipped = run.skipped;
      whole = rw told.count run.whole;
      most = rw told.count run.most;
      programs = run.programs;
      number_told = told.came;
      r0_told = told.r0;
      status = told.status;
      stands = told.world;
    }
