use Rattle.std.proofs.Common.{rules}
use Rattle.sessions.specs.Grammar.{program_asked, program_from}
use Rattle.bpfjobs_cli.specs.AskRequests.{asked_program}
use Rattle.bpfjobs_cli.proofs.JobTextLemmas.{same_more, value_more}
use Rattle.bpfjobs_cli.proofs.job_texts.written_programs.Goals as goal

pub loop-program-preserved : goal.loop-program-preserved
loop-program-preserved c = record {
  same = same_more asked_program c.loop-program.values.items c.push.new.self.items c.in_ok-written_program.field-0 c.args.programs.now c.loop-program.program-index c.program-item.result
      c.loop-program-test.true c.program-item.is (search rules) c.loop-program.invariant.same c.in_ok-written_program.ensures.value;
  back = value_more program_from program_asked c.loop-program.values.items c.push.new.self.items c.in_ok-written_program.field-0 c.args.programs.now c.loop-program.program-index c.program-item.result
      c.loop-program-test.true c.program-item.is (search rules) c.loop-program.invariant.back c.in_ok-written_program.ensures.back;
}
