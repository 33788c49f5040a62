use Rattle.std.proofs.Common.{arith}
use Rattle.telgovan_c.proofs.Pieces.{put_back}
use Rattle.telgovan_c.specs.Runs.{inside}
use Rattle.telgovan_c.proofs.runs.run_at.Goals as goal

pub returns : goal.returns
returns c =
    inside (omega (arith, c.if-run-size.false, c.if-run-size-2.false)) c.run_program.new.bytes c.run_program.ensures
    (put_back c.args.run.now.start c.args.run.now.length c.args.memory.now c.run_program.new.bytes)
