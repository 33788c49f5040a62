use Rattle.std.proofs.Common.{[]}
use Rattle.server_log.proofs.WholeLines.{with_line}
use Rattle.server_log.proofs.log_queue.LogLines.batch.Goals as goal

pub putting-init : goal.putting-init
putting-init g c = with_line c.args.self.now.form c.args.first ([], c.new-text.ensures.bytes) c.put_line.ensures

pub putting-preserved : goal.putting-preserved
putting-preserved g c =
    with_line c.args.self.now.form c.in-Some.line c.putting.invariant c.put_line-in-Some.ensures
