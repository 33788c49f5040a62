use Rattle.job_server.proofs.NoFlag.{end_if_stopped}
use Rattle.job_server.proofs.timed_stream.FlaggedStreamStoppableStream.is_stopped.Goals as goal

pub returns : goal.returns
returns g c =
    end_if_stopped c.args.self.now.stop _ c.is_stopped.result c.is_stopped.ensures
