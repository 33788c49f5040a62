use Rattle.journal_file.proofs.Shortenings.{leads_on}
use Rattle.journal_file.proofs.shortening.shorten.Goals as goal

pub returns-clause-leads : goal.returns-clause-leads
returns-clause-leads g c history fit after is state =
    leads_on g.M.StateMachine.starts g.M.StateMachine.steps g.M.Snapshot.alike g.M.Snapshot.is_too_large g.met.M.Snapshot.alike_self c.round_trip.ensures
    c.args.machine.now c.args.journal.now c.args.log c.put_shorter.result c.put_shorter.ensures history fit after is state
