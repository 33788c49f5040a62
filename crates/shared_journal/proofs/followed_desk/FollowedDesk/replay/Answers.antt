use Rattle.shared_journal.proofs.Replays.{lead_on, not_denied}
use Rattle.shared_journal.proofs.followed_desk.FollowedDesk.replay.Goals as goal

pub invariant_of-self-2 : goal.invariant_of-self-2
invariant_of-self-2 c found =
    lead_on _ c.args.bytes.now _ c.self.inside.desk _ (c.self.invariant c.if-self.false) (c.is_replayed.ensures (not_denied _ found)) c.then-self-inside.ensures
