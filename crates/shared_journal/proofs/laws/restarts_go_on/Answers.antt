use Rattle.shared_journal.proofs.Standings.{stands_with_more}
use Rattle.shared_journal.proofs.laws.restarts_go_on.Goals as goal

pub returns-clause-more : goal.returns-clause-more
returns-clause-more c bytes whole more stands = stands_with_more bytes whole more stands

pub returns-clause-alike : goal.returns-clause-alike
returns-clause-alike c bytes whole tail history found stands reads opened =
    (c.standing_bytes_keep_state.ensures bytes whole tail opened.tail history opened.payloads found.machine stands reads opened.reads opened.machine).1
