use Rattle.std.proofs.Common.{◌≡◌, ◌+◌, ◌<◌}
use Rattle.job_server.specs.Listening.{CameBy, HasGivenSince}
use Rattle.shared_desk.specs.declared.passage.Passage.{Passage}
use Rattle.job_server.proofs.entrance.Entrance.next.Given as goal

-- no session is lost, and those that were opened are connections of the first listener
abbrev pub invariant-taking : goal.invariant-taking
invariant-taking g l =
    (l.self-inside.opened + l.self-inside.left ≡ l.self-inside.sessions)
    × (l.self-inside.sessions < 18446744073709551615)
    × (l.self-inside.opened ≡ l.self-inside.opener)
    × HasGivenSince g.L.Listener.opens g.L.Listener.fails g.J.FirstListener.is_first l.self-inside.opened l.self-inside.listener
    × ((p : Passage) → CameBy g.L.Listener.opens g.L.Listener.passage p → g.J.HistoryId.comes p)
