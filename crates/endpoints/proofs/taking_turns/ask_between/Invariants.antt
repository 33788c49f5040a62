use Rattle.std.proofs.Common.{◌-◌, ◌≤◌, ◌⊎◌}
use Rattle.endpoints.specs.Turns.{HadNoneBetween}
use Rattle.endpoints.proofs.taking_turns.ask_between.Given as goal

-- those that were asked had none
abbrev pub invariant-asking : goal.invariant-asking
invariant-asking g l =
    (l.first ≤ l.place) × ((l.place ≤ l.end) ⊎ (l.place ≤ l.first))
    × HadNoneBetween g.S.Socket.had_none l.sockets l.first l.place

abbrev pub decreases-asking : goal.decreases-asking
decreases-asking g l = l.end - l.place
