-- The journals that the replies of a connection rest on.
use Rattle.std.specs.Prelude.{ℕ, ◌||◌, List, take, drop, length, nat_le, if◌then◌else◌}
use Rattle.shared_desk.specs.declared.passage.Passage.{Passage}
use Rattle.tenant_desks.specs.Routing.{place_behind}

-- the one at a place, as a list
abbrev pub one_at : {J : Type 0} → List J → ℕ → List J
one_at journals place = take 1 (drop place journals)

-- There is a journal for each desk. A connection that may grant is told of every desk, so its replies
-- rest on all journals. Those of any other rest on that of the desk behind its door. Where there is no
-- such desk they rest on all, too.
abbrev pub journals_behind : {J : Type 0} → List J → Passage → List J
journals_behind journals passage =
    if passage.may_grant || nat_le (length journals) (place_behind passage.door) then journals
    else one_at journals (place_behind passage.door)
