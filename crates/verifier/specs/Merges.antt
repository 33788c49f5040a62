-- How many edges lead to a slot, and the merge points: slots where ways meet.
use Rattle.std.specs.Prelude.{ℕ, zero, suc, ◌+◌, ◌==◌, ◌||◌, nat_lt, Bool, length, Option, Some, None, if◌then◌else◌}
use Rattle.machine_model.specs.Edges.{Code, Always, NotTaken, Taken, leads_at}

-- 1 where an edge leads to s
abbrev pub one_to : Option ℕ → ℕ → ℕ
one_to None s = 0
one_to (Some t) s = if t == s then 1 else 0

-- how many edges lead from slot p to s: two from a conditional jump to the next slot
abbrev pub edges_from : Code → ℕ → ℕ → ℕ
edges_from code p s = one_to (leads_at code p Always) s + one_to (leads_at code p NotTaken) s
    + one_to (leads_at code p Taken) s

-- how many edges lead to s from the slots below n
abbrev pub edges_below : Code → ℕ → ℕ → ℕ
edges_below code s zero = 0
edges_below code s (suc n) = edges_below code s n + edges_from code n s

abbrev pub edges_into : Code → ℕ → ℕ
edges_into code s = edges_below code s (length code)

-- slot 0 is a merge point, and each slot with at least two edges into it
abbrev pub is_merge : Code → ℕ → Bool
is_merge code s = s == 0 || nat_lt 1 (edges_into code s)

-- how many of the slots below n are merge points
abbrev pub merges_below : Code → ℕ → ℕ
merges_below code zero = 0
merges_below code (suc n) = merges_below code n + (if is_merge code n then 1 else 0)

abbrev pub merge_count : Code → ℕ
merge_count code = merges_below code (length code)
