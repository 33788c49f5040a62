-- Which helpers a program may call, and how many arguments each takes.
use Rattle.std.specs.Prelude.{◌≡◌, ℕ, ◌-◌, ◌<◌, ◌≤◌, nat_lt, List, [], ◌∷◌, Option, Some, None, slice_index_or, if◌then◌else◌}

-- how many arguments each helper takes that the caller added, by its id, of which the first is 64
abbrev pub Table : Type 0
Table = List (Option ℕ)

-- the helpers of every program, by id: `spawn`, `credit_left`, `part_len`, `fill` and `sum`
abbrev pub own_arity : ℕ → Option ℕ
own_arity id = slice_index_or (None ∷ Some 4 ∷ Some 0 ∷ Some 0 ∷ Some 3 ∷ Some 2 ∷ []) id None

-- the number of arguments of a helper, if it is in the table
abbrev pub arity_in : Table → ℕ → Option ℕ
arity_in table id = if nat_lt id 64 then own_arity id else slice_index_or table (id - 64) None

-- a job's programs may call no helper of a caller's
abbrev pub job_table : Table
job_table = []

-- there are at most 64 helpers of a caller's, with at most five arguments each
pub record IsHelperTable (table : Table) : Type 0 where
  pub each : (n arity : ℕ) → slice_index_or table n None ≡ Some arity → (n < 64) × (arity ≤ 5)
