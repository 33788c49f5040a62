-- The tasks that are kept, where a child is added to them.
use Rattle.std.proofs.Common.{◌≡◌, ℕ, ◌<◌, ◌^◌, List, [], ◌∷◌, ◌++◌, length, Result, Ok, Err, Option, Some, false}
use Rattle.credit_book.specs.declared.event.TaskEnd.{TaskEnd}
use Rattle.helpers.specs.declared.spawner.SpawnRecord.{SpawnRecord}
use Rattle.job_core.specs.declared.live.Live.{Live}
use Rattle.job_core.specs.Seats.{live_of}

-- what the report says of a child as long as it is alive
abbrev pub entered : ℕ → SpawnRecord → TaskEnd
entered number child = record {
  number = number;
  program = child.program;
  arg = child.arg;
  given = child.share;
  spent = 0;
  rest = 0;
  r0 = 0;
  ran = false;
}

-- the child of a parent has the next number, or nothing changes
abbrev pub Adds : ℕ → List (Option Live) → List TaskEnd → List ℕ → SpawnRecord → Result (Unit {0}) SpawnRecord →
    List (Option Live) → List TaskEnd → List ℕ → Type 0
Adds parent lives ends parents child (Ok done) lives' ends' parents' =
    (child.arg < 2 ^ 64) × (lives' ≡ lives ++ Some (live_of child) ∷ []) × (ends' ≡ ends ++ entered (length lives) child ∷ [])
    × (parents' ≡ parents ++ parent ∷ [])
Adds parent lives ends parents child (Err back) lives' ends' parents' = (lives' ≡ lives) × (ends' ≡ ends) × (parents' ≡ parents)
