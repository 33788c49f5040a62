-- Where a server listens.
use Rattle.std.specs.Prelude.{◌≡◌, ◌+◌, ℕ, List, IfSome, length, vec_len}
use Rattle.std.specs.Arc.{arc_value}
use Rattle.bpfjobs.specs.declared.beginning.Beginning.{Beginning}
use Rattle.bpfjobs.specs.declared.listening.Listening.{Listening}
use Rattle.bpfjobs.specs.declared.listening.Listening.TheVariants.{Port, Sockets}

-- it listens at the doors of so many tenants, if it does at sockets
abbrev pub HasDoors : ℕ → Listening → Type 0
HasDoors count (Port listener port) = Unit {0}
HasDoors count (Sockets listener names) = vec_len listener.tenants ≡ count

-- A server of these tenants begins so: it has a door for each, listens at them, and has a journal for
-- each and one for everybody else, if it has any.
abbrev pub IsBeginningOf : {T : Type 0} → List T → Beginning → Type 0
IsBeginningOf tenants begun =
    (length begun.doors.items ≡ length tenants) × HasDoors (length begun.doors.items) begun.listening
    × IfSome begun.opened (λ some. length (arc_value some.journals).items ≡ length tenants + 1)
