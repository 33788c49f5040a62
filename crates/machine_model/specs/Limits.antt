-- The limits of our profile: RFC 9669 sets none.
use Rattle.std.specs.Prelude.{ℕ}

-- the most bytes of a job's buffer, and so of a task's part and of what a program needs
abbrev pub max_part : ℕ
max_part = 65536

-- the most credit of a job, and so of a task
abbrev pub max_credit : ℕ
max_credit = 2147483647
