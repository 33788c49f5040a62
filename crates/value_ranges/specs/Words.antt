-- The words by which the layers above speak of abstract values.
use Rattle.std.specs.Prelude.{ℕ, pos, ◌≤◌, ◌<◌, ◌*◌, ◌-◌, ◌^◌, ◌==◌, if◌then◌else◌}
use Rattle.machine_model.specs.Limits.{max_part}
use Rattle.value_ranges.specs.Interval.{interval}
use Rattle.value_ranges.specs.Numbers.{Ranges, spanned}
use Rattle.value_ranges.specs.Span.{span}
use Rattle.value_ranges.specs.Covers.{Covers}
use Rattle.value_ranges.specs.declared.abs.Abs.{Abs}
use Rattle.value_ranges.specs.declared.abs.Abs.TheVariants.{Unset, Num, Stack, Part}
use Rattle.machine_model.specs.Value as value
use Rattle.machine_model.specs.Memory.{load_bytes, widened}
use Rattle.machine_model.specs.JobState.{entry_registers}
use Rattle.insn_codec.specs.declared.insn.LoadKind.{LoadKind}
use Rattle.insn_codec.specs.declared.insn.LoadKind.TheVariants as kind

-- some number from lo to hi
abbrev pub between : ℕ → ℕ → Abs
between lo hi = Num (spanned (interval lo hi))

-- this one number
abbrev pub single_value : ℕ → Abs
single_value x = between x x

-- any number
abbrev pub any_number : Abs
any_number = between 0 (2 ^ 64 - 1)

-- the greatest of the numbers
abbrev pub greatest : Ranges → ℕ
greatest n = n.unsigned.hi

-- what a load gives
abbrev pub load_range : LoadKind → Abs
load_range kind.Byte = between 0 255
load_range kind.Half = between 0 65535
load_range kind.Word = between 0 (2 ^ 32 - 1)
load_range k = any_number

-- whatever bytes are loaded, r covers what is made of their number
abbrev pub CoversLoads : LoadKind → Abs → Type 0
CoversLoads k r = (x : ℕ) → x < 2 ^ (8 * load_bytes k) → Covers r (value.Num (widened k x))

-- what a register holds at a task's start, in a program that needs so many bytes
abbrev pub entry : ℕ → ℕ → Abs
entry need r =
    if r == 10 then Stack (span (pos 512) (pos 512)) else
    if r == 3 then any_number else
    if r == 2 then between need max_part else
    if r == 1 then Part (span (pos 0) (pos 0)) else Unset

-- whatever part and argument a task starts with, a covers the register
abbrev pub CoversEntry : ℕ → ℕ → Abs → Type 0
CoversEntry need r a =
    (size arg : ℕ) → need ≤ size → size ≤ max_part → arg < 2 ^ 64
    → Covers a (entry_registers size arg r)
