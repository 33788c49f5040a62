use Rattle.std.proofs.Common.{◌≡◌, ◌≤◌, true, take}
use Rattle.std.specs.List.{list_all}
use Rattle.std.specs.Char.{is_ascii_digit}
use Rattle.std.specs.Str.Parse.{digits_value}
use Rattle.bpfjobs_cli.proofs.tenant_number.number_said.Given as goal

-- the digits that were read, and the number that they write
abbrev pub invariant-loop-byte : goal.invariant-loop-byte
invariant-loop-byte l =
    (list_all is_ascii_digit (take l.byte-index l.digits) ≡ true) × (l.number ≡ digits_value 10 (take l.byte-index l.digits))
    × (l.number ≤ l.high)
