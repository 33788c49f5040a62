use Rattle.std.proofs.Common.{◌≡◌, ◌<◌, ◌≤◌, ℕ, length, slice_index}
use Rattle.sessions.specs.Hexadecimal.{coded_digit}
use Rattle.sessions.proofs.hexadecimal.block_values.Given as goal

abbrev pub invariant-digits : goal.invariant-digits
invariant-digits l =
    (length l.values ≡ 64)
    × ((j : ℕ) → j < l.i → (slice_index l.values j ≡ coded_digit (slice_index l.text j)) × (slice_index l.values j ≤ l.most))
