-- Numbers of which each range lies in what the other one tells.
use Rattle.std.specs.Prelude.{pos, neg_ℤ, ◌-ℤ◌, ◌≤ℤ◌, ◌<ℤ◌, ◌<◌, ◌≤◌, ◌^◌}
use Rattle.value_ranges.specs.Numbers.{Ranges}

-- both ranges are those of 64 bits
pub record HasWordEnds (n : Ranges) : Type 0 where
  pub bits : n.unsigned.hi < 2 ^ 64
  pub low : neg_ℤ (pos (2 ^ 63)) ≤ℤ n.signed.lo
  pub high : n.signed.hi <ℤ pos (2 ^ 63)

-- Neither range is empty. Where all numbers lie in one half of the words, their readings lie
-- between those of the ends; where all readings have one sign, the numbers lie between those that
-- read as the ends.
pub record IsTidy (n : Ranges) : Type 0 where
  pub ends : HasWordEnds n
  pub some : n.unsigned.lo ≤ n.unsigned.hi
  pub some_signed : n.signed.lo ≤ℤ n.signed.hi
  pub lower_half : n.unsigned.hi < 2 ^ 63 → (pos n.unsigned.lo ≤ℤ n.signed.lo)
      × (n.signed.hi ≤ℤ pos n.unsigned.hi)
  pub upper_half : 2 ^ 63 ≤ n.unsigned.lo →
      ((pos n.unsigned.lo -ℤ pos (2 ^ 64)) ≤ℤ n.signed.lo)
      × (n.signed.hi ≤ℤ (pos n.unsigned.hi -ℤ pos (2 ^ 64)))
  pub positive : pos 0 ≤ℤ n.signed.lo → (n.signed.lo ≤ℤ pos n.unsigned.lo)
      × (pos n.unsigned.hi ≤ℤ n.signed.hi)
  pub negative : n.signed.hi <ℤ pos 0 →
      (n.signed.lo ≤ℤ (pos n.unsigned.lo -ℤ pos (2 ^ 64)))
      × ((pos n.unsigned.hi -ℤ pos (2 ^ 64)) ≤ℤ n.signed.hi)
