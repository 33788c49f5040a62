-- The first number of a listing.
use Rattle.std.proofs.Common.{◌≡◌, ◌≢◌, ℕ, zero, suc, refl, arith}
use Rattle.tenant_desks.specs.JobLists.{first_number}

pub first_of_zero : (from : ℕ) → from ≡ 0 → 1 ≡ first_number from
first_of_zero zero is = refl
first_of_zero (suc n) is = absurd (omega (arith, is))

pub first_of_some : (from : ℕ) → from ≢ 0 → from ≡ first_number from
first_of_some zero apart = absurd (apart refl)
first_of_some (suc n) apart = refl
