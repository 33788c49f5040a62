-- The places of endpoints.
use Rattle.std.specs.Prelude.{◌≡◌, ◌<◌, ◌+◌, ◌-◌, ◌/◌, ◌||◌, ℕ, List, Option, None, Some, if◌then◌else◌, nat_lt, nat_eq, replicate, slice_get, slice_index, slice_set}

-- an endpoint has fewer connections than its share
abbrev pub HasPlaceLeft : ℕ → List ℕ → ℕ → Type 0
HasPlaceLeft share counts endpoint =
    (count : ℕ) × (slice_get counts endpoint ≡ Some count) × (count < share)

-- one connection more of an endpoint
abbrev pub one_more_at : List ℕ → ℕ → List ℕ
one_more_at counts endpoint = slice_set counts endpoint (slice_index counts endpoint + 1)

-- one connection fewer of an endpoint
abbrev pub one_fewer_at : List ℕ → ℕ → List ℕ
one_fewer_at counts endpoint = slice_set counts endpoint (slice_index counts endpoint - 1)

-- The shares of so many places, with no connection yet: for each of so many tenants, for all others, and
-- for grants. There are none where there are no tenants, or more than 256, or where a share has less
-- than two places.
abbrev pub shares_for : ℕ → ℕ → Option (ℕ × List ℕ)
shares_for places tenants =
    if nat_eq tenants 0 || nat_lt 256 tenants then None
    else (if nat_lt (places / (tenants + 2)) 2 then None
    else Some (places / (tenants + 2), replicate (tenants + 2) 0))
