-- Connections that could not be taken.
use Rattle.std.specs.Prelude.{ℤ, pos, negsuc, ◌==◌, ◌||◌, if◌then◌else◌, Option, None, Some}
use Rattle.endpoints.specs.declared.accept_faults.AcceptRetry.{AcceptRetry}
use Rattle.endpoints.specs.declared.accept_faults.AcceptRetry.TheVariants.{Now, Later, Never}

-- When connections are taken again after an error of this number of the system's. A signal (4), or a
-- client that has gone (103), is passed over. Want of memory (12, 105) or of descriptors (23, 24) is
-- waited out. Any other error lasts.
abbrev pub retry_by : Option ℤ → AcceptRetry
retry_by None = Never
retry_by (Some (negsuc n)) = Never
retry_by (Some (pos n)) =
    if (n == 4) || (n == 103) then Now
    else (if ((n == 12) || (n == 23)) || ((n == 24) || (n == 105)) then Later else Never)
