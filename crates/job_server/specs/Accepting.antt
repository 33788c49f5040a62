-- Connections that could not be taken.
use Rattle.std.specs.Prelude.{ℤ, pos, negsuc, ◌==◌, ◌||◌, if◌then◌else◌, Option, None, Some}
use Rattle.job_server.specs.declared.accept_faults.AfterFault.{AfterFault}
use Rattle.job_server.specs.declared.accept_faults.AfterFault.TheVariants.{Goes, Waits, Ends}

-- What a server does after an error of this number of the system's. A signal (4), or a client that has
-- gone (103), is passed over. Want of memory (12, 105) or of descriptors (23, 24) is waited out. Any
-- other error lasts.
abbrev pub after_errno : Option ℤ → AfterFault
after_errno None = Ends
after_errno (Some (negsuc n)) = Ends
after_errno (Some (pos n)) =
    if (n == 4) || (n == 103) then Goes
    else (if ((n == 12) || (n == 23)) || ((n == 24) || (n == 105)) then Waits else Ends)
