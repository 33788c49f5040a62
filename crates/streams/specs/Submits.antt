-- What a request for a job asks.
use Rattle.std.specs.Prelude.{ℕ, List, map, String, string_bytes}
use Rattle.std.specs.declared.alloc.Global.{Global}
use Rattle.job_core.specs.declared.admission.ProgramBytes.{ProgramBytes}
use Rattle.sessions.specs.Grammar.{Asked, submit, program_asked}

-- by this tenant, with these programs
abbrev pub submit_asked : String Global → List ProgramBytes → ℕ → List ℕ → Asked
submit_asked tenant programs credit buffer = submit (string_bytes tenant) (record {
  programs = map program_asked programs;
  credit = credit;
  buffer = buffer;
})

-- the same request for a job, of the tenant of this name
abbrev pub of_tenant : List ℕ → Asked → Asked
of_tenant name (submit other order) = submit name order
of_tenant name other = other
