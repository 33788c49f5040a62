-- The programs of a job, as their bytes spell them.
use Rattle.std.specs.Prelude.{◌≡◌, ℕ, List, length, map, slice_get, Some}
use Rattle.insn_codec.specs.declared.insn.Placed.{Placed}
use Rattle.insn_codec.specs.Spelling.{IsProgram}
use Rattle.flow_graph.specs.Program.{IsDecoded, code_of}
use Rattle.helpers.specs.Table.{arity_in, job_table}
use Rattle.machine_model.specs.Machine.{Program}
use Rattle.machine_model.specs.Paths.{AreCosts}
use Rattle.reference.specs.Records.{program_of}
use Rattle.run_trace.specs.declared.job_programs.JobPrograms.{JobPrograms}

-- a program of this need that these bytes spell, with the costs of its instructions, which may call
-- the helpers of a job
pub record IsSpelled (need : ℕ) (bytes : List ℕ) (placed : List Placed) (p : Program) : Type 0 where
  pub spelled : IsProgram placed bytes
  pub same_need : p.need ≡ need
  pub same_code : p.code ≡ code_of placed
  pub costs : AreCosts p.code p.costs
  pub helpers : (helper : ℕ) → p.registered helper ≡ arity_in job_table helper

-- the programs, and the instructions of each
abbrev pub programs_of : JobPrograms → List Program
programs_of ps = map program_of ps.programs.items

abbrev pub listings_of : JobPrograms → List (List Placed)
listings_of ps = map (λ l. l.placed.items) ps.listings.items

-- each program has the instructions at its place, which stand one after the other
pub record AreListed (listings : List (List Placed)) (programs : List Program) : Type 0 where
  pub many : length listings ≡ length programs
  pub each : (n : ℕ) (placed : List Placed) (p : Program) → slice_get listings n ≡ Some placed
      → slice_get programs n ≡ Some p → (p.code ≡ code_of placed) × IsDecoded placed
