-- A whole job over the caller's memory, as C sees it.
use Rattle.std.specs.Prelude.{◌≡◌, ℕ, ◌+◌, ◌<◌, ◌≤◌, ◌⊎◌, List, length, slice_get, slice_range, true, false, Some, unwrap_or, is_some}
use Rattle.machine_model.specs.Limits.{max_credit, max_part}
use Rattle.credit_book.specs.declared.book.Report.{Report}
use Rattle.credit_book.specs.declared.event.TaskEnd.{TaskEnd}
use Rattle.job_core.specs.declared.admission.ProgramBytes.{ProgramBytes}
use Rattle.job_core.specs.declared.admission.AdmitFault.{AdmitFault}
use Rattle.job_core.specs.declared.admission.AdmitFault.TheVariants.{NoPrograms, TooManyPrograms, TooLarge, Program, CreditLow, BufferShort, NoMemory}
use Rattle.job_core.specs.Admission.{IsAdmittedFrom, RefusesJob, code_of_admit_fault, program_of_admit_fault, slot_of_admit_fault}
use Rattle.job_core.specs.Admitted.{AdmittedJob}
use Rattle.job_core.specs.PlaysLowest.{IsPlayed}
use Rattle.telgovan_c.specs.declared.jobs.JobReport.{JobReport}
use Rattle.telgovan_c.specs.declared.jobs.CodePiece.{CodePiece}
use Rattle.telgovan_c.specs.declared.jobs.ReportedTask.{ReportedTask}

-- the refusal, with the place and the slot that it tells
abbrev pub refused_report : AdmitFault → JobReport
refused_report fault = record {
  tasks = 0;
  status = code_of_admit_fault fault;
  spent = 0;
  returned = 0;
  program = unwrap_or (program_of_admit_fault fault) 0;
  slot = unwrap_or (slot_of_admit_fault fault) 0;
  has_program = is_some (program_of_admit_fault fault);
  has_slot = is_some (slot_of_admit_fault fault);
}

-- the code has no such piece
abbrev pub missing_report : ℕ → JobReport
missing_report place = record {
  tasks = 0;
  status = 43;
  spent = 0;
  returned = 0;
  program = place;
  slot = 0;
  has_program = true;
  has_slot = false;
}

-- what the job spent and returned, and how many tasks it had
abbrev pub played_report : Report → JobReport
played_report report = record {
  tasks = length report.tasks.items;
  status = 0;
  spent = report.spent;
  returned = report.returned;
  program = 0;
  slot = 0;
  has_program = false;
  has_slot = false;
}

-- a task of the report
abbrev pub reported_task : TaskEnd → ReportedTask
reported_task ended = record {
  argument = ended.arg;
  r0 = ended.r0;
  number = ended.number;
  program = ended.program;
  given = ended.given;
  spent = ended.spent;
  returned = ended.rest;
}

-- the room has as many of the tasks as it can have, in order, and else what it had
pub record AreWritten (ends : List TaskEnd) (old new : List ReportedTask) : Type 0 where
  pub count : length new ≡ length old
  pub written : (n : ℕ) (ended : TaskEnd) → n < length old → slice_get ends n ≡ Some ended
      → slice_get new n ≡ Some (reported_task ended)
  pub kept : (n : ℕ) → length ends ≤ n → slice_get new n ≡ slice_get old n

-- the program is that of the piece, which the code has
pub record IsCut (code : List ℕ) (piece : CodePiece) (program : ProgramBytes) : Type 0 where
  pub inside : piece.start + piece.length ≤ length code
  pub need : program.need ≡ piece.need
  pub bytes : program.code.items ≡ slice_range code piece.start (piece.start + piece.length)

-- each of the programs is that of its piece
abbrev pub AreCut : List ℕ → List CodePiece → List ProgramBytes → Type 0
AreCut code pieces programs = (n : ℕ) (piece : CodePiece) (program : ProgramBytes)
    → slice_get pieces n ≡ Some piece → slice_get programs n ≡ Some program
    → IsCut code piece program

-- the piece of this place is the first that the code doesn't have
pub record IsFirstMissing (code : List ℕ) (pieces : List CodePiece) (place : ℕ) : Type 0 where
  pub piece : CodePiece
  pub there : slice_get pieces place ≡ Some piece
  pub outside : length code < piece.start + piece.length
  pub earlier : (n : ℕ) (before : CodePiece) → n < place → slice_get pieces n ≡ Some before
      → before.start + before.length ≤ length code

-- the programs are those of all pieces, or of those before the first that the code doesn't have
pub record AreCutTo (code : List ℕ) (pieces : List CodePiece) (programs : List ProgramBytes) :
    Type 0 where
  pub each : AreCut code pieces programs
  pub most : length programs ≤ length pieces
  pub stops : length programs < length pieces
      → IsFirstMissing code pieces (length programs)

-- so many programs, this credit and so many bytes are within their limits
pub record IsWithinNumbers (count credit size : ℕ) : Type 0 where
  pub some : 1 ≤ count
  pub few : count ≤ 16
  pub limit : credit ≤ max_credit
  pub small : size ≤ max_part

-- they aren't, and this is the refusal
abbrev pub RefusesNumbers : ℕ → ℕ → ℕ → AdmitFault → Type 0
RefusesNumbers count credit size NoPrograms = count ≡ 0
RefusesNumbers count credit size TooManyPrograms = 16 < count
RefusesNumbers count credit size TooLarge =
    (1 ≤ count) × (count ≤ 16) × ((max_credit < credit) ⊎ (max_part < size))
RefusesNumbers count credit size (Program index refusal) = ⊥
RefusesNumbers count credit size CreditLow = ⊥
RefusesNumbers count credit size BufferShort = ⊥
RefusesNumbers count credit size NoMemory = ⊥

-- a job of these programs is admitted and played by the live task of lowest number; or it is
-- refused, and nothing changes
pub data IsJobOf (programs : List ProgramBytes) (credit : ℕ) (old new : List ℕ)
    (room tasks : List ReportedTask) (told : JobReport) : Type 0 where
  played : (job : AdmittedJob) → IsAdmittedFrom programs credit old job → (report : Report)
      → IsPlayed job report → new ≡ report.buffer.items → AreWritten report.tasks.items room tasks
      → told ≡ played_report report → IsJobOf programs credit old new room tasks told
  refused : (fault : AdmitFault) → RefusesJob programs credit old fault → new ≡ old → tasks ≡ room
      → told ≡ refused_report fault → IsJobOf programs credit old new room tasks told

-- a job of the programs that the pieces of the code are; or it is refused before they are cut out,
-- and nothing changes
pub data IsJob (code : List ℕ) (pieces : List CodePiece) (credit : ℕ) (old new : List ℕ)
    (room tasks : List ReportedTask) (told : JobReport) : Type 0 where
  of_programs : (programs : List ProgramBytes) → length programs ≡ length pieces
      → AreCut code pieces programs → IsJobOf programs credit old new room tasks told
      → IsJob code pieces credit old new room tasks told
  over_limits : (fault : AdmitFault) → RefusesNumbers (length pieces) credit (length old) fault
      → new ≡ old → tasks ≡ room → told ≡ refused_report fault
      → IsJob code pieces credit old new room tasks told
  missing : IsWithinNumbers (length pieces) credit (length old) → (place : ℕ)
      → IsFirstMissing code pieces place → new ≡ old → tasks ≡ room
      → told ≡ missing_report place → IsJob code pieces credit old new room tasks told
  no_memory : IsWithinNumbers (length pieces) credit (length old) → new ≡ old → tasks ≡ room
      → told ≡ refused_report NoMemory → IsJob code pieces credit old new room tasks told
