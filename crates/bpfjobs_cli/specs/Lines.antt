-- The lines of a job's steps, as text and as JSON.
use Rattle.std.specs.Prelude.{ℕ, List, ◌++◌, codes}
use Rattle.std.specs.List.{flat_map}
use Rattle.run_trace.specs.declared.job_step.JobStep.{JobStep}
use Rattle.run_trace.specs.StepTexts.{job_step_text}
use Rattle.run_trace.specs.StepObjects.{job_step_object}

-- the line of a step
unfoldable pub job_step_line : JobStep → List ℕ
job_step_line step = job_step_text step ++ codes "\n"

-- a line for each step
abbrev pub job_step_lines : List JobStep → List ℕ
job_step_lines steps = flat_map job_step_line steps

-- the object of a step, on a line
unfoldable pub job_object_line : JobStep → List ℕ
job_object_line step = job_step_object step ++ codes "\n"

abbrev pub job_object_lines : List JobStep → List ℕ
job_object_lines steps = flat_map job_object_line steps
