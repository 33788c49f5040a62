-- The lines of a trace, as text and as JSON.
use Rattle.std.specs.Prelude.{ℕ, List, ◌++◌, codes}
use Rattle.std.specs.List.{flat_map}
use Rattle.run_trace.specs.declared.step.Step.{Step}
use Rattle.run_trace.specs.StepTexts.{step_text}
use Rattle.run_trace.specs.StepObjects.{step_object}

-- the line of a step
unfoldable pub step_line : Step → List ℕ
step_line step = step_text step ++ codes "\n"

-- a line for each step
abbrev pub step_lines : List Step → List ℕ
step_lines steps = flat_map step_line steps

-- the object of a step, on a line
unfoldable pub object_line : Step → List ℕ
object_line step = step_object step ++ codes "\n"

abbrev pub object_lines : List Step → List ℕ
object_lines steps = flat_map object_line steps
