-- The line of a step, as text.
use Rattle.std.specs.Prelude.{ℕ, ◌/◌, ◌%◌, false, List, [], ◌∷◌, ◌++◌, codes, Option, Some, None}
use Rattle.std.specs.Fmt.{decimal, digit_glyph}
use Rattle.std.specs.List.{flat_map}
use Rattle.explain.specs.Texts.{instruction_place_text}
use Rattle.run_trace.specs.Texts.{change_text}
use Rattle.run_trace.specs.declared.step.RegisterChange.{RegisterChange}
use Rattle.run_trace.specs.declared.step.Step.{Step}
use Rattle.run_trace.specs.declared.step.ChangedBytes.{ChangedBytes}
use Rattle.run_trace.specs.declared.job_step.Born.{Born}
use Rattle.run_trace.specs.declared.job_step.Came.{Came}
use Rattle.run_trace.specs.declared.job_step.Came.TheVariants.{Continued, Ended, Spawned}
use Rattle.run_trace.specs.declared.job_step.JobStep.{JobStep}

-- a byte in hexadecimal
abbrev pub hex_byte : ℕ → List ℕ
hex_byte byte = digit_glyph false (byte / 16) ∷ digit_glyph false (byte % 16) ∷ []

abbrev pub hex_text : List ℕ → List ℕ
hex_text bytes = flat_map hex_byte bytes

-- the place of the bytes in their region, and the bytes
abbrev pub written_text : ChangedBytes → List ℕ
written_text w = codes "+" ++ (decimal w.at ++ (codes " " ++ hex_text w.bytes.items))

-- each register that changed, and what it holds
abbrev pub changes_text : List RegisterChange → List ℕ
changes_text changes = flat_map (λ change. change_text change ++ codes ", ") changes

-- the bytes of this region, if any changed
abbrev pub region_text : List ℕ → Option ChangedBytes → List ℕ
region_text name None = []
region_text name (Some w) = name ++ (written_text w ++ codes ", ")

-- the place of the instruction, what it changed, and what the run has used since
abbrev pub step_text : Step → List ℕ
step_text step = instruction_place_text step.place
    ++ (codes " ; " ++ (changes_text step.registers.items
    ++ (region_text (codes "stack") step.stack ++ (region_text (codes "part") step.part
    ++ (codes "used " ++ decimal step.used)))))

abbrev pub born_text : Born → List ℕ
born_text born = codes "task " ++ (decimal born.number ++ (codes " of program "
    ++ (decimal born.program ++ (codes ", share " ++ (decimal born.share ++ (codes ", argument "
    ++ (decimal born.arg ++ (codes ", " ++ (decimal born.size ++ codes " bytes")))))))))

-- what a step led to
abbrev pub came_text : Came → List ℕ
came_text Continued = []
came_text (Ended r0) = codes ", ends with " ++ decimal r0
came_text (Spawned born) = codes ", spawns " ++ born_text born

-- the number of the task, its step, and what that led to
abbrev pub job_step_text : JobStep → List ℕ
job_step_text told =
    codes "task " ++ (decimal told.task ++ (codes ", " ++ (step_text told.step ++ came_text told.came)))
