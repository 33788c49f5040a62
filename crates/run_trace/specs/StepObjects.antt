-- A step as a JSON object.
use Rattle.std.specs.Prelude.{ℕ, List, [], ◌∷◌, ◌++◌, codes, string_bytes, Option, Some, None}
use Rattle.std.specs.Fmt.{decimal}
use Rattle.std.specs.List.{flat_map}
use Rattle.run_trace.specs.Texts.{content_text}
use Rattle.run_trace.specs.StepTexts.{hex_text}
use Rattle.run_trace.specs.declared.step.RegisterChange.{RegisterChange}
use Rattle.run_trace.specs.declared.step.Step.{Step}
use Rattle.run_trace.specs.declared.step.ChangedBytes.{ChangedBytes}
use Rattle.run_trace.specs.declared.job_step.Came.{Came}
use Rattle.run_trace.specs.declared.job_step.Came.TheVariants.{Continued, Ended, Spawned}
use Rattle.run_trace.specs.declared.job_step.JobStep.{JobStep}

-- the line of the source text, if one is told
abbrev pub line_member : Option ℕ → List ℕ
line_member None = []
line_member (Some line) = codes ",\"line\":" ++ decimal line

-- a register, and what it holds
abbrev pub register_member : RegisterChange → List ℕ
register_member change = codes "\"r" ++ (decimal change.register ++ (codes "\":\""
    ++ (content_text change.content ++ codes "\"")))

-- registers behind the first, each behind a comma
abbrev pub further_members : List RegisterChange → List ℕ
further_members changes = flat_map (λ change. codes "," ++ register_member change) changes

-- the registers that changed, with a comma between two
abbrev pub register_members : List RegisterChange → List ℕ
register_members [] = []
register_members (first ∷ more) = register_member first ++ further_members more

-- where bytes of this region changed, if any did, and these bytes
abbrev pub region_member : List ℕ → Option ChangedBytes → List ℕ
region_member name None = []
region_member name (Some w) = codes ",\"" ++ (name ++ (codes "\":{\"at\":" ++ (decimal w.at
    ++ (codes ",\"bytes\":\"" ++ (hex_text w.bytes.items ++ codes "\"}")))))

-- what a step changed, and what the run has used since
abbrev pub effect_members : Step → List ℕ
effect_members step =
    codes ",\"registers\":{" ++ (register_members step.registers.items ++ (codes "}"
    ++ (region_member (codes "stack") step.stack ++ (region_member (codes "part") step.part
    ++ (codes ",\"used\":" ++ decimal step.used)))))

-- the slot of a step, the instruction and its line, and what it changed
abbrev pub step_members : Step → List ℕ
step_members step = codes "\"slot\":" ++ (decimal step.place.slot ++ (codes ",\"insn\":\""
    ++ (string_bytes step.place.text ++ (codes "\"" ++ (line_member step.place.line
    ++ effect_members step)))))

abbrev pub step_object : Step → List ℕ
step_object step = codes "{" ++ (step_members step ++ codes "}")

-- what a step of a job led to, as a member
abbrev pub outcome_member : Came → List ℕ
outcome_member Continued = []
outcome_member (Ended r0) = codes ",\"r0\":" ++ decimal r0
outcome_member (Spawned born) = codes ",\"spawned\":{\"task\":" ++ (decimal born.number
    ++ (codes ",\"program\":" ++ (decimal born.program ++ (codes ",\"share\":"
    ++ (decimal born.share ++ (codes ",\"argument\":" ++ (decimal born.arg
    ++ (codes ",\"bytes\":" ++ (decimal born.size ++ codes "}")))))))))

-- a step of a job, as an object
abbrev pub job_step_object : JobStep → List ℕ
job_step_object told = codes "{\"task\":" ++ (decimal told.task ++ (codes ","
    ++ (step_members told.step ++ (outcome_member told.came ++ codes "}"))))
