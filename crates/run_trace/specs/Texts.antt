-- What a register holds, as text.
use Rattle.std.specs.Prelude.{ℕ, List, ◌++◌, codes}
use Rattle.std.specs.Fmt.{decimal}
use Rattle.disassembler.specs.Line.{signed_text}
use Rattle.reference.specs.declared.records.Content.{Content}
use Rattle.reference.specs.declared.records.Content.TheVariants.{Unset, Num, Stack, Part}
use Rattle.run_trace.specs.declared.step.RegisterChange.{RegisterChange}

-- a number, or a pointer's region and its position
abbrev pub content_text : Content → List ℕ
content_text Unset = codes "unset"
content_text (Num n) = decimal n
content_text (Stack k) = codes "stack" ++ signed_text k
content_text (Part k) = codes "part" ++ signed_text k

abbrev pub change_text : RegisterChange → List ℕ
change_text change =
    codes "r" ++ (decimal change.register ++ (codes " " ++ content_text change.content))
