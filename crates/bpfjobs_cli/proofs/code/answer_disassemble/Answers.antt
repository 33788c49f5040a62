use Rattle.std.proofs.Common.{rules, refl}
use Rattle.std.proofs.lemmas.Result.{IfOk-weaker}
use Rattle.std.specs.Prelude.{string_bytes}
use Rattle.bpfjobs_cli.specs.Programs.{listed, refused}
use Rattle.bpfjobs_cli.proofs.code.answer_disassemble.Goals as goal

pub returns-in-Ok-disassemble : goal.returns-in-Ok-disassemble
returns-in-Ok-disassemble c =
    let found = rw c.deref.ensures.value at c.in-Ok-disassemble.ensures.found in
    listed c.in-Ok.bytes.items (string_bytes c.in-Ok-disassemble.lines) found.0 c.in-Ok.ensures.ok found.1 (search rules, refl, refl)

pub returns : goal.returns
returns c =
    let why = rw c.deref.ensures.value at c.in-Err.ensures.refused in
    IfOk-weaker c.answer_refusal-in-Err.result _ _ (λ a p. refused c.in-Ok.bytes.items c.in-Err.fault c.in-Ok.ensures.ok why (rw (c.code.ensures, c.place_of.ensures, c.slot.ensures) at p)) c.answer_refusal-in-Err.ensures
