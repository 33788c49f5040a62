use Rattle.std.proofs.lemmas.Result.{IfOk-weaker}
use Rattle.bpfjobs_cli.specs.Programs.{assembled, refused}
use Rattle.bpfjobs_cli.proofs.code.answer_assemble.Goals as goal

pub returns-in-Ok-assemble : goal.returns-in-Ok-assemble
returns-in-Ok-assemble c =
    let cases = c.in-Ok.ensures.cases in
    let found = rw cases.0 at c.in-Ok-assemble.ensures.found in
    IfOk-weaker c.in_hexadecimal.result _ _ (λ a p. assembled c.in-Ok-assemble.bytes.items found.0 cases.1 found.1 (rw c.deref.ensures.value at p)) c.in_hexadecimal.ensures

pub returns-in-Err-assemble : goal.returns-in-Err-assemble
returns-in-Err-assemble c =
    let cases = c.in-Ok.ensures.cases in
    let why = rw cases.0 at c.in-Err-assemble.ensures.refused in
    IfOk-weaker c.answer_refusal-in-Err-assemble.result _ _ (λ a p. refused c.in-Err-assemble.fault cases.1 why (rw (c.code.ensures, c.line.ensures) at p)) c.answer_refusal-in-Err-assemble.ensures
