use Rattle.bpfjobs_cli.proofs.NameLemmas.{both_text, name_no_text, path_no_text}
use Rattle.bpfjobs_cli.proofs.tenants.texts.Goals as goal

pub returns-in-Ok-from_utf8-clause-test : goal.returns-in-Ok-from_utf8-clause-test
returns-in-Ok-from_utf8-clause-test c = both_text _ _ c.in-Ok.ensures.cases.1 c.in-Ok-from_utf8.ensures.cases.1

pub returns-in-Err-from_utf8-clause-test : goal.returns-in-Err-from_utf8-clause-test
returns-in-Err-from_utf8-clause-test c = path_no_text _ _ c.in-Ok.ensures.cases.1 c.in-Err-from_utf8.ensures.cases.0

pub returns-in-Err-clause-test : goal.returns-in-Err-clause-test
returns-in-Err-clause-test c = name_no_text _ _ c.in-Err.ensures.cases.0
