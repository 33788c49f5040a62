use Rattle.std.proofs.Common.{arith, rules}
use Rattle.std.proofs.lemmas.Bool.Decides.{nat_tests}
use Rattle.machine_model.proofs.OperatorLemmas.{residue_quotient}
use Rattle.machine_model.proofs.operators.apply_alu.Goals as goal

pub returns-in-Sdiv-2 : goal.returns-in-Sdiv-2
returns-in-Sdiv-2 c =
    let e = residue_quotient c.args.width c.args.a c.args.b c.residue.result c.signed.result c.signed-in-Sdiv-2.result c.wrapping_div.result (search rules) (search rules) (search rules) c.wrapping_div.ensures c.signed.ensures c.signed-in-Sdiv-2.ensures c.residue.ensures in
    grind (arith, nat_tests)
