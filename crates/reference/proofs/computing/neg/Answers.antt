use Rattle.std.proofs.Common.{◌≡◌, ◌∙◌, ap, refl, arith, nat_eq, false, Ok, Err}
use Rattle.std.proofs.lemmas.Bool.Decides.{nat_tests}
use Rattle.insn_codec.specs.declared.insn.Insn.{Insn}
use Rattle.insn_codec.specs.declared.insn.Insn.TheVariants.{Neg}
use Rattle.machine_model.specs.Machine.{State}
use Rattle.machine_model.specs.Outcomes.{negated}
use Rattle.reference.specs.Records.{state_of}
use Rattle.machine_model.specs.Value.{Num}
use Rattle.reference.proofs.EffectLemmas.{one_number, put_into}
use Rattle.reference.proofs.computing.neg.Goals as goal

pub returns-in-Err : goal.returns-in-Err
returns-in-Err c = λ p entries.
    let off : nat_eq c.args.dst 10 ≡ false = grind (arith, nat_tests, c.number.ensures.value, c.if-number-eq10.false) in
    one_number (Neg c.args.width c.args.dst) (state_of c.args.state) c.args.dst c.content.result ((state_of c.args.state).registers c.args.dst) (negated c.args.width)
    (Err c.in-Err.cause) off c.content.ensures c.in-Err.ensures

pub returns-in-Ok : goal.returns-in-Ok
returns-in-Ok c = λ p entries.
    let i : Insn = Neg c.args.width c.args.dst in
    let s : State = state_of c.args.state in
    let off : nat_eq c.args.dst 10 ≡ false = grind (arith, nat_tests, c.number.ensures.value, c.if-number-eq10.false) in
    c.put.ensures i refl
    ∙ ap (λ n. put_into i s c.args.dst (Num n)) c.negate.ensures
    ∙ one_number i s c.args.dst c.content.result (s.registers c.args.dst) (negated c.args.width) (Ok c.in-Ok.x) off c.content.ensures c.in-Ok.ensures
