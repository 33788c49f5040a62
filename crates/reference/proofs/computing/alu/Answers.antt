use Rattle.std.proofs.Common.{◌≡◌, ◌∙◌, subst, ap, sym, refl, arith, nat_eq, false, Option}
use Rattle.std.proofs.lemmas.Bool.Decides.{nat_tests}
use Rattle.insn_codec.specs.declared.insn.Insn.{Insn}
use Rattle.insn_codec.specs.declared.insn.Insn.TheVariants.{Alu}
use Rattle.machine_model.specs.Machine.{Effect, State, computing, given, operand_in, reading}
use Rattle.machine_model.specs.Outcomes.{alu_outcome}
use Rattle.reference.specs.Records.{GoesFar, IsFarResult, state_of, value_of}
use Rattle.machine_model.specs.Value.{Value}
use Rattle.reference.proofs.EffectLemmas.{far_given, put_into, writes}
use Rattle.reference.proofs.computing.alu.Goals as goal

pub returns-in-Err-clause-value : goal.returns-in-Err-clause-value
returns-in-Err-clause-value c = λ p entries.
    let i : Insn = Alu c.args.width c.args.op c.args.dst c.args.src in
    let s : State = state_of c.args.state in
    let off : nat_eq c.args.dst 10 ≡ false = grind (arith, nat_tests, c.number.ensures.value, c.if-number-eq10.false) in
    let go : Value → Value → Effect = λ x y. computing i s c.args.dst x y in
    sym (writes c.args.dst (reading (s.registers c.args.dst) (λ x. reading (operand_in s c.args.src) (λ y. go x y))) off ∙ c.in-Err.ensures go)

pub returns-in_ok-value-in-Ok-clause-value : goal.returns-in_ok-value-in-Ok-clause-value
returns-in_ok-value-in-Ok-clause-value c = λ p entries.
    let i : Insn = Alu c.args.width c.args.op c.args.dst c.args.src in
    let s : State = state_of c.args.state in
    let off : nat_eq c.args.dst 10 ≡ false = grind (arith, nat_tests, c.number.ensures.value, c.if-number-eq10.false) in
    let go : Value → Value → Effect = λ x y. computing i s c.args.dst x y in
    c.put_given.ensures i refl
    ∙ ap (λ (o : Option Value). given o (put_into i s c.args.dst)) c.in_ok-value-in-Ok.ensures.value
    ∙ sym (writes c.args.dst (reading (s.registers c.args.dst) (λ x. reading (operand_in s c.args.src) (λ y. go x y))) off ∙ c.in-Ok.ensures go)

pub returns-in_err-value-in-Ok-clause-far : goal.returns-in_err-value-in-Ok-clause-far
returns-in_err-value-in-Ok-clause-far c = λ p entries err.
    let i : Insn = Alu c.args.width c.args.op c.args.dst c.args.src in
    let s : State = state_of c.args.state in
    let off : nat_eq c.args.dst 10 ≡ false = grind (arith, nat_tests, c.number.ensures.value, c.if-number-eq10.false) in
    let go : Value → Value → Effect = λ x y. computing i s c.args.dst x y in
    let same = writes c.args.dst (reading (s.registers c.args.dst) (λ x. reading (operand_in s c.args.src) (λ y. go x y))) off ∙ c.in-Ok.ensures go in
    let far : IsFarResult (alu_outcome c.args.width c.args.op (value_of c.in-Ok.left) (value_of c.in-Ok.right)) = c.in_err-value-in-Ok.ensures.far refl in
    subst GoesFar (sym same) (far_given i s c.args.dst (alu_outcome c.args.width c.args.op (value_of c.in-Ok.left) (value_of c.in-Ok.right)) refl far)
