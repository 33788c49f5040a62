use Rattle.std.proofs.Common.{◌≡◌, ◌∙◌, ℕ, ap, refl, arith, nat_eq, false, Err, Ok, w16}
use Rattle.std.proofs.lemmas.Bool.Decides.{nat_tests}
use Rattle.std.proofs.lemmas.Int.{to_z-of_z}
use Rattle.insn_codec.specs.declared.insn.Insn.{Insn}
use Rattle.insn_codec.specs.declared.insn.Insn.TheVariants.{Load}
use Rattle.machine_model.specs.Machine.{Effect, State, located}
use Rattle.machine_model.specs.Memory.{load_bytes, widened}
use Rattle.reference.specs.declared.records.Place.TheVariants as place
use Rattle.reference.specs.Records.{placing, state_of, value_of}
use Rattle.machine_model.specs.Value.{Num}
use Rattle.reference.proofs.EffectLemmas.{load_done, put_into}
use Rattle.reference.proofs.accesses.load.Goals as goal

pub returns-in-Err : goal.returns-in-Err
returns-in-Err c = λ p entries.
    let i : Insn = Load c.args.kind c.args.dst c.args.base c.args.offset in
    let s : State = state_of c.args.state in
    let off : nat_eq c.args.dst 10 ≡ false = grind (arith, nat_tests, c.number.ensures.value, c.if-number-eq10.false) in
    let law : (stack part : ℕ → Effect) → located s (value_of c.content.result) c.args.offset c.load_bytes.result stack part
    ≡ placing stack part (Err c.in-Err.cause) =
    λ stack part. rw (to_z-of_z w16 c.args.offset c.ranges.offset) at (c.in-Err.ensures.leads stack part) in
    load_done i s c.args.dst c.content.result (s.registers c.args.base) c.args.offset c.load_bytes.result (load_bytes c.args.kind)
    (widened c.args.kind) (Err c.in-Err.cause) off c.content.ensures c.load_bytes.ensures law

pub returns-in-Ok-Stack : goal.returns-in-Ok-Stack
returns-in-Ok-Stack c = λ p entries.
    let i : Insn = Load c.args.kind c.args.dst c.args.base c.args.offset in
    let s : State = state_of c.args.state in
    let off : nat_eq c.args.dst 10 ≡ false = grind (arith, nat_tests, c.number.ensures.value, c.if-number-eq10.false) in
    let law : (stack part : ℕ → Effect) → located s (value_of c.content.result) c.args.offset c.load_bytes.result stack part
    ≡ placing stack part (Ok (place.Stack c.in-Ok-Stack.at)) =
    λ stack part. rw (to_z-of_z w16 c.args.offset c.ranges.offset, c.in-Ok-Stack.field-0-is) at (c.in-Ok-Stack.ensures.leads stack part) in
    c.put.ensures i refl
    ∙ ap (λ n. put_into i s c.args.dst (Num n)) c.load-number.ensures.value
    ∙ load_done i s c.args.dst c.content.result (s.registers c.args.base) c.args.offset c.load_bytes.result (load_bytes c.args.kind)
    (widened c.args.kind) (Ok (place.Stack c.in-Ok-Stack.at)) off c.content.ensures c.load_bytes.ensures law

pub returns-in-Ok-Part : goal.returns-in-Ok-Part
returns-in-Ok-Part c = λ p entries.
    let i : Insn = Load c.args.kind c.args.dst c.args.base c.args.offset in
    let s : State = state_of c.args.state in
    let off : nat_eq c.args.dst 10 ≡ false = grind (arith, nat_tests, c.number.ensures.value, c.if-number-eq10.false) in
    let law : (stack part : ℕ → Effect) → located s (value_of c.content.result) c.args.offset c.load_bytes.result stack part
    ≡ placing stack part (Ok (place.Part c.in-Ok-Part.at)) =
    λ stack part. rw (to_z-of_z w16 c.args.offset c.ranges.offset, c.in-Ok-Part.field-0-is) at (c.in-Ok-Part.ensures.leads stack part) in
    let loaded = rw c.deref.ensures.value at c.load-number-in-Ok-Part.ensures.value in
    c.put-in-Ok-Part.ensures i refl
    ∙ ap (λ n. put_into i s c.args.dst (Num n)) loaded
    ∙ load_done i s c.args.dst c.content.result (s.registers c.args.base) c.args.offset c.load_bytes.result (load_bytes c.args.kind)
    (widened c.args.kind) (Ok (place.Part c.in-Ok-Part.at)) off c.content.ensures c.load_bytes.ensures law
