use Rattle.std.proofs.Common.{◌≡◌, ◌∙◌, ap, sym, Bool, rules, w16, w32, SFits, ℤ}
use Rattle.std.proofs.lemmas.Int.{to_z-of_z}
use Rattle.insn_codec.specs.declared.insn.Insn.{Insn}
use Rattle.insn_codec.specs.declared.insn.Insn.TheVariants.{JumpIf}
use Rattle.machine_model.specs.Edges.{target}
use Rattle.machine_model.specs.Machine.{Effect, State, fact_of, landing, onward}
use Rattle.reference.specs.Records.{state_of}
use Rattle.reference.proofs.jumps.jump_if.Goals as goal

pub returns-in-Err : goal.returns-in-Err
returns-in-Err c = λ p entries.
    let i : Insn = JumpIf c.args.width c.args.condition c.args.dst c.args.src c.args.offset in
    let go : Bool → Effect = λ b. onward i (fact_of b) (state_of c.args.state) in
    sym (c.in-Err.ensures go)

pub returns-in-Ok-true : goal.returns-in-Ok-true
returns-in-Ok-true c = λ p entries.
    let i : Insn = JumpIf c.args.width c.args.condition c.args.dst c.args.src c.args.offset in
    let s : State = state_of c.args.state in
    let go : Bool → Effect = λ b. onward i (fact_of b) s in
    let law = rw (c.in-Ok-true.field-0-test) at (c.in-Ok-true.ensures go) in
    let near : SFits w32 c.from.result = search rules in
    let wide : c.from.result ≡ c.args.offset = c.from.ensures ∙ to_z-of_z w16 c.args.offset c.ranges.offset in
    c.jump.ensures
    ∙ ap (λ (k : ℤ). landing s (target s.slot k)) (to_z-of_z w32 c.from.result near ∙ wide)
    ∙ sym law

pub returns-in-Ok-false : goal.returns-in-Ok-false
returns-in-Ok-false c = λ p entries.
    let i : Insn = JumpIf c.args.width c.args.condition c.args.dst c.args.src c.args.offset in
    let go : Bool → Effect = λ b. onward i (fact_of b) (state_of c.args.state) in
    let law = rw (c.in-Ok-false.field-0-test) at (c.in-Ok-false.ensures go) in
    sym law
