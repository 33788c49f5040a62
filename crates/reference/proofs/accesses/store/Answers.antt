use Rattle.std.proofs.Common.{◌∙◌, ap, refl, w16, w32}
use Rattle.std.proofs.lemmas.Int.{to_z-of_z}
use Rattle.insn_codec.specs.declared.insn.Insn.{Insn}
use Rattle.insn_codec.specs.declared.insn.Insn.TheVariants.{Store}
use Rattle.machine_model.specs.Value.{Value}
use Rattle.machine_model.specs.Machine.{State, stored}
use Rattle.machine_model.specs.Operators.{residue}
use Rattle.machine_model.specs.Memory.{store_bytes}
use Rattle.reference.specs.Records.{state_of}
use Rattle.reference.proofs.accesses.store.Goals as goal

pub returns : goal.returns
returns c = λ p entries.
    let i : Insn = Store c.args.size c.args.base c.args.offset c.args.imm in
    let s : State = state_of c.args.state in
    let law = rw (to_z-of_z w16 c.args.offset c.ranges.offset) at (c.store_number.ensures i refl) in
    law ∙ ap (λ (v : Value). stored i s v c.args.offset (store_bytes c.args.size) c.immediate.result) c.content-pointer.ensures
    ∙ ap (λ n. stored i s (s.registers c.args.base) c.args.offset (store_bytes c.args.size) n) (c.immediate.ensures ∙ ap (residue 64) (to_z-of_z w32 c.args.imm c.ranges.imm))
