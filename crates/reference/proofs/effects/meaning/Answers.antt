use Rattle.std.specs.Result.{is_err}
use Rattle.std.proofs.Common.{ap, map, w16, w32, SFits, rules}
use Rattle.std.proofs.lemmas.Int.{to_z-of_z}
use Rattle.machine_model.specs.JobState.{entries_of}
use Rattle.reference.specs.Records.{program_of}
use Rattle.reference.proofs.effects.meaning.Goals as goal

pub returns-in-Alu-clause-value : goal.returns-in-Alu-clause-value
returns-in-Alu-clause-value c = rw c.in-Alu.is (c.alu.ensures.value (program_of c.args.program.now) (entries_of (map program_of c.args.programs.now)))

pub returns-in-Mov-clause-value : goal.returns-in-Mov-clause-value
returns-in-Mov-clause-value c = rw c.in-Mov.is (c.mov.ensures (program_of c.args.program.now) (entries_of (map program_of c.args.programs.now)))

pub returns-in-MovSx-clause-value : goal.returns-in-MovSx-clause-value
returns-in-MovSx-clause-value c = rw c.in-MovSx.is (c.mov_extended.ensures (program_of c.args.program.now) (entries_of (map program_of c.args.programs.now)))

pub returns-in-Neg-clause-value : goal.returns-in-Neg-clause-value
returns-in-Neg-clause-value c = rw c.in-Neg.is (c.neg.ensures (program_of c.args.program.now) (entries_of (map program_of c.args.programs.now)))

pub returns-in-End-clause-value : goal.returns-in-End-clause-value
returns-in-End-clause-value c = rw c.in-End.is (c.reorder.ensures (program_of c.args.program.now) (entries_of (map program_of c.args.programs.now)))

pub returns-in-LoadWide-clause-value : goal.returns-in-LoadWide-clause-value
returns-in-LoadWide-clause-value c = rw c.in-LoadWide.is (c.load_wide.ensures (program_of c.args.program.now) (entries_of (map program_of c.args.programs.now)))

pub returns-in-Exit-clause-value : goal.returns-in-Exit-clause-value
returns-in-Exit-clause-value c = rw c.in-Exit.is (c.exit.ensures (program_of c.args.program.now) (entries_of (map program_of c.args.programs.now)))

pub returns-in-Load-clause-value : goal.returns-in-Load-clause-value
returns-in-Load-clause-value c =
    let fits : SFits w16 c.in-Load.offset = search rules in
    let law = rw (to_z-of_z w16 c.in-Load.offset fits) at
    (c.load.ensures (program_of c.args.program.now) (entries_of (map program_of c.args.programs.now))) in
    rw c.in-Load.is law

pub returns-in-StoreRegister-clause-value : goal.returns-in-StoreRegister-clause-value
returns-in-StoreRegister-clause-value c =
    let fits : SFits w16 c.in-StoreRegister.offset = search rules in
    let law = rw (to_z-of_z w16 c.in-StoreRegister.offset fits) at
    (c.store_register.ensures (program_of c.args.program.now) (entries_of (map program_of c.args.programs.now))) in
    rw c.in-StoreRegister.is law

pub returns-in-JumpIf-clause-value : goal.returns-in-JumpIf-clause-value
returns-in-JumpIf-clause-value c =
    let fits : SFits w16 c.in-JumpIf.offset = search rules in
    let law = rw (to_z-of_z w16 c.in-JumpIf.offset fits) at
    (c.jump_if.ensures (program_of c.args.program.now) (entries_of (map program_of c.args.programs.now))) in
    rw c.in-JumpIf.is law

pub returns-in-Store-clause-value : goal.returns-in-Store-clause-value
returns-in-Store-clause-value c =
    let fits : SFits w16 c.in-Store.offset = search rules in
    let imm : SFits w32 c.in-Store.imm = search rules in
    let law = rw (to_z-of_z w16 c.in-Store.offset fits, to_z-of_z w32 c.in-Store.imm imm) at
    (c.store.ensures (program_of c.args.program.now) (entries_of (map program_of c.args.programs.now))) in
    rw c.in-Store.is law

pub returns-in-Alu-clause-far : goal.returns-in-Alu-clause-far
returns-in-Alu-clause-far c = λ large.
    rw c.in-Alu.is (c.alu.ensures.far (program_of c.args.program.now) (entries_of (map program_of c.args.programs.now)) (ap is_err large))
