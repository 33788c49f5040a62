use Rattle.std.proofs.Common.{◌++◌, ◌∷◌, ◌+◌, [], List, arith, length, refl, subst, sym}
use Rattle.std.proofs.lemmas.Option.{slice_get_read}
use Rattle.insn_codec.specs.declared.insn.Placed.{Placed}
use Rattle.machine_model.specs.Machine.{Program}
use Rattle.run_trace.specs.Spelled.{listings_of, programs_of}
use Rattle.telgovan_c.proofs.ListingLemmas.{AreProgramsTo, accepted_at, spelled_all, spelled_more, spelled_none}
use Rattle.telgovan_c.proofs.job_traces.job_programs.Goals as goal

pub loop-program-init : goal.loop-program-init
loop-program-init c =
    spelled_none c.args.programs.now (listings_of c.none-found.result) (programs_of c.none-found.result) c.none-found.ensures.listings c.none-found.ensures.programs

pub add-requires : goal.add-requires
add-requires c =
    let here = slice_get_read c.args.programs.now (length c.args.programs.now) c.loop-program.program-index c.program-item.result refl c.loop-program-test.true c.program-item.is in
    rw c.deref.ensures.value (accepted_at c.args.programs.now c.requires.0 c.loop-program.program-index c.program-item.result c.requires.1 here)

pub loop-program-preserved : goal.loop-program-preserved
loop-program-preserved c =
    let here = slice_get_read c.args.programs.now (length c.args.programs.now) c.loop-program.program-index c.program-item.result refl c.loop-program-test.true c.program-item.is in
    let added = rw c.deref.ensures.value at c.in_ok-add.ensures.added in
    let more = spelled_more c.args.programs.now c.loop-program.program-index (listings_of c.loop-program.found) (programs_of c.loop-program.found) c.program-item.result
    added.0 added.1 c.loop-program.invariant here added.2 in
    subst (λ (l : List (List Placed)). AreProgramsTo c.args.programs.now (c.loop-program.program-index + 1) l (programs_of c.add.new.self)) (sym added.3)
    (subst (λ (ps : List Program). AreProgramsTo c.args.programs.now (c.loop-program.program-index + 1) (listings_of c.loop-program.found ++ added.0 ∷ []) ps) (sym added.4) more)

pub returns : goal.returns
returns c =
    spelled_all c.args.programs.now c.loop-program.program-index (listings_of c.loop-program.found) (programs_of c.loop-program.found) c.loop-program.invariant
    (omega (arith, c.loop-program-test.false, c.loop-program.auto.program-index-end))
