use Rattle.std.proofs.Common.{◌≡◌, length, arith, refl, subst}
use Rattle.std.proofs.lemmas.Option.{slice_get_read}
use Rattle.helpers.specs.Table.{job_table}
use Rattle.verifier.specs.Refusals.{IsAccepted, RefusesProgram}
use Rattle.job_core.proofs.Admissions.{accepted_none, accepted_more, accepted_all, accepted_own, first_fault}
use Rattle.job_core.proofs.admission.verify_each.Goals as goal

pub loop-program-init : goal.loop-program-init
loop-program-init c = rw (c.new-accepted.ensures.items) (accepted_none c.args.programs.now)

pub admit_fault-requires : goal.admit_fault-requires
admit_fault-requires c = omega (arith, c.len.ensures, c.loop-program.invariant.many, c.loop-program-test.true, c.requires)

pub returns-in-Err-clause-refused : goal.returns-in-Err-clause-refused
returns-in-Err-clause-refused c =
    let count : c.len.result ≡ c.loop-program.program-index = omega (arith, c.len.ensures, c.loop-program.invariant.many) in
    rw (c.admit_fault.ensures) (rw count
    (first_fault c.args.programs.now c.loop-program.program-index c.loop-program.accepted.items c.program-item.result c.in-Err.refusal
    c.loop-program.invariant
    (slice_get_read c.args.programs.now (length c.args.programs.now) c.loop-program.program-index c.program-item.result refl c.loop-program-test.true c.program-item.is)
    (subst (λ bytes. RefusesProgram c.program-item.result.need bytes job_table c.in-Err.refusal) c.deref.ensures.value
    (subst (λ table. RefusesProgram c.program-item.result.need c.deref.result.now table c.in-Err.refusal) c.job-helpers.ensures
    (c.in-Err.ensures)))))

pub loop-program-preserved : goal.loop-program-preserved
loop-program-preserved c =
    rw (c.in_ok-push-in-Ok.ensures.items)
    (accepted_more c.args.programs.now c.loop-program.program-index c.loop-program.accepted.items c.program-item.result c.in-Ok.verified
    c.loop-program.invariant
    (slice_get_read c.args.programs.now (length c.args.programs.now) c.loop-program.program-index c.program-item.result refl c.loop-program-test.true c.program-item.is)
    (subst (λ bytes. IsAccepted c.program-item.result.need bytes job_table c.in-Ok.verified) c.deref.ensures.value
    (subst (λ table. IsAccepted c.program-item.result.need c.deref.result.now table c.in-Ok.verified) c.job-helpers.ensures
    (c.in-Ok.ensures))))

pub returns-clause-accepted : goal.returns-clause-accepted
returns-clause-accepted c =
    accepted_all c.args.programs.now c.loop-program.program-index c.loop-program.accepted.items c.loop-program.invariant
    (omega (arith, c.loop-program-test.false, c.loop-program.auto.program-index-end))

pub returns-clause-own : goal.returns-clause-own
returns-clause-own c = accepted_own _ _ (returns-clause-accepted c)
