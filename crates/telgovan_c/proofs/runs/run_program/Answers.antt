use Rattle.std.proofs.Common.{◌≤◌, arith, length, refl}
use Rattle.verifier.specs.Checked.{Checked, cost_at}
use Rattle.virtual_machine.specs.declared.vm_fault.VmFault.TheVariants.{CreditLow, MemoryShort}
use Rattle.telgovan_c.specs.Runs.{refused, ran}
use Rattle.telgovan_c.proofs.Helpless.{executes_alone, have_none, nobody}
use Rattle.telgovan_c.proofs.runs.run_program.Goals as goal

pub run_alone-done-requires-clause-functions : goal.run_alone-done-requires-clause-functions
run_alone-done-requires-clause-functions c = have_none _ _ c.requires.job

pub returns-then-credit-cost : goal.returns-then-credit-cost
returns-then-credit-cost c =
    let p : Checked = c.args.program.now in
    refused c.if-credit-gt-MAX_CREDIT.false c.if-bytes-gt-MAX_PART.false (CreditLow (cost_at p 0) c.args.credit)
    (p, refl, omega (arith, c.if-credit-cost.true, c.cost.ensures), refl, refl) refl c.refused_run-then-credit-cost.ensures

pub returns-then-bytes-need : goal.returns-then-bytes-need
returns-then-bytes-need c =
    let p : Checked = c.args.program.now in
    refused c.if-credit-gt-MAX_CREDIT.false c.if-bytes-gt-MAX_PART.false (MemoryShort p.need (length c.args.bytes.now))
    (p, refl, omega (arith, c.if-credit-cost.false, c.cost.ensures), omega (arith, c.if-bytes-need.true, c.need.ensures.need), refl, refl) refl
    c.refused_run-then-bytes-need.ensures

pub returns : goal.returns
returns c =
    let p : Checked = c.args.program.now in
    let affords : cost_at p 0 ≤ c.args.credit = omega (arith, c.if-credit-cost.false, c.cost.ensures) in
    ran c.if-credit-gt-MAX_CREDIT.false c.if-bytes-gt-MAX_PART.false c.run_alone-done.result.r0 c.run_alone-done.result.used
    (executes_alone _ _ (nobody _ c.none-functions.ensures) c.args.argument c.args.credit c.args.bytes.now _ _ _ (record {
      p = p;
      runnable = record { set = refl; affords = affords; fits = omega (arith, c.if-bytes-need.false, c.need.ensures.need) };
      runs = c.run_alone-done.ensures.runs;
    })) refl
