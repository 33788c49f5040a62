use Rattle.std.proofs.Common.{◌≡◌, ◌<◌, ◌+◌, ◌-◌, ap, refl, arith, ◌∙◌}
use Rattle.interpreter.specs.declared.credit.Credit.{Credit}
use Rattle.interpreter.specs.Representation.{at_slot}
use Rattle.yielding.proofs.AskLemmas.{is_there}
use Rattle.yielding.proofs.PieceLemmas.{halts_by, led_far, led_start, led_step, stops_asking, stops_at_limit, stops_ended}
use Rattle.yielding.proofs.pieces.run_piece.Goals as goal

pub stretches-init : goal.stretches-init
stretches-init c = record {
  within = omega arith;
  covered = c.requires;
  led = λ s stands. led_start _ _ s _ _ _ (omega arith) stands;
  size = refl;
  spends = omega arith;
  holds = omega arith;
}

pub go_on-stretch-requires : goal.go_on-stretch-requires
go_on-stretch-requires c = c.stretches.invariant.covered

pub question-requires : goal.question-requires
question-requires c =
    let halts = halts_by _ _ _ _ c.go_on-stretch.result.ran c.stretches.left c.go_on-stretch.result.pause c.stop_of.result c.stop_of.ensures
    c.go_on-stretch.ensures.pauses in
    is_there _ _ _ _ _ (rw c.in-Asks.is at halts).2

pub step-requires : goal.step-requires
step-requires c =
    let halts = halts_by _ _ _ _ c.go_on-stretch.result.ran c.stretches.left c.go_on-stretch.result.pause c.stop_of.result c.stop_of.ensures
    c.go_on-stretch.ensures.pauses in
    (rw c.in-ByItself.is at halts).1

pub returns-in-AtLimit-clause-runs : goal.returns-in-AtLimit-clause-runs
returns-in-AtLimit-clause-runs c = λ s stands.
    let way = c.stretches.invariant in
    let within = way.within in
    let halts = halts_by _ _ _ _ c.go_on-stretch.result.ran c.stretches.left c.go_on-stretch.result.pause c.stop_of.result c.stop_of.ensures
    c.go_on-stretch.ensures.pauses in
    let full : c.go_on-stretch.result.ran ≡ c.stretches.left = rw c.in-AtLimit.is at halts in
    stops_at_limit _ _ s _ _ _ (led_far _ _ s _ _ _ (way.led s stands) _ _ _ _ c.go_on-stretch.ensures.goes c.go_on-stretch.ensures.credit _
    (omega (arith, full, within)))

pub returns-in-AtLimit-clause-settled : goal.returns-in-AtLimit-clause-settled
returns-in-AtLimit-clause-settled c = c.go_on-stretch.ensures.covered

pub returns-in-AtLimit-clause-len : goal.returns-in-AtLimit-clause-len
returns-in-AtLimit-clause-len c = c.go_on-stretch.ensures.len ∙ c.stretches.invariant.size

pub returns-in-AtLimit-clause-spends : goal.returns-in-AtLimit-clause-spends
returns-in-AtLimit-clause-spends c =
    let way = c.stretches.invariant in
    let within = way.within in
    let spends = way.spends in
    let halts = halts_by _ _ _ _ c.go_on-stretch.result.ran c.stretches.left c.go_on-stretch.result.pause c.stop_of.result c.stop_of.ensures
    c.go_on-stretch.ensures.pauses in
    let full : c.go_on-stretch.result.ran ≡ c.stretches.left = rw c.in-AtLimit.is at halts in
    let used = ap (λ (k : Credit). k.used) c.go_on-stretch.ensures.credit in
    omega (arith, full, within, spends, used)

pub returns-in-AtLimit-clause-holds : goal.returns-in-AtLimit-clause-holds
returns-in-AtLimit-clause-holds c =
    let holds = c.stretches.invariant.holds in
    let held = ap (λ (k : Credit). k.held) c.go_on-stretch.ensures.credit in
    omega (arith, holds, held)

pub returns-in-Asks-clause-runs : goal.returns-in-Asks-clause-runs
returns-in-Asks-clause-runs c = λ s stands.
    let way = c.stretches.invariant in
    let within = way.within in
    let halts = halts_by _ _ _ _ c.go_on-stretch.result.ran c.stretches.left c.go_on-stretch.result.pause c.stop_of.result c.stop_of.ensures
    c.go_on-stretch.ensures.pauses in
    let asks = rw c.in-Asks.is at halts in
    let less : c.go_on-stretch.result.ran < c.stretches.left = asks.0 in
    let told = c.question.ensures.arguments in
    stops_asking _ _ (c.args.limit - c.stretches.left + c.go_on-stretch.result.ran) s _ _ _
    (led_far _ _ s _ _ _ (way.led s stands) _ _ _ _ c.go_on-stretch.ensures.goes c.go_on-stretch.ensures.credit _ refl)
    (omega (arith, less, within)) c.in-Asks.helper asks.1 asks.2 _ c.question.ensures.helper told.0 told.1 told.2

pub returns-in-Asks-clause-settled : goal.returns-in-Asks-clause-settled
returns-in-Asks-clause-settled c =
    let halts = halts_by _ _ _ _ c.go_on-stretch.result.ran c.stretches.left c.go_on-stretch.result.pause c.stop_of.result c.stop_of.ensures
    c.go_on-stretch.ensures.pauses in
    let asks = rw c.in-Asks.is at halts in
    (c.in-Asks.helper, asks.1, asks.2)

pub returns-in-Asks-clause-len : goal.returns-in-Asks-clause-len
returns-in-Asks-clause-len c = c.go_on-stretch.ensures.len ∙ c.stretches.invariant.size

pub returns-in-Asks-clause-spends : goal.returns-in-Asks-clause-spends
returns-in-Asks-clause-spends c =
    let spends = c.stretches.invariant.spends in
    let used = ap (λ (k : Credit). k.used) c.go_on-stretch.ensures.credit in
    omega (arith, spends, used)

pub returns-in-Asks-clause-holds : goal.returns-in-Asks-clause-holds
returns-in-Asks-clause-holds c =
    let holds = c.stretches.invariant.holds in
    let held = ap (λ (k : Credit). k.held) c.go_on-stretch.ensures.credit in
    omega (arith, holds, held)

pub stretches-smaller : goal.stretches-smaller
stretches-smaller c =
    let halts = halts_by _ _ _ _ c.go_on-stretch.result.ran c.stretches.left c.go_on-stretch.result.pause c.stop_of.result c.stop_of.ensures
    c.go_on-stretch.ensures.pauses in
    let less : c.go_on-stretch.result.ran < c.stretches.left = (rw c.in-ByItself.is at halts).0 in
    omega (arith, less)

pub stretches-preserved : goal.stretches-preserved
stretches-preserved c =
    let way = c.stretches.invariant in
    let within = way.within in
    let spends = way.spends in
    let holds = way.holds in
    let halts = halts_by _ _ _ _ c.go_on-stretch.result.ran c.stretches.left c.go_on-stretch.result.pause c.stop_of.result c.stop_of.ensures
    c.go_on-stretch.ensures.pauses in
    let less : c.go_on-stretch.result.ran < c.stretches.left = (rw c.in-ByItself.is at halts).0 in
    let used = ap (λ (k : Credit). k.used) c.go_on-stretch.ensures.credit in
    let held = ap (λ (k : Credit). k.held) c.go_on-stretch.ensures.credit in
    let more = c.step.ensures.spends in
    let most = c.step.ensures.holds in
    record {
      within = omega (arith, within);
      covered = c.step.ensures.covered c.in-At.next c.in-At.is;
      led = λ s stands. led_step _ (c.args.limit - c.stretches.left + c.go_on-stretch.result.ran) s _ _ _
          (led_far _ _ s _ _ _ (way.led s stands) _ _ _ _ c.go_on-stretch.ensures.goes c.go_on-stretch.ensures.credit _ refl)
          c.in-At.next (at_slot c.step.new.frame c.in-At.next) c.step.new.memory c.step.new.credit (rw c.in-At.is at c.step.ensures.steps) _ (omega (arith, less, within));
      size = c.step.ensures.len ∙ c.go_on-stretch.ensures.len ∙ way.size;
      spends = omega (arith, spends, used, more, less, within);
      holds = omega (arith, holds, held, most);
    }

pub returns-in-Ended-clause-runs : goal.returns-in-Ended-clause-runs
returns-in-Ended-clause-runs c = λ s stands.
    let way = c.stretches.invariant in
    let within = way.within in
    let halts = halts_by _ _ _ _ c.go_on-stretch.result.ran c.stretches.left c.go_on-stretch.result.pause c.stop_of.result c.stop_of.ensures
    c.go_on-stretch.ensures.pauses in
    let less : c.go_on-stretch.result.ran < c.stretches.left = (rw c.in-ByItself.is at halts).0 in
    stops_ended _ _ (c.args.limit - c.stretches.left + c.go_on-stretch.result.ran) s _ _ _
    (led_far _ _ s _ _ _ (way.led s stands) _ _ _ _ c.go_on-stretch.ensures.goes c.go_on-stretch.ensures.credit _ refl)
    (omega (arith, less, within)) c.in-Ended.r0 (at_slot c.step.new.frame c.go_on-stretch.result.slot) c.step.new.memory c.step.new.credit
    (rw c.in-Ended.is at c.step.ensures.steps)

pub returns-in-Ended-clause-len : goal.returns-in-Ended-clause-len
returns-in-Ended-clause-len c = c.step.ensures.len ∙ c.go_on-stretch.ensures.len ∙ c.stretches.invariant.size

pub returns-in-Ended-clause-spends : goal.returns-in-Ended-clause-spends
returns-in-Ended-clause-spends c =
    let spends = c.stretches.invariant.spends in
    let used = ap (λ (k : Credit). k.used) c.go_on-stretch.ensures.credit in
    let more = c.step.ensures.spends in
    omega (arith, spends, used, more)

pub returns-in-Ended-clause-holds : goal.returns-in-Ended-clause-holds
returns-in-Ended-clause-holds c =
    let holds = c.stretches.invariant.holds in
    let held = ap (λ (k : Credit). k.held) c.go_on-stretch.ensures.credit in
    let most = c.step.ensures.holds in
    omega (arith, holds, held, most)
