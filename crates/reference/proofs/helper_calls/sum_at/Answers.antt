use Rattle.std.proofs.Common.{◌≡◌, ◌∙◌, ◌+◌, ◌-◌, ℕ, ap, sym, subst, refl, arith}
use Rattle.machine_model.specs.Machine.{Continues, State, answered}
use Rattle.reference.specs.Records.{GoesFar, state_of}
use Rattle.reference.proofs.EffectLemmas.{sum_from}
use Rattle.reference.proofs.helper_calls.sum_at.Goals as goal

pub returns-in-None-clause-far : goal.returns-in-None-clause-far
returns-in-None-clause-far c = λ _.
    let s : State = state_of c.args.state in
    let many : c.in-Ok-Stack.at + c.args.len - c.in-Ok-Stack.at ≡ c.args.len = omega arith in
    let is = rw c.in-Ok-Stack.field-0-is at (c.in-Ok-Stack.ensures.leads (sum_from s s.stack c.args.len) (sum_from s s.part c.args.len)) in
    subst GoesFar (sym is) (0, rw many at (c.in-None.ensures.large refl))

pub returns-in-Some-clause-value : goal.returns-in-Some-clause-value
returns-in-Some-clause-value c =
    let s : State = state_of c.args.state in
    let many : c.in-Ok-Stack.at + c.args.len - c.in-Ok-Stack.at ≡ c.args.len = omega arith in
    let is = rw c.in-Ok-Stack.field-0-is at (c.in-Ok-Stack.ensures.leads (sum_from s s.stack c.args.len) (sum_from s s.part c.args.len)) in
    ap Continues c.put_answer.ensures
    ∙ ap (λ (n : ℕ). Continues (answered s n)) (rw many at (c.in-Some.ensures.fits c.in-Some.sum refl))
    ∙ sym is

pub returns-in-None-total-clause-far : goal.returns-in-None-total-clause-far
returns-in-None-total-clause-far c = λ _.
    let s : State = state_of c.args.state in
    let many : c.in-Ok-Part.at + c.args.len - c.in-Ok-Part.at ≡ c.args.len = omega arith in
    let is = rw c.in-Ok-Part.field-0-is at (c.in-Ok-Part.ensures.leads (sum_from s s.stack c.args.len) (sum_from s s.part c.args.len)) in
    subst GoesFar (sym is) (0, rw (c.deref.ensures.value, many) at (c.in-None-total.ensures.large refl))

pub returns-in-Some-total-clause-value : goal.returns-in-Some-total-clause-value
returns-in-Some-total-clause-value c =
    let s : State = state_of c.args.state in
    let many : c.in-Ok-Part.at + c.args.len - c.in-Ok-Part.at ≡ c.args.len = omega arith in
    let is = rw c.in-Ok-Part.field-0-is at (c.in-Ok-Part.ensures.leads (sum_from s s.stack c.args.len) (sum_from s s.part c.args.len)) in
    ap Continues c.put_answer-in-Some-total.ensures
    ∙ ap (λ (n : ℕ). Continues (answered s n)) (rw (c.deref.ensures.value, many) at (c.in-Some-total.ensures.fits c.in-Some-total.sum refl))
    ∙ sym is
