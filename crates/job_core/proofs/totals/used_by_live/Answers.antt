use Rattle.std.proofs.Common.{◌≡◌, ◌∙◌, ◌+◌, sym, ap, arith, sum_by}
use Rattle.std.proofs.lemmas.List.{take_all}
use Rattle.job_core.specs.Sums.{used_of}
use Rattle.job_core.proofs.Summing.{sum_by-more, sum_by-take_le, none_used}
use Rattle.job_core.proofs.totals.used_by_live.Goals as goal
use Rattle.job_core.proofs.totals.used_by_live.Goals.{in-Some, in_default}

pub overflow_add-used : goal.overflow_add-used
overflow_add-used c =
    let more = sum_by-more c.args.lives.now c.loop-live.live-index c.live-item.result c.loop-live-test.true c.live-item.is in
    let here = ap used_of c.in-Some.is in
    let le = sum_by-take_le c.args.lives.now (c.loop-live.live-index + 1) in
    rw c.credit-used.ensures (omega (arith, more, here, le, c.loop-live.invariant, c.requires))

pub loop-live-preserved : goal.loop-live-preserved
loop-live-preserved c =
    let more = sum_by-more c.args.lives.now c.loop-live.live-index c.live-item.result c.loop-live-test.true c.live-item.is in
    let sum : c.match-live.used ≡ c.loop-live.used + used_of c.live-item.result =
    elim c.match-live.branch [
      | in-Some w ↦ (rw w.credit-used.ensures at w.used-is) ∙ ap (λ n. c.loop-live.used + n) (sym (ap used_of w.in-Some.is))
      | in_default w ↦ let zero_is = none_used c.live-item.result w.in_default.not-Some in omega (arith, w.used-is, zero_is)
    ] in
    sum ∙ ap (λ n. n + used_of c.live-item.result) c.loop-live.invariant ∙ sym more

pub returns : goal.returns
returns c = c.loop-live.invariant ∙ ap (sum_by used_of) (take_all c.loop-live.live-index c.args.lives.now c.loop-live-test.false)
