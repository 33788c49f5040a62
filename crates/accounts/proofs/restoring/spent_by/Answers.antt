use Rattle.std.proofs.Common.{◌≡◌, ◌+◌, ◌-◌, ◌<◌, length, get_or, slice_get, Some, sym, ap, ◌∙◌, arith}
use Rattle.std.proofs.lemmas.List.Sums.{sum_by_more, sum_by_more_le}
use Rattle.std.proofs.lemmas.Option.{slice_get_within, get_or_from_slice_get}
use Rattle.accounts.specs.Jobs.{job_at, spent_for}
use Rattle.accounts.proofs.Keeping.{job_there}
use Rattle.accounts.proofs.restoring.spent_by.Goals as goal

pub overflow_add-spent : goal.overflow_add-spent
overflow_add-spent c =
    let e = c.in-Some.entry.now in
    let i = c.loop-number.number in
    let same : i + 1 - 1 ≡ i = omega arith in
    let at : slice_get c.args.jobs.now i ≡ Some e = ap (slice_get c.args.jobs.now) (sym same) ∙ (job_there c.args.jobs.now (i + 1) e (sym c.in-Some.ensures)).1 in
    let lt = slice_get_within c.args.jobs.now i e at in
    let is = ap (spent_for c.args.name.now) (get_or_from_slice_get c.args.jobs.now i e e at) in
    let most = sum_by_more_le (spent_for c.args.name.now) c.args.jobs.now i e lt in
    let so_far = c.loop-number.invariant in
    let cost = c.cost_to-spent.ensures in
    let limit = c.requires in
    omega (arith, is, most, so_far, cost, limit)

pub loop-number-preserved : goal.loop-number-preserved
loop-number-preserved c =
    let e = c.in-Some.entry.now in
    let i = c.loop-number.number in
    let same : i + 1 - 1 ≡ i = omega arith in
    let at : slice_get c.args.jobs.now i ≡ Some e = ap (slice_get c.args.jobs.now) (sym same) ∙ (job_there c.args.jobs.now (i + 1) e (sym c.in-Some.ensures)).1 in
    let lt = slice_get_within c.args.jobs.now i e at in
    let is = ap (spent_for c.args.name.now) (get_or_from_slice_get c.args.jobs.now i e e at) in
    let more = sum_by_more (spent_for c.args.name.now) c.args.jobs.now i e lt in
    let so_far = c.loop-number.invariant in
    let cost = c.cost_to-spent.ensures in
    omega (arith, is, more, so_far, cost)
