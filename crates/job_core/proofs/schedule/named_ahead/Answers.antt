use Rattle.std.proofs.Common.{◌≡◌, ◌∙◌, ◌<◌, arith, length, sym, take}
use Rattle.std.proofs.lemmas.List.{get_or-take, length-take-le}
use Rattle.job_core.proofs.schedule.named_ahead.Goals as goal

pub slice_bounds-named_alike-end : goal.slice_bounds-named_alike-end
slice_bounds-named_alike-end c =
    let long = c.if-schedule-le-MOST_AHEAD.false in
    let taken : length (take 65536 c.args.schedule.now) ≡ 65536 = length-take-le 65536 c.args.schedule.now (omega (arith, long)) in
    omega (arith, taken, long)

pub named_alike-requires-2 : goal.named_alike-requires-2
named_alike-requires-2 c =
    let long = c.if-schedule-le-MOST_AHEAD.false in
    let taken : length (take 65536 c.args.schedule.now) ≡ 65536 = length-take-le 65536 c.args.schedule.now (omega (arith, long)) in
    omega (arith, taken)

pub returns-clause-some : goal.returns-clause-some
returns-clause-some c =
    let long = c.if-schedule-le-MOST_AHEAD.false in
    let taken : length (take 65536 c.args.schedule.now) ≡ 65536 = length-take-le 65536 c.args.schedule.now (omega (arith, long)) in
    let within = c.named_alike-2.ensures.some.1 in
    (c.named_alike-2.ensures.some.0, omega (arith, within, taken, long))

pub returns-clause-alike : goal.returns-clause-alike
returns-clause-alike c i less =
    let schedule = c.args.schedule.now in
    let long = c.if-schedule-le-MOST_AHEAD.false in
    let taken : length (take 65536 schedule) ≡ 65536 = length-take-le 65536 schedule (omega (arith, long)) in
    let within = c.named_alike-2.ensures.some.1 in
    let low : i < 65536 = omega (arith, less, within, taken) in
    sym (get_or-take 65536 schedule i 0 low) ∙ c.named_alike-2.ensures.alike i less ∙ get_or-take 65536 schedule 0 0 (omega arith)
