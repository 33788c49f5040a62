use Rattle.std.proofs.Common.{◌≡◌, ◌<◌, ◌+◌, ◌∙◌, suc, refl, sym, ap, subst, rules, arith, length, take, replicate, slice_get, set, Some, None}
use Rattle.std.proofs.lemmas.Option.{get_or_from_slice_get, slice_get_read, slice_get_within}
use Rattle.std.proofs.lemmas.List.{get_or-replicate, length-replicate, set-set, take-replicate}
use Rattle.verifier.specs.Checked.{Checked}
use Rattle.interpreter.specs.Representation.{IsCovered}
use Rattle.job_core.specs.Keeping.{kept_of}
use Rattle.job_core.proofs.Simulates.{live_at, skipped, unknown}
use Rattle.job_core.specs.declared.tasks.Stepped.TheVariants as stepped
use Rattle.job_core.proofs.Booking.{standings_alike}
use Rattle.job_core.proofs.Ledgers.{same_set}
use Rattle.job_core.proofs.Lonely.{runs_not, runs_on, runs_out}
use Rattle.job_core.proofs.Runs.{leads_none, leads_more, sets_out, covered_there, may_hand_over, here, place, some_left, living_on, running_on, way_ran, way_on, way_ends}
use Rattle.job_core.proofs.tasks.Tasks.run_task.Goals as goal

pub returns-in_default-clause-leads : goal.returns-in_default-clause-leads
returns-in_default-clause-leads c = leads_none (kept_of c.args.self.now)

pub returns-in_default-take-clause-leads : goal.returns-in_default-take-clause-leads
returns-in_default-take-clause-leads c =
    let kept = kept_of c.args.self.now in
    let lives = c.args.self.now.ledger.lives.items in
    let number = c.args.number in
    let lt : number < length lives = c.in-Some.ensures.item.3.0 in
    let none_is : c.in-Some.place.now ≡ None = sym c.take.ensures.value ∙ c.in_default-take.is in
    let here : slice_get lives number ≡ Some None =
    slice_get_read lives (length lives) number c.in-Some.place.now refl lt c.in-Some.ensures.value ∙ ap Some none_is in
    let same : set lives number None ≡ lives = same_set lives number None here in
    rw (c.take.ensures.after, same) (leads_none kept)

pub returns-in_default-clause-runs : goal.returns-in_default-clause-runs
returns-in_default-clause-runs c = λ j behind. runs_not (kept_of c.args.self.now) c.args.number j behind (unknown (kept_of c.args.self.now) j c.args.number behind (search rules))

pub returns-in_default-take-clause-runs : goal.returns-in_default-take-clause-runs
returns-in_default-take-clause-runs c =
    let kept = kept_of c.args.self.now in
    let lives = c.args.self.now.ledger.lives.items in
    let number = c.args.number in
    let lt : number < length lives = c.in-Some.ensures.item.3.0 in
    let none_is : c.in-Some.place.now ≡ None = sym c.take.ensures.value ∙ c.in_default-take.is in
    let here : slice_get lives number ≡ Some None =
    slice_get_read lives (length lives) number c.in-Some.place.now refl lt c.in-Some.ensures.value ∙ ap Some none_is in
    let same : set lives number None ≡ lives = same_set lives number None here in
    rw (c.take.ensures.after, same) (λ j behind. runs_not kept number j behind (skipped kept j number behind here))

pub returns-in_default-clause-idle : goal.returns-in_default-clause-idle
returns-in_default-clause-idle c = λ none some. record { same = refl; skips = λ j behind. unknown (kept_of c.args.self.now) j c.args.number behind (search rules) }

pub returns-in_default-take-clause-idle : goal.returns-in_default-take-clause-idle
returns-in_default-take-clause-idle c =
    let kept = kept_of c.args.self.now in
    let lives = c.args.self.now.ledger.lives.items in
    let number = c.args.number in
    let lt : number < length lives = c.in-Some.ensures.item.3.0 in
    let none_is : c.in-Some.place.now ≡ None = sym c.take.ensures.value ∙ c.in_default-take.is in
    let here : slice_get lives number ≡ Some None =
    slice_get_read lives (length lives) number c.in-Some.place.now refl lt c.in-Some.ensures.value ∙ ap Some none_is in
    let same : set lives number None ≡ lives = same_set lives number None here in
    rw (c.take.ensures.after, same) (λ none some. record { same = refl; skips = λ j behind. skipped kept j number behind here })

pub returns-in_default-take-clause-skipped : goal.returns-in_default-take-clause-skipped
returns-in_default-take-clause-skipped c =
    let lives = c.args.self.now.ledger.lives.items in
    let number = c.args.number in
    let lt : number < length lives = c.in-Some.ensures.item.3.0 in
    let none_is : c.in-Some.place.now ≡ None = sym c.take.ensures.value ∙ c.in_default-take.is in
    let here : slice_get lives number ≡ Some None =
    slice_get_read lives (length lives) number c.in-Some.place.now refl lt c.in-Some.ensures.value ∙ ap Some none_is in
    let same : set lives number None ≡ lives = same_set lives number None here in
    λ _. rw (c.take.ensures.after, same) refl

pub returns-in_default-take-clause-booked : goal.returns-in_default-take-clause-booked
returns-in_default-take-clause-booked c =
    let kept = kept_of c.args.self.now in
    let lives = c.args.self.now.ledger.lives.items in
    let number = c.args.number in
    let lt : number < length lives = c.in-Some.ensures.item.3.0 in
    let none_is : c.in-Some.place.now ≡ None = sym c.take.ensures.value ∙ c.in_default-take.is in
    let here : slice_get lives number ≡ Some None =
    slice_get_read lives (length lives) number c.in-Some.place.now refl lt c.in-Some.ensures.value ∙ ap Some none_is in
    let same : set lives number None ≡ lives = same_set lives number None here in
    rw (c.take.ensures.after, same) c.requires.booked

pub index-code-requires : goal.index-code-requires
index-code-requires c =
    let lives = c.args.self.now.ledger.lives.items in
    let number = c.args.number in
    let lt : number < length lives = c.in-Some.ensures.item.3.0 in
    let here : slice_get lives number ≡ Some (Some c.in-Some-take.live) =
    slice_get_read _ _ _ c.in-Some.place.now refl lt c.in-Some.ensures.value ∙ ap Some (sym c.take.ensures.value ∙ c.in-Some-take.is) in
    let live = live_at _ c.requires.behind.0 number c.in-Some-take.live c.requires.behind.1 here in
    let within = slice_get_within c.args.self.now.programs.items c.in-Some-take.live.program live.checked live.program in
    let at = c.program.ensures in
    search (rules, within, at)

pub loop-gone-init : goal.loop-gone-init
loop-gone-init c =
    let lives = c.args.self.now.ledger.lives.items in
    let number = c.args.number in
    let lt : number < length lives = c.in-Some.ensures.item.3.0 in
    let here : slice_get lives number ≡ Some (Some c.in-Some-take.live) =
    slice_get_read _ _ _ c.in-Some.place.now refl lt c.in-Some.ensures.value ∙ ap Some (sym c.take.ensures.value ∙ c.in-Some-take.is) in
    let begins = sets_out (kept_of c.args.self.now) number c.in-Some-take.live c.index-code.result.now here (rw c.program.ensures at c.index-code.ensures) c.requires.behind in
    let at = live_at _ c.requires.behind.0 number c.in-Some-take.live c.requires.behind.1 here in
    let code : c.index-code.result.now ≡ at.checked =
    (rw c.program.ensures at c.index-code.ensures) ∙ get_or_from_slice_get c.args.self.now.programs.items c.in-Some-take.live.program at.checked c.index-code.result.now at.program in
    let P : Checked → Type 0 = λ p. IsCovered p c.in-Some-take.live.frame c.in-Some-take.live.part c.in-Some-take.live.credit in
    let covered = subst P (sym code) at.is.covered in
    record {
      way = rw (c.take.ensures.after, c.slot-slot.ensures) begins;
      within = omega arith;
      ahead = rw c.slot-slot.ensures (omega (arith, covered.affords, covered.limit));
      running = record {
        turn = refl;
        booked = rw (c.take.ensures.after, set-set lives number None (Some c.in-Some-take.live), same_set lives number (Some c.in-Some-take.live) here)
            c.requires.booked;
      };
    }

pub run_at-ran-requires-clause-covered : goal.run_at-ran-requires-clause-covered
run_at-ran-requires-clause-covered c =
    covered_there (kept_of c.args.self.now) (record c.args.self.now { ledger = c.loop-gone.ledger }) (take c.loop-gone.gone (replicate c.args.limit c.args.number))
    c.args.number c.loop-gone.live c.loop-gone.slot c.index-code.result.now c.loop-gone.invariant.way

pub loop-gone-preserved : goal.loop-gone-preserved
loop-gone-preserved c =
    let tasks = record c.args.self.now { ledger = c.loop-gone.ledger } in
    let ran = c.run_at-ran.ensures.ran in
    let most = c.run_at-ran.ensures.most in
    let within = c.loop-gone.invariant.within in
    let long = length-replicate c.args.limit c.args.number in
    let more = c.loop-gone-test.true in
    let both = way_ran (kept_of c.args.self.now) tasks (replicate c.args.limit c.args.number) c.loop-gone.gone c.args.number c.loop-gone.live c.loop-gone.slot
    c.index-code.result.now c.loop-gone.invariant.way c.loop-gone.invariant.running _ _ _ ran (omega (arith, most, within, long, more))
    (λ i less. get_or-replicate c.args.limit i c.args.number 0 (omega (arith, less, most, within, more))) in
    let on = way_on (kept_of c.args.self.now) tasks _ c.args.number _ _ c.index-code.result.now both.0
    (running_on tasks c.args.number c.loop-gone.live ran.before ran.mid ran.mid_part c.loop-gone.invariant.running)
    c.run_at-ran.result.next c.run_at-ran.new.self c.run_at-ran.new.spawner (c.run_at-ran.ensures.base ∙ sym both.1) c.run_at-ran.ensures.program ran.last_one
    c.in-At.next c.in-At.is (c.run_at-ran.ensures.covered c.in-At.next c.in-At.is) in
    record {
      way = rw both.2 on.0;
      within = omega (arith, most, within, more);
      ahead = omega (arith, ran.count, both.3, on.2, c.loop-gone.invariant.ahead);
      running = on.1;
    }

pub end-requires : goal.end-requires
end-requires c =
    let tasks = record c.args.self.now { ledger = c.loop-gone.ledger } in
    let ran = c.run_at-ran.ensures.ran in
    let most = c.run_at-ran.ensures.most in
    let within = c.loop-gone.invariant.within in
    let long = length-replicate c.args.limit c.args.number in
    let more = c.loop-gone-test.true in
    let both = way_ran (kept_of c.args.self.now) tasks (replicate c.args.limit c.args.number) c.loop-gone.gone c.args.number c.loop-gone.live c.loop-gone.slot
    c.index-code.result.now c.loop-gone.invariant.way c.loop-gone.invariant.running _ _ _ ran (omega (arith, most, within, long, more))
    (λ i less. get_or-replicate c.args.limit i c.args.number 0 (omega (arith, less, most, within, more))) in
    let ending = way_ends (kept_of c.args.self.now) tasks (take (c.loop-gone.gone + ran.before) (replicate c.args.limit c.args.number)) c.args.number
    (living_on c.loop-gone.live ran.before ran.mid ran.mid_part) ran.mid.slot c.index-code.result.now both.0
    (running_on tasks c.args.number c.loop-gone.live ran.before ran.mid ran.mid_part c.loop-gone.invariant.running)
    c.run_at-ran.result.next c.run_at-ran.new.self c.run_at-ran.new.spawner (c.run_at-ran.ensures.base ∙ sym both.1) c.run_at-ran.ensures.program ran.last_one
    both.0.behind.0 both.0.behind.1 c.in-Ended.r0 c.in-Ended.is in
    record { standing = ending.standing; used = ending.used }

pub returns-in-Ended-clause-leads : goal.returns-in-Ended-clause-leads
returns-in-Ended-clause-leads c =
    let tasks = record c.args.self.now { ledger = c.loop-gone.ledger } in
    let ran = c.run_at-ran.ensures.ran in
    let most = c.run_at-ran.ensures.most in
    let within = c.loop-gone.invariant.within in
    let long = length-replicate c.args.limit c.args.number in
    let more = c.loop-gone-test.true in
    let both = way_ran (kept_of c.args.self.now) tasks (replicate c.args.limit c.args.number) c.loop-gone.gone c.args.number c.loop-gone.live c.loop-gone.slot
    c.index-code.result.now c.loop-gone.invariant.way c.loop-gone.invariant.running _ _ _ ran (omega (arith, most, within, long, more))
    (λ i less. get_or-replicate c.args.limit i c.args.number 0 (omega (arith, less, most, within, more))) in
    let full : take (c.loop-gone.gone + c.run_at-ran.result.count) (replicate c.args.limit c.args.number) ≡ replicate (c.loop-gone.gone + c.run_at-ran.result.count) c.args.number =
    take-replicate (c.loop-gone.gone + c.run_at-ran.result.count) c.args.limit c.args.number (omega (arith, most, within, more)) in
    rw (← full) (rw both.2
    (leads_more (kept_of c.args.self.now) _ _ (take (c.loop-gone.gone + ran.before) (replicate c.args.limit c.args.number)) c.args.number
    (stepped.Ended c.in-Ended.r0) both.0.leads refl
    (λ j behind.
    let ending = way_ends (kept_of c.args.self.now) tasks (take (c.loop-gone.gone + ran.before) (replicate c.args.limit c.args.number)) c.args.number
    (living_on c.loop-gone.live ran.before ran.mid ran.mid_part) ran.mid.slot c.index-code.result.now both.0
    (running_on tasks c.args.number c.loop-gone.live ran.before ran.mid ran.mid_part c.loop-gone.invariant.running)
    c.run_at-ran.result.next c.run_at-ran.new.self c.run_at-ran.new.spawner (c.run_at-ran.ensures.base ∙ sym both.1) c.run_at-ran.ensures.program ran.last_one
    j behind c.in-Ended.r0 c.in-Ended.is in
    rw (c.end.ensures.same.0, c.end.ensures.same.1, c.end.ensures.same.3) (ending.steps c.end.new.self.book c.end.ensures.book.0 c.end.ensures.book.1 c.end.ensures.history))))

pub returns-in-Ended-clause-runs : goal.returns-in-Ended-clause-runs
returns-in-Ended-clause-runs c j behind =
    let tasks = record c.args.self.now { ledger = c.loop-gone.ledger } in
    let ran = c.run_at-ran.ensures.ran in
    let most = c.run_at-ran.ensures.most in
    let within = c.loop-gone.invariant.within in
    let long = length-replicate c.args.limit c.args.number in
    let more = c.loop-gone-test.true in
    let both = way_ran (kept_of c.args.self.now) tasks (replicate c.args.limit c.args.number) c.loop-gone.gone c.args.number c.loop-gone.live c.loop-gone.slot
    c.index-code.result.now c.loop-gone.invariant.way c.loop-gone.invariant.running _ _ _ ran (omega (arith, most, within, long, more))
    (λ i less. get_or-replicate c.args.limit i c.args.number 0 (omega (arith, less, most, within, more))) in
    let front : take (c.loop-gone.gone + ran.before) (replicate c.args.limit c.args.number) ≡ replicate (c.loop-gone.gone + ran.before) c.args.number =
    take-replicate (c.loop-gone.gone + ran.before) c.args.limit c.args.number (omega (arith, most, within, more, ran.count)) in
    let count : suc (c.loop-gone.gone + ran.before) ≡ c.loop-gone.gone + c.run_at-ran.result.count = omega (arith, ran.count) in
    rw (← count)
    (runs_out (kept_of c.args.self.now)
    (place (kept_of c.args.self.now) tasks _ c.args.number _ ran.mid.slot c.index-code.result.now both.0)
    (kept_of (record c.args.self.now { ledger = c.end.new.self })) c.args.number (c.loop-gone.gone + ran.before) c.in-Ended.r0 _ j _ front both.0.leads
    (here (kept_of c.args.self.now) tasks _ c.args.number _ ran.mid.slot c.index-code.result.now both.0) behind
    (λ k stands.
    let ending = way_ends (kept_of c.args.self.now) tasks (take (c.loop-gone.gone + ran.before) (replicate c.args.limit c.args.number)) c.args.number
    (living_on c.loop-gone.live ran.before ran.mid ran.mid_part) ran.mid.slot c.index-code.result.now both.0
    (running_on tasks c.args.number c.loop-gone.live ran.before ran.mid ran.mid_part c.loop-gone.invariant.running)
    c.run_at-ran.result.next c.run_at-ran.new.self c.run_at-ran.new.spawner (c.run_at-ran.ensures.base ∙ sym both.1) c.run_at-ran.ensures.program ran.last_one
    k stands c.in-Ended.r0 c.in-Ended.is in
    rw (c.end.ensures.same.0, c.end.ensures.same.1, c.end.ensures.same.3) (ending.steps c.end.new.self.book c.end.ensures.book.0 c.end.ensures.book.1 c.end.ensures.history)))

pub returns-in-Ended-clause-few : goal.returns-in-Ended-clause-few
returns-in-Ended-clause-few c =
    let tasks = record c.args.self.now { ledger = c.loop-gone.ledger } in
    let ran = c.run_at-ran.ensures.ran in
    let most = c.run_at-ran.ensures.most in
    let within = c.loop-gone.invariant.within in
    let long = length-replicate c.args.limit c.args.number in
    let more = c.loop-gone-test.true in
    let both = way_ran (kept_of c.args.self.now) tasks (replicate c.args.limit c.args.number) c.loop-gone.gone c.args.number c.loop-gone.live c.loop-gone.slot
    c.index-code.result.now c.loop-gone.invariant.way c.loop-gone.invariant.running _ _ _ ran (omega (arith, most, within, long, more))
    (λ i less. get_or-replicate c.args.limit i c.args.number 0 (omega (arith, less, most, within, more))) in
    let some = some_left (kept_of c.args.self.now) tasks _ c.args.number _ ran.mid.slot c.index-code.result.now both.0 in
    omega (arith, ran.count, both.3, some, c.loop-gone.invariant.ahead)

pub run_at-ran-requires-clause-children : goal.run_at-ran-requires-clause-children
run_at-ran-requires-clause-children c =
    may_hand_over (kept_of c.args.self.now) (record c.args.self.now { ledger = c.loop-gone.ledger }) (take c.loop-gone.gone (replicate c.args.limit c.args.number))
    c.args.number c.loop-gone.live c.loop-gone.slot c.index-code.result.now c.loop-gone.invariant.way c.loop-gone.invariant.running

pub index_mut-requires : goal.index_mut-requires
index_mut-requires c =
    let within = slice_get_within c.loop-gone.ledger.lives.items c.args.number None c.loop-gone.invariant.way.out in
    search (rules, within)

pub returns-clause-leads : goal.returns-clause-leads
returns-clause-leads c =
    let full = take-replicate c.loop-gone.gone c.args.limit c.args.number c.loop-gone.invariant.within in
    rw (c.note_slot.ensures, ← full) c.loop-gone.invariant.way.leads

pub returns-clause-runs : goal.returns-clause-runs
returns-clause-runs c j behind =
    let full = take-replicate c.loop-gone.gone c.args.limit c.args.number c.loop-gone.invariant.within in
    rw c.note_slot.ensures
    (runs_on (kept_of c.args.self.now)
    (place (kept_of c.args.self.now) (record c.args.self.now { ledger = c.loop-gone.ledger }) _ c.args.number c.loop-gone.live c.loop-gone.slot c.index-code.result.now c.loop-gone.invariant.way)
    c.args.number c.loop-gone.gone _ j _ full c.loop-gone.invariant.way.leads
    (here (kept_of c.args.self.now) (record c.args.self.now { ledger = c.loop-gone.ledger }) _ c.args.number c.loop-gone.live c.loop-gone.slot c.index-code.result.now c.loop-gone.invariant.way) behind)

pub returns-clause-booked : goal.returns-clause-booked
returns-clause-booked c =
    rw c.note_slot.ensures (standings_alike _ c.loop-gone.ledger.book.history _ c.loop-gone.live _ refl c.loop-gone.invariant.running.booked)

pub returns-in-Ended-clause-booked : goal.returns-in-Ended-clause-booked
returns-in-Ended-clause-booked c =
    let tasks = record c.args.self.now { ledger = c.loop-gone.ledger } in
    let ran = c.run_at-ran.ensures.ran in
    let most = c.run_at-ran.ensures.most in
    let within = c.loop-gone.invariant.within in
    let long = length-replicate c.args.limit c.args.number in
    let more = c.loop-gone-test.true in
    let both = way_ran (kept_of c.args.self.now) tasks (replicate c.args.limit c.args.number) c.loop-gone.gone c.args.number c.loop-gone.live c.loop-gone.slot
    c.index-code.result.now c.loop-gone.invariant.way c.loop-gone.invariant.running _ _ _ ran (omega (arith, most, within, long, more))
    (λ i less. get_or-replicate c.args.limit i c.args.number 0 (omega (arith, less, most, within, more))) in
    let ending = way_ends (kept_of c.args.self.now) tasks (take (c.loop-gone.gone + ran.before) (replicate c.args.limit c.args.number)) c.args.number
    (living_on c.loop-gone.live ran.before ran.mid ran.mid_part) ran.mid.slot c.index-code.result.now both.0
    (running_on tasks c.args.number c.loop-gone.live ran.before ran.mid ran.mid_part c.loop-gone.invariant.running)
    c.run_at-ran.result.next c.run_at-ran.new.self c.run_at-ran.new.spawner (c.run_at-ran.ensures.base ∙ sym both.1) c.run_at-ran.ensures.program ran.last_one
    both.0.behind.0 both.0.behind.1 c.in-Ended.r0 c.in-Ended.is in
    rw c.end.ensures.same.1 (ending.booked _ c.end.ensures.history)
