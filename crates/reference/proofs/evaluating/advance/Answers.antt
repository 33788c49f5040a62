use Rattle.std.proofs.Common.{rules, ◌≡◌, ◌∙◌, inl, inr, subst, ap, sym, refl, arith, false, nat_lt, ℕ, length, map}
use Rattle.std.proofs.lemmas.Option.{slice_get_read}
use Rattle.std.proofs.lemmas.Result.{err_from_is_err_and}
use Rattle.machine_model.specs.JobState.{Ending, Task, entries_of, with_state}
use Rattle.machine_model.specs.Machine.{Effect, State, effect, Continues, Ends, Spawns}
use Rattle.reference.specs.Evaluating.{ComesFar}
use Rattle.reference.specs.declared.evaluating.Pending.{Pending}
use Rattle.reference.proofs.FarEvaluations.{far_here, far_on, far_parent, far_child, one_more}
use Rattle.reference.proofs.RunLemmas.{same_error}
use Rattle.reference.specs.Records.{BearsFar, GoesFar, birth_from, effect_of, program_of, state_of, task_of, trap_of}
use Rattle.reference.proofs.Evaluations.{path_on, path_off, path_spawning, path_trapping, path_calling, path_missing, none_past, program_gone, program_there}
use Rattle.reference.proofs.Spending.{pays_as, goes_spends, ends_spends, spawns_spends}
use Rattle.reference.proofs.evaluating.advance.Goals as goal

pub returns-in_default-clause-traps : goal.returns-in_default-clause-traps
returns-in_default-clause-traps c = λ _ fs a.
    let out : false ≡ nat_lt c.args.next.task.program (length c.args.programs.now) = c.in_default.ensures.lookup.0 in
    path_missing (map program_of c.args.programs.now) c.args.done.now.items c.args.path.now.items c.args.next
    (program_gone c.args.programs.now c.args.next.task.program (none_past c.args.programs.now c.args.next.task.program (sym out))) fs a

pub returns-in-Traps-clause-traps : goal.returns-in-Traps-clause-traps
returns-in-Traps-clause-traps c = λ _.
    let there = program_there c.args.programs.now c.args.next.task.program c.in-Some.program.now
    (slice_get_read c.args.programs.now (length c.args.programs.now) c.args.next.task.program c.in-Some.program.now refl c.in-Some.ensures.lookup.3.0 c.in-Some.ensures.lookup.1) in
    path_trapping (map program_of c.args.programs.now) c.args.done.now.items c.args.path.now.items c.args.next (program_of c.in-Some.program.now) there (trap_of c.in-Traps.field-0)
    (ap (effect (program_of c.in-Some.program.now) (entries_of (map program_of c.args.programs.now))) (sym c.state_of-state.ensures)
    ∙ sym c.in_ok-state.ensures.value ∙ ap effect_of c.in-Traps.is)

pub returns-in-Calls-clause-traps : goal.returns-in-Calls-clause-traps
returns-in-Calls-clause-traps c = λ _.
    let there = program_there c.args.programs.now c.args.next.task.program c.in-Some.program.now
    (slice_get_read c.args.programs.now (length c.args.programs.now) c.args.next.task.program c.in-Some.program.now refl c.in-Some.ensures.lookup.3.0 c.in-Some.ensures.lookup.1) in
    path_calling (map program_of c.args.programs.now) c.args.done.now.items c.args.path.now.items c.args.next (program_of c.in-Some.program.now) there
    c.in-Calls.field-0 c.in-Calls.field-1 (state_of c.in-Calls.field-2)
    (ap (effect (program_of c.in-Some.program.now) (entries_of (map program_of c.args.programs.now))) (sym c.state_of-state.ensures)
    ∙ sym c.in_ok-state.ensures.value ∙ ap effect_of c.in-Calls.is)

pub returns-in_ok-push-in-Continues-clause-goes : goal.returns-in_ok-push-in-Continues-clause-goes
returns-in_ok-push-in-Continues-clause-goes c = λ _.
    let there = program_there c.args.programs.now c.args.next.task.program c.in-Some.program.now
    (slice_get_read c.args.programs.now (length c.args.programs.now) c.args.next.task.program c.in-Some.program.now refl c.in-Some.ensures.lookup.3.0 c.in-Some.ensures.lookup.1) in
    path_on (map program_of c.args.programs.now) c.args.done.now.items c.args.path.now.items c.args.next (program_of c.in-Some.program.now) there
    (state_of c.in-Continues.state) c.with_state.result c.push.new.self.items
    (ap (effect (program_of c.in-Some.program.now) (entries_of (map program_of c.args.programs.now))) (sym c.state_of-state.ensures)
    ∙ sym c.in_ok-state.ensures.value ∙ ap effect_of c.in-Continues.is)
    c.with_state.ensures.task c.with_state.ensures.bytes c.in_ok-push-in-Continues.ensures.items

pub returns-in_ok-push-in-Ends-clause-goes : goal.returns-in_ok-push-in-Ends-clause-goes
returns-in_ok-push-in-Ends-clause-goes c = λ _.
    let there = program_there c.args.programs.now c.args.next.task.program c.in-Some.program.now
    (slice_get_read c.args.programs.now (length c.args.programs.now) c.args.next.task.program c.in-Some.program.now refl c.in-Some.ensures.lookup.3.0 c.in-Some.ensures.lookup.1) in
    path_off (map program_of c.args.programs.now) c.args.done.now.items c.args.path.now.items c.args.next (program_of c.in-Some.program.now) there
    c.in-Ends.r0 (state_of c.in-Ends.last) (record { ending = c.in_ok-ending-in-Ends.ending; bytes = c.in-Ends.last.part }) c.push-in-Ends.new.self.items
    (ap (effect (program_of c.in-Some.program.now) (entries_of (map program_of c.args.programs.now))) (sym c.state_of-state.ensures)
    ∙ sym c.in_ok-state.ensures.value ∙ ap effect_of c.in-Ends.is)
    (rw c.in_ok-ending-in-Ends.ensures.value refl) c.in_ok-push-in-Ends.ensures.items

pub returns-in_ok-push-in-Spawns-2-clause-goes : goal.returns-in_ok-push-in-Spawns-2-clause-goes
returns-in_ok-push-in-Spawns-2-clause-goes c = λ _.
    let there = program_there c.args.programs.now c.args.next.task.program c.in-Some.program.now
    (slice_get_read c.args.programs.now (length c.args.programs.now) c.args.next.task.program c.in-Some.program.now refl c.in-Some.ensures.lookup.3.0 c.in-Some.ensures.lookup.1) in
    path_spawning (map program_of c.args.programs.now) c.args.done.now.items c.args.path.now.items c.args.next (program_of c.in-Some.program.now) there
    (birth_from c.in-Spawns.child) (state_of c.in-Spawns.taken) (state_of c.in-Spawns.field-2)
    c.with_state-in-Spawns.result (record { task = c.in_ok-born-in-Spawns.born; bytes = c.in-Spawns.child.bytes })
    c.push-in-Spawns.new.self.items c.push-in-Spawns-2.new.self.items
    (ap (effect (program_of c.in-Some.program.now) (entries_of (map program_of c.args.programs.now))) (sym c.state_of-state.ensures)
    ∙ sym c.in_ok-state.ensures.value ∙ ap effect_of c.in-Spawns.is)
    (c.with_state-in-Spawns.ensures.task
    ∙ ap (λ (n : ℕ). let t : Task = record (with_state (task_of c.args.next.task) (state_of c.in-Spawns.taken)) { children = n } in t)
    (omega (arith, c.in-Some-checked_add.ensures.1))) c.with_state-in-Spawns.ensures.bytes c.in_ok-born-in-Spawns.ensures.value refl c.in_ok-push-in-Spawns.ensures.items c.in_ok-push-in-Spawns-2.ensures.items

pub returns-in_ok-push-in-Continues-clause-spends : goal.returns-in_ok-push-in-Continues-clause-spends
returns-in_ok-push-in-Continues-clause-spends c = λ _.
    let pays = pays_as (program_of c.in-Some.program.now) (map program_of c.args.programs.now) (task_of c.args.next.task) c.args.next.bytes.items
    (Continues (state_of c.in-Continues.state))
    (ap (effect (program_of c.in-Some.program.now) (entries_of (map program_of c.args.programs.now))) (sym c.state_of-state.ensures)
    ∙ sym c.in_ok-state.ensures.value ∙ ap effect_of c.in-Continues.is) in
    let used = ap (λ (t : Task). t.used) c.with_state.ensures.task in
    goes_spends c.args.path.now.items c.push.new.self.items c.args.done.now.items c.args.next c.with_state.result (omega (arith, pays, used))
    c.in_ok-push-in-Continues.ensures.items

pub returns-in_ok-push-in-Ends-clause-spends : goal.returns-in_ok-push-in-Ends-clause-spends
returns-in_ok-push-in-Ends-clause-spends c = λ _.
    let pays = pays_as (program_of c.in-Some.program.now) (map program_of c.args.programs.now) (task_of c.args.next.task) c.args.next.bytes.items
    (Ends c.in-Ends.r0 (state_of c.in-Ends.last))
    (ap (effect (program_of c.in-Some.program.now) (entries_of (map program_of c.args.programs.now))) (sym c.state_of-state.ensures)
    ∙ sym c.in_ok-state.ensures.value ∙ ap effect_of c.in-Ends.is) in
    let spent = ap (λ (e : Ending). e.spent) c.in_ok-ending-in-Ends.ensures.value in
    ends_spends c.args.path.now.items c.args.done.now.items c.push-in-Ends.new.self.items c.args.next
    (record { ending = c.in_ok-ending-in-Ends.ending; bytes = c.in-Ends.last.part }) (omega (arith, pays, spent))
    c.in_ok-push-in-Ends.ensures.items

pub returns-in_ok-push-in-Spawns-2-clause-spends : goal.returns-in_ok-push-in-Spawns-2-clause-spends
returns-in_ok-push-in-Spawns-2-clause-spends c = λ _.
    let pays = pays_as (program_of c.in-Some.program.now) (map program_of c.args.programs.now) (task_of c.args.next.task) c.args.next.bytes.items
    (Spawns (birth_from c.in-Spawns.child) (state_of c.in-Spawns.taken) (state_of c.in-Spawns.field-2))
    (ap (effect (program_of c.in-Some.program.now) (entries_of (map program_of c.args.programs.now))) (sym c.state_of-state.ensures)
    ∙ sym c.in_ok-state.ensures.value ∙ ap effect_of c.in-Spawns.is) in
    let used = ap (λ (t : Task). t.used) c.with_state-in-Spawns.ensures.task in
    spawns_spends c.args.path.now.items c.push-in-Spawns.new.self.items c.push-in-Spawns-2.new.self.items c.args.done.now.items c.args.next
    c.with_state-in-Spawns.result (record { task = c.in_ok-born-in-Spawns.born; bytes = c.in-Spawns.child.bytes }) (omega (arith, pays.0, used))
    c.in_ok-push-in-Spawns.ensures.items c.in_ok-push-in-Spawns-2.ensures.items

pub returns-in_err-state-clause-far : goal.returns-in_err-state-clause-far
returns-in_err-state-clause-far c = λ is.
    let p = err_from_is_err_and c.from_residual.result c.from_residual.ensures.1 in
    let far = c.in_err-state.ensures.far (same_error _ _ _ _ p.1 p.2 is) in
    let there = program_there c.args.programs.now c.args.next.task.program c.in-Some.program.now
    (slice_get_read c.args.programs.now (length c.args.programs.now) c.args.next.task.program c.in-Some.program.now refl c.in-Some.ensures.lookup.3.0 c.in-Some.ensures.lookup.1) in
    let slot = ap (λ (s : State). s.slot) c.state_of-state.ensures in
    far_here (map program_of c.args.programs.now) (task_of c.args.next.task) c.args.next.bytes.items (program_of c.in-Some.program.now) there
    (elim far [
      | inl past ↦ inl (omega (arith, past, slot))
      | inr goes ↦ inr (inl (subst (λ (s : State). GoesFar (effect (program_of c.in-Some.program.now) (entries_of (map program_of c.args.programs.now)) s))
          c.state_of-state.ensures goes))
    ])

pub returns-in_default-checked_add-clause-far : goal.returns-in_default-checked_add-clause-far
returns-in_default-checked_add-clause-far c = λ _.
    let there = program_there c.args.programs.now c.args.next.task.program c.in-Some.program.now
    (slice_get_read c.args.programs.now (length c.args.programs.now) c.args.next.task.program c.in-Some.program.now refl c.in-Some.ensures.lookup.3.0 c.in-Some.ensures.lookup.1) in
    let is = (ap (effect (program_of c.in-Some.program.now) (entries_of (map program_of c.args.programs.now))) (sym c.state_of-state.ensures)
    ∙ sym c.in_ok-state.ensures.value ∙ ap effect_of c.in-Spawns.is) in
    far_here (map program_of c.args.programs.now) (task_of c.args.next.task) c.args.next.bytes.items (program_of c.in-Some.program.now) there
    (inr (inr (subst (λ (e : Effect). BearsFar (task_of c.args.next.task) false e) (sym is) (inr (search rules)))))

pub returns-in_err-born-in-Spawns-clause-far : goal.returns-in_err-born-in-Spawns-clause-far
returns-in_err-born-in-Spawns-clause-far c = λ is.
    let p = err_from_is_err_and c.from_residual-in_err-born-in-Spawns.result c.from_residual-in_err-born-in-Spawns.ensures.1 in
    let far = c.in_err-born-in-Spawns.ensures.far (same_error _ _ _ _ p.1 p.2 is) in
    let there = program_there c.args.programs.now c.args.next.task.program c.in-Some.program.now
    (slice_get_read c.args.programs.now (length c.args.programs.now) c.args.next.task.program c.in-Some.program.now refl c.in-Some.ensures.lookup.3.0 c.in-Some.ensures.lookup.1) in
    let is = (ap (effect (program_of c.in-Some.program.now) (entries_of (map program_of c.args.programs.now))) (sym c.state_of-state.ensures)
    ∙ sym c.in_ok-state.ensures.value ∙ ap effect_of c.in-Spawns.is) in
    far_here (map program_of c.args.programs.now) (task_of c.args.next.task) c.args.next.bytes.items (program_of c.in-Some.program.now) there
    (inr (inr (subst (λ (e : Effect). BearsFar (task_of c.args.next.task) false e) (sym is) (inl far))))

pub returns-in_ok-push-in-Continues-clause-onward : goal.returns-in_ok-push-in-Continues-clause-onward
returns-in_ok-push-in-Continues-clause-onward c = λ _ q in_it.
    let there = program_there c.args.programs.now c.args.next.task.program c.in-Some.program.now
    (slice_get_read c.args.programs.now (length c.args.programs.now) c.args.next.task.program c.in-Some.program.now refl c.in-Some.ensures.lookup.3.0 c.in-Some.ensures.lookup.1) in
    one_more c.args.path.now.items c.push.new.self.items c.with_state.result q
    (λ (x : Pending). ComesFar (map program_of c.args.programs.now) (task_of x.task) x.bytes.items
    → ComesFar (map program_of c.args.programs.now) (task_of c.args.next.task) c.args.next.bytes.items)
    c.in_ok-push-in-Continues.ensures.items
    (far_on (map program_of c.args.programs.now) (task_of c.args.next.task) c.args.next.bytes.items (program_of c.in-Some.program.now) there (state_of c.in-Continues.state) c.with_state.result
    (ap (effect (program_of c.in-Some.program.now) (entries_of (map program_of c.args.programs.now))) (sym c.state_of-state.ensures)
    ∙ sym c.in_ok-state.ensures.value ∙ ap effect_of c.in-Continues.is) c.with_state.ensures.task c.with_state.ensures.bytes) in_it

pub returns-in_ok-push-in-Spawns-2-clause-onward : goal.returns-in_ok-push-in-Spawns-2-clause-onward
returns-in_ok-push-in-Spawns-2-clause-onward c = λ _ q in_it.
    let there = program_there c.args.programs.now c.args.next.task.program c.in-Some.program.now
    (slice_get_read c.args.programs.now (length c.args.programs.now) c.args.next.task.program c.in-Some.program.now refl c.in-Some.ensures.lookup.3.0 c.in-Some.ensures.lookup.1) in
    let is = (ap (effect (program_of c.in-Some.program.now) (entries_of (map program_of c.args.programs.now))) (sym c.state_of-state.ensures)
    ∙ sym c.in_ok-state.ensures.value ∙ ap effect_of c.in-Spawns.is) in
    let X : Pending → Type 0 = λ x. ComesFar (map program_of c.args.programs.now) (task_of x.task) x.bytes.items
    → ComesFar (map program_of c.args.programs.now) (task_of c.args.next.task) c.args.next.bytes.items in
    let parent_is = c.with_state-in-Spawns.ensures.task
    ∙ ap (λ (n : ℕ). let t : Task = record (with_state (task_of c.args.next.task) (state_of c.in-Spawns.taken)) { children = n } in t)
    (omega (arith, c.in-Some-checked_add.ensures.1)) in
    elim (one_more c.push-in-Spawns.new.self.items c.push-in-Spawns-2.new.self.items
    (record { task = c.in_ok-born-in-Spawns.born; bytes = c.in-Spawns.child.bytes }) q X c.in_ok-push-in-Spawns-2.ensures.items
    (far_child (map program_of c.args.programs.now) (task_of c.args.next.task) c.args.next.bytes.items (program_of c.in-Some.program.now) there (birth_from c.in-Spawns.child) (state_of c.in-Spawns.taken) (state_of c.in-Spawns.field-2)
    (record { task = c.in_ok-born-in-Spawns.born; bytes = c.in-Spawns.child.bytes }) is c.in_ok-born-in-Spawns.ensures.value refl) in_it) [
      | inl before ↦ one_more c.args.path.now.items c.push-in-Spawns.new.self.items c.with_state-in-Spawns.result q X c.in_ok-push-in-Spawns.ensures.items
          (far_parent (map program_of c.args.programs.now) (task_of c.args.next.task) c.args.next.bytes.items (program_of c.in-Some.program.now) there (birth_from c.in-Spawns.child) (state_of c.in-Spawns.taken) (state_of c.in-Spawns.field-2)
          c.with_state-in-Spawns.result is parent_is c.with_state-in-Spawns.ensures.bytes) before
      | inr holds ↦ inr holds
    ]
