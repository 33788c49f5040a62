use Rattle.std.proofs.Common.{◌≡◌, ◌∙◌, ap, subst, arith, inl, inr, length, refl, Some, slice_get, List, ℕ}
use Rattle.std.proofs.lemmas.Option.{slice_get_read}
use Rattle.std.proofs.lemmas.Result.{err_from_is_err_and}
use Rattle.machine_model.specs.JobState.{state_in}
use Rattle.machine_model.specs.Machine.{State, Effect}
use Rattle.reference.specs.Records.{BearsFar, task_of}
use Rattle.reference.specs.declared.records.JobMember.{JobMember}
use Rattle.reference.specs.declared.records.JobMember.TheVariants.{Live}
use Rattle.reference.proofs.RunLemmas.{far_step, same_error}
use Rattle.reference.proofs.runs.step_change.Goals as goal

pub returns-in_err-outcome-in-Some-get-clause-far : goal.returns-in_err-outcome-in-Some-get-clause-far
returns-in_err-outcome-in-Some-get-clause-far c = λ is.
    let p = err_from_is_err_and c.from_residual-in_err-outcome-in-Some-get.result c.from_residual-in_err-outcome-in-Some-get.ensures.1 in
    let far = c.in_err-outcome-in-Some-get.ensures.far (same_error _ _ _ _ p.1 p.2 is) in
    let state = c.in_ok-state-in-Some-get.ensures.value ∙ ap (λ (b : List ℕ). state_in b (task_of c.in-Live.task)) c.deref-in-Some-get.ensures.value in
    let slot : c.in_ok-state-in-Some-get.state.slot ≡ c.in-Live.task.slot = ap (λ (s : State). s.slot) state in
    let here : slice_get c.args.job.now.tasks.items c.args.n ≡ Some (Live c.in-Live.task) =
    subst (λ (tasks : List JobMember). slice_get tasks c.args.n ≡ Some (Live c.in-Live.task)) c.deref.ensures.value
    (slice_get_read c.deref.result.now (length c.deref.result.now) c.args.n c.in-Some.member.now refl c.in-Some.ensures.lookup.3.0 c.in-Some.ensures.lookup.1
    ∙ ap Some c.in-Live.is) in
    let there = slice_get_read c.args.programs.now (length c.args.programs.now) c.in-Live.task.program c.in-Some-get.program.now refl
    c.in-Some-get.ensures.lookup.3.0 c.in-Some-get.ensures.lookup.1 in
    far_step c.args.programs.now c.args.job.now.tasks.items c.args.job.now.buffer.items c.args.n c.args.refuses c.in-Live.task c.in-Some-get.program.now
    c.in_ok-state-in-Some-get.state here there state
    (elim far [ inl past ↦ inl (omega (arith, past, slot)) | inr goes ↦ inr (inl goes) ])

pub returns-in_err-change-in-Some-get-clause-far : goal.returns-in_err-change-in-Some-get-clause-far
returns-in_err-change-in-Some-get-clause-far c = λ is.
    let p = err_from_is_err_and c.from_residual-in_err-change-in-Some-get.result c.from_residual-in_err-change-in-Some-get.ensures.1 in
    let far = c.in_err-change-in-Some-get.ensures.far (same_error _ _ _ _ p.1 p.2 is) in
    let here : slice_get c.args.job.now.tasks.items c.args.n ≡ Some (Live c.in-Live.task) =
    subst (λ (tasks : List JobMember). slice_get tasks c.args.n ≡ Some (Live c.in-Live.task)) c.deref.ensures.value
    (slice_get_read c.deref.result.now (length c.deref.result.now) c.args.n c.in-Some.member.now refl c.in-Some.ensures.lookup.3.0 c.in-Some.ensures.lookup.1
    ∙ ap Some c.in-Live.is) in
    let there = slice_get_read c.args.programs.now (length c.args.programs.now) c.in-Live.task.program c.in-Some-get.program.now refl
    c.in-Some-get.ensures.lookup.3.0 c.in-Some-get.ensures.lookup.1 in
    far_step c.args.programs.now c.args.job.now.tasks.items c.args.job.now.buffer.items c.args.n c.args.refuses c.in-Live.task c.in-Some-get.program.now
    c.in_ok-state-in-Some-get.state here there
    (c.in_ok-state-in-Some-get.ensures.value ∙ ap (λ (b : List ℕ). state_in b (task_of c.in-Live.task)) c.deref-in-Some-get.ensures.value)
    (inr (inr (subst (λ (e : Effect). BearsFar (task_of c.in-Live.task) c.args.refuses e) c.in_ok-outcome-in-Some-get.ensures.value far)))
