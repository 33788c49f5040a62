use Rattle.std.proofs.Common.{◌≡◌, ◌≤◌, ◌∙◌, ap, subst, sym, arith, inl, inr, length, option_map, refl, Some, slice_get, List, ℕ}
use Rattle.std.proofs.lemmas.Bool.Decides.{nat_tests}
use Rattle.std.proofs.lemmas.Option.{slice_get-map, slice_get_past, slice_get_read, slice_get_within}
use Rattle.std.proofs.lemmas.Result.{err_from_is_err_and}
use Rattle.insn_codec.specs.declared.insn.Placed.{Placed}
use Rattle.machine_model.specs.JobState.{entries_of, state_in}
use Rattle.machine_model.specs.Machine.{State, effect}
use Rattle.reference.specs.Records.{effect_of, job_of, member_of, program_of, state_of, task_of}
use Rattle.reference.specs.declared.records.ReferenceProgram.{ReferenceProgram}
use Rattle.reference.proofs.RunLemmas.{far_step, same_error}
use Rattle.run_trace.specs.JobTelling.{IsEffectIn}
use Rattle.run_trace.specs.Spelled.{listings_of, programs_of}
use Rattle.run_trace.proofs.JobLemmas.{alive_there, length_map, listing_there, no_program, program_there, told_by}
use Rattle.run_trace.proofs.job_tracing.told_of.Goals as goal

pub returns-in_err-outcome-in-Some-clause-far : goal.returns-in_err-outcome-in-Some-clause-far
returns-in_err-outcome-in-Some-clause-far c = λ is.
    let p = err_from_is_err_and c.from_residual-in_err-outcome-in-Some.result c.from_residual-in_err-outcome-in-Some.ensures.1 in
    let far = rw c.deref-in-Some-3.ensures.value at (c.in_err-outcome-in-Some.ensures.far (same_error _ _ _ _ p.1 p.2 is)) in
    let state = c.in_ok-state-in-Some.ensures.value ∙ ap (λ (b : List ℕ). state_in b (task_of c.args.task.now)) c.deref-in-Some-2.ensures.value in
    let slot : c.in_ok-state-in-Some.state.slot ≡ c.args.task.now.slot = ap (λ (s : State). s.slot) state in
    let there = subst (λ (ps : List ReferenceProgram). slice_get ps c.args.task.now.program ≡ Some c.in-Some.program.now) c.deref.ensures.value
    (slice_get_read c.deref.result.now (length c.deref.result.now) c.args.task.now.program c.in-Some.program.now refl c.in-Some.ensures.lookup.3.0 c.in-Some.ensures.lookup.1) in
    far_step c.args.programs.now.programs.items c.args.job.now.tasks.items c.args.job.now.buffer.items c.args.entry.number c.args.entry.refuses c.args.task.now
    c.in-Some.program.now c.in_ok-state-in-Some.state c.requires.alive there state
    (elim far [ inl past ↦ inl (omega (arith, past, slot)) | inr goes ↦ inr (inl goes) ])

pub tell-requires-clause-turn : goal.tell-requires-clause-turn
tell-requires-clause-turn c =
    let there = subst (λ (ps : List ReferenceProgram). slice_get ps c.args.task.now.program ≡ Some c.in-Some.program.now) c.deref.ensures.value
    (slice_get_read c.deref.result.now (length c.deref.result.now) c.args.task.now.program c.in-Some.program.now refl c.in-Some.ensures.lookup.3.0 c.in-Some.ensures.lookup.1) in
    let listing = listing_there c.args.programs.now c.args.task.now.program c.index.result.now c.requires.listed
    (slice_get_within c.args.programs.now.programs.items c.args.task.now.program c.in-Some.program.now there) c.index.ensures in
    rw c.deref-in-Some-4.ensures.value
    ((c.requires.listed.each c.args.task.now.program c.index.result.now.placed.items (program_of c.in-Some.program.now) listing
    (program_there c.args.programs.now c.args.task.now.program c.in-Some.program.now there)).1)

pub tell-requires-clause-effect : goal.tell-requires-clause-effect
tell-requires-clause-effect c =
    let there = subst (λ (ps : List ReferenceProgram). slice_get ps c.args.task.now.program ≡ Some c.in-Some.program.now) c.deref.ensures.value
    (slice_get_read c.deref.result.now (length c.deref.result.now) c.args.task.now.program c.in-Some.program.now refl c.in-Some.ensures.lookup.3.0 c.in-Some.ensures.lookup.1) in
    let listing = listing_there c.args.programs.now c.args.task.now.program c.index.result.now c.requires.listed
    (slice_get_within c.args.programs.now.programs.items c.args.task.now.program c.in-Some.program.now there) c.index.ensures in
    let before = c.in_ok-before-in-Some.ensures.value ∙ ap (λ (b : List ℕ). state_in b (task_of c.args.task.now)) c.deref-in-Some.ensures.value in
    let state = c.in_ok-state-in-Some.ensures.value ∙ ap (λ (b : List ℕ). state_in b (task_of c.args.task.now)) c.deref-in-Some-2.ensures.value in
    let comes = rw c.deref-in-Some-3.ensures.value at c.in_ok-outcome-in-Some.ensures.value in
    subst (λ (l : List Placed). IsEffectIn l (state_of c.in_ok-before-in-Some.before) (effect_of c.in_ok-outcome-in-Some.outcome)) (sym c.deref-in-Some-4.ensures.value)
    (record {
      program = program_of c.in-Some.program.now;
      entries = entries_of (programs_of c.args.programs.now);
      code = (c.requires.listed.each c.args.task.now.program c.index.result.now.placed.items (program_of c.in-Some.program.now) listing
          (program_there c.args.programs.now c.args.task.now.program c.in-Some.program.now there)).0;
      is = ap (effect (program_of c.in-Some.program.now) (entries_of (programs_of c.args.programs.now))) (before ∙ sym state) ∙ sym comes;
    })

pub returns-in-None-clause-told : goal.returns-in-None-clause-told
returns-in-None-clause-told c = λ next goes.
    let alive = alive_there c.args.job.now.tasks.items c.args.entry.number c.args.task.now c.requires.alive in
    let past : length c.args.programs.now.programs.items ≤ c.args.task.now.program =
    grind (arith, nat_tests, c.in-None.ensures.lookup.0, ap length c.deref.ensures.value) in
    let none = slice_get-map program_of c.args.programs.now.programs.items c.args.task.now.program
    ∙ ap (option_map program_of) (slice_get_past c.args.programs.now.programs.items c.args.task.now.program past) in
    absurd (no_program (programs_of c.args.programs.now) (job_of c.args.job.now) c.args.entry.number c.args.entry.refuses (task_of c.args.task.now) alive none next goes)

pub returns-in_ok-told-in-Some-clause-told : goal.returns-in_ok-told-in-Some-clause-told
returns-in_ok-told-in-Some-clause-told c = λ next goes.
    let there = subst (λ (ps : List ReferenceProgram). slice_get ps c.args.task.now.program ≡ Some c.in-Some.program.now) c.deref.ensures.value
    (slice_get_read c.deref.result.now (length c.deref.result.now) c.args.task.now.program c.in-Some.program.now refl c.in-Some.ensures.lookup.3.0 c.in-Some.ensures.lookup.1) in
    let listing = listing_there c.args.programs.now c.args.task.now.program c.index.result.now c.requires.listed
    (slice_get_within c.args.programs.now.programs.items c.args.task.now.program c.in-Some.program.now there) c.index.ensures in
    let before = c.in_ok-before-in-Some.ensures.value ∙ ap (λ (b : List ℕ). state_in b (task_of c.args.task.now)) c.deref-in-Some.ensures.value in
    let state = c.in_ok-state-in-Some.ensures.value ∙ ap (λ (b : List ℕ). state_in b (task_of c.args.task.now)) c.deref-in-Some-2.ensures.value in
    let comes = rw c.deref-in-Some-3.ensures.value at c.in_ok-outcome-in-Some.ensures.value in
    let count : c.len-count.result ≡ length c.args.job.now.tasks.items = c.len-count.ensures ∙ c.args.job.now.tasks.ok.0 in
    let by = rw c.deref-in-Some-4.ensures.value at c.in_ok-told-in-Some.ensures in
    told_by (programs_of c.args.programs.now) (job_of c.args.job.now) c.args.entry.number c.args.entry.refuses (task_of c.args.task.now)
    (alive_there c.args.job.now.tasks.items c.args.entry.number c.args.task.now c.requires.alive)
    (listings_of c.args.programs.now) (program_of c.in-Some.program.now) c.index.result.now.placed.items (state_of c.in_ok-before-in-Some.before)
    (effect_of c.in_ok-outcome-in-Some.outcome) c.len-count.result c.in_ok-told-in-Some.told
    (program_there c.args.programs.now c.args.task.now.program c.in-Some.program.now there) listing
    (count ∙ sym (length_map member_of c.args.job.now.tasks.items)) before
    (comes ∙ ap (effect (program_of c.in-Some.program.now) (entries_of (programs_of c.args.programs.now))) state) by next goes
