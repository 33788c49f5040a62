-- What a legal history of a job says of its tasks.
use Rattle.std.proofs.Common.{◌≡◌, ℕ, zero, suc, ◌+◌, ◌<◌, List, [], ◌∷◌, length, get_or, refl, sym, ap, ◌∙◌, subst, arith, length-append, length-set, Some}
use Rattle.std.specs.Prelude.{slice_get}
use Rattle.credit_book.specs.declared.event.Event.{Event}
use Rattle.credit_book.specs.declared.event.Event.TheVariants.{Open, Spawn, Park, Claim, End}
use Rattle.credit_book.specs.declared.event.TaskEnd.{TaskEnd}
use Rattle.credit_book.specs.History.{TaskTable, standing_at, task_at, no_tasks, May, after, new_task, table_from, table_of, IsLegalFrom, IsHistoryOf, IsComplete, spent_in, returned_in}
use Rattle.credit_book.proofs.Sound.{IsSound, sound-after, sound_of, at_set, at_end, alive_from-work, within, held_from-complete}

-- each task has the number of its place
abbrev AreNumbered : TaskTable → Type 0
AreNumbered t = (k : ℕ) → k < length t.tasks → (task_at t k).number ≡ k

numbered_after : (issued : ℕ) (t : TaskTable) (e : Event) → IsSound issued t → May t e → AreNumbered t → AreNumbered (after t e)
numbered_after issued t (Open job credit) sound may are = absurd (let h = sound.some in omega (arith, ap length may.0))
numbered_after issued t (Spawn parent child program share arg base len) sound may are = λ k lt.
    at_end (λ (e : TaskEnd). e.number ≡ k) t.tasks k (new_task child program arg share) _
    (let l = length-append t.tasks (new_task child program arg share ∷ []) in omega (arith, l, lt)) (λ h. are k h)
    (λ e. may.1 ∙ sym sound.paired ∙ sym e)
numbered_after issued t (Park n) sound may are = are
numbered_after issued t (Claim n) sound may are = are
numbered_after issued t (End n used r0 ran base bytes) sound may are = λ k lt.
    let there : n < length t.tasks = let w = within t.standings n (alive_from-work (standing_at t n).stage may.0) in let p = sound.paired in omega arith in
    at_set (λ (e : TaskEnd). e.number ≡ k) t.tasks n k _ _ there (λ e. are n there ∙ sym e)
    (λ ne. are k (subst (λ (l : ℕ). k < l) (length-set t.tasks n _) lt))

numbered_from : (issued : ℕ) (t : TaskTable) (es : List Event) → IsSound issued t → AreNumbered t → IsLegalFrom t es → AreNumbered (table_from t es)
numbered_from issued t [] sound are legal = are
numbered_from issued t (e ∷ es) sound are legal =
    numbered_from issued (after t e) es (sound-after issued t e sound legal.0) (numbered_after issued t e sound legal.0 are) legal.1

first : (job issued : ℕ) → AreNumbered (after no_tasks (Open job issued))
first job issued zero lt = refl
first job issued (suc k) lt = absurd (omega arith)

at_place : (ts : List TaskEnd) (n : ℕ) (task d : TaskEnd) → slice_get ts n ≡ Some task → (n < length ts) × (get_or ts n d ≡ task)
at_place [] n task d is = cc
at_place (t ∷ ts) zero task d is = (omega arith, cc)
at_place (t ∷ ts) (suc n) task d is = let h = at_place ts n task d is in (omega (arith, h.0), h.1)

-- the tasks are numbered from 0 up
pub numbered_of : (job issued : ℕ) (es : List Event) → IsHistoryOf job issued es → (n : ℕ) (task : TaskEnd) →
    slice_get (table_of es).tasks n ≡ Some task → task.number ≡ n
numbered_of job issued es h n task is =
    let legal : IsLegalFrom no_tasks (Open job issued ∷ h.1.0) = subst (IsLegalFrom no_tasks) h.1.1 h.0 in
    let opened : IsHistoryOf job issued (Open job issued ∷ []) = ((legal.0, tt), ([], refl)) in
    let sound = (sound_of job issued (Open job issued ∷ []) opened).0 in
    let are : AreNumbered (table_of es) = subst (λ (l : List Event). AreNumbered (table_of l)) (sym h.1.1)
    (numbered_from issued (after no_tasks (Open job issued)) h.1.0 sound (first job issued) legal.1) in
    let place = at_place (table_of es).tasks n task _ is in
    sym (ap (λ (e : TaskEnd). e.number) place.1) ∙ are n place.0

-- where no task is alive, all that was issued is spent or returned
pub whole_of : (job issued : ℕ) (es : List Event) → IsHistoryOf job issued es → IsComplete (table_of es) →
    spent_in (table_of es) + returned_in (table_of es) ≡ issued
whole_of job issued es h complete =
    let sound = (sound_of job issued es h).0 in
    let none = held_from-complete issued (table_of es) sound complete in
    let all = sound.conserved in omega (arith, none, all)
